-- The ends and hits of more cases.
use Rattle.std.proofs.Common.{◌≡◌, ◌⊎◌, ℕ, zero, suc, ◌<◌, List, [], ◌∷◌, ◌++◌, length, set, append-nil, sym, ap, refl, inl, inr, ⊎_elim, ◌∙◌, subst, arith}
use Rattle.std.specs.Prelude.{Contains, Option, Some, None, slice_get}
use Rattle.std.specs.List.{filter_map}
use native.Mathlib.Decide.{ℕ_discrete}
use Rattle.std.proofs.lemmas.List.Elements.{filter_map-append, Contains-append_left, Contains-append_right, Contains-append_cases}
use Rattle.jc_workers.specs.Ran.{EndsOf, HitsOf, AreEnds}

pub nothing : {A : Type 0} (x : A) → Contains [] x → ⊥
nothing x h = omega (arith, h.1)

pub no_ends : {E : Type 0} (cases : ℕ) (end_of : ℕ → E) (Ran : ℕ → Type 0) → ((k : ℕ) → Ran k → ⊥) → EndsOf cases end_of Ran []
no_ends cases end_of Ran none = record { each = λ k e h. absurd (nothing (k, e) h); all = λ k lt r. absurd (none k r) }

pub no_hits : (cases : ℕ) (hit_by : ℕ → ℕ → ℕ → Type 0) (Ran : ℕ → Type 0) → ((k : ℕ) → Ran k → ⊥) → HitsOf cases hit_by Ran []
no_hits cases hit_by Ran none = record { by = λ c i h. absurd (nothing (c, i) h); all = λ k c i lt r. absurd (none k r) }

-- no case, and no hit
pub none_ran : (cases : ℕ) (hit_by : ℕ → ℕ → ℕ → Type 0) (hits : List (ℕ × ℕ)) → hits ≡ [] → HitsOf cases hit_by (Contains []) hits
none_ran cases hit_by hits none = subst (HitsOf cases hit_by (Contains [])) (sym none) (no_hits cases hit_by (Contains []) (λ k h. nothing k h))

-- the same cases, said otherwise
module _ (cases : ℕ) (Ran Now : ℕ → Type 0) (to : (k : ℕ) → k < cases → Ran k → Now k) (from : (k : ℕ) → k < cases → Now k → Ran k) where
  pub same_ends : {E : Type 0} (end_of : ℕ → E) (ends : List (ℕ × E)) → EndsOf cases end_of Ran ends → EndsOf cases end_of Now ends
  same_ends end_of ends e = record { each = e.each; all = λ k lt r. e.all k lt (from k lt r) }

  pub same_hits : (hit_by : ℕ → ℕ → ℕ → Type 0) (hits : List (ℕ × ℕ)) → HitsOf cases hit_by Ran hits → HitsOf cases hit_by Now hits
  same_hits hit_by hits h = record { by = λ c i x. let t = h.by c i x in (t.0, t.1, to t.0 t.1 t.2, t.3); all = λ k c i lt r. h.all k c i lt (from k lt r) }

-- one case more
module _ (cases : ℕ) (Ran Now : ℕ → Type 0) (n : ℕ) (there : n < cases) (to : (k : ℕ) → k < cases → Ran k → Now k)
    (from : (k : ℕ) → k < cases → Now k → Ran k ⊎ (k ≡ n)) (now : Now n) where
  pub more_ends : {E : Type 0} (end_of : ℕ → E) (ends : List (ℕ × E)) (e : E) → e ≡ end_of n → EndsOf cases end_of Ran ends
      → EndsOf cases end_of Now (ends ++ (n, e) ∷ [])
  more_ends {E} end_of ends e is old = record {
    each = λ k x h. ⊎_elim (λ was. old.each k x was) (λ new. let t = only k x new
        in (subst (λ m. m < cases) (sym t.0) there, t.1 ∙ is ∙ ap end_of (sym t.0))) (Contains-append_cases ends ((n, e) ∷ []) (k, x) h);
    all = λ k lt r. ⊎_elim
        (λ was. Contains-append_left ends ((n, e) ∷ []) (k, end_of k) (old.all k lt was))
        (λ same. Contains-append_right ends ((n, e) ∷ []) (k, end_of k) (0, omega arith, λ j. (sym same j, (is ∙ ap end_of (sym same)) j)))
        (from k lt r);
  }
    where
      only : (k : ℕ) (x : E) → Contains {X = ℕ × E} ((n, e) ∷ []) (k, x) → (k ≡ n) × (x ≡ e)
      only k x (zero, lt, p) = (ap (λ (t : ℕ × E). t.0) (sym p), ap (λ (t : ℕ × E). t.1) (sym p))
      only k x (suc j, lt, p) = absurd (omega (arith, lt))

  pub more_hits : (hit_by : ℕ → ℕ → ℕ → Type 0) (hits new : List (ℕ × ℕ)) → HitsOf cases hit_by Ran hits
      → ((c i : ℕ) → hit_by n c i → Contains new (c, i))
      → ((c i : ℕ) → Contains hits (c, i) → Contains new (c, i))
      → ((c i : ℕ) → Contains new (c, i) → Contains hits (c, i) ⊎ hit_by n c i)
      → HitsOf cases hit_by Now new
  more_hits hit_by hits new old gained kept others = record {
    by = λ c i h. ⊎_elim
        (λ was. let t = old.by c i was in (t.0, t.1, to t.0 t.1 t.2, t.3))
        (λ e. (n, there, now, e))
        (others c i h);
    all = λ k c i lt r h. ⊎_elim
        (λ was. kept c i (old.all k c i lt was h))
        (λ same. gained c i (subst (λ m. hit_by m c i) same h))
        (from k lt r);
  }

-- the hits of two sets of cases
pub both_hits : (cases : ℕ) (hit_by : ℕ → ℕ → ℕ → Type 0) (Ran Other Now : ℕ → Type 0) (hits more : List (ℕ × ℕ)) → ((k : ℕ) → k < cases → Ran k → Now k)
    → ((k : ℕ) → k < cases → Other k → Now k) → ((k : ℕ) → k < cases → Now k → Ran k ⊎ Other k)
    → HitsOf cases hit_by Ran hits → HitsOf cases hit_by Other more → HitsOf cases hit_by Now (hits ++ more)
both_hits cases hit_by Ran Other Now hits more to other from a b = record {
  by = λ c i h. ⊎_elim
      (λ was. let t = a.by c i was in (t.0, t.1, to t.0 t.1 t.2, t.3))
      (λ was. let t = b.by c i was in (t.0, t.1, other t.0 t.1 t.2, t.3))
      (Contains-append_cases hits more (c, i) h);
  all = λ k c i lt r h. ⊎_elim
      (λ was. Contains-append_left hits more (c, i) (a.all k c i lt was h))
      (λ was. Contains-append_right hits more (c, i) (b.all k c i lt was h))
      (from k lt r);
}

-- where each end is there, the ends that are there are all ends
pub all_there : {E : Type 0} (end_of : ℕ → E) (ends : List (Option E)) → ((k : ℕ) → k < length ends → slice_get ends k ≡ Some (Some (end_of k)))
    → AreEnds (length ends) end_of (filter_map (λ e. e) ends)
all_there end_of [] h = record { count = refl; each = λ k lt. absurd (omega (arith, lt)) }
all_there {E} end_of (o ∷ os) h =
    let rest = all_there (λ k. end_of (suc k)) os (λ k lt. h (suc k) (omega (arith, lt))) in
    subst (λ (x : Option E). AreEnds (length (x ∷ os)) end_of (filter_map (λ e. e) (x ∷ os))) (sym (some_is o (Some (end_of 0)) (h 0 (omega arith)))) (record {
      count = omega (arith, rest.count);
      each = λ k lt. step rest k lt;
    })
  where
    some_is : (x y : Option E) → Some x ≡ Some y → x ≡ y
    some_is x y e = cc

    step : AreEnds (length os) (λ k. end_of (suc k)) (filter_map (λ e. e) os) → (k : ℕ) → k < length (Some (end_of 0) ∷ os)
        → slice_get (end_of 0 ∷ filter_map (λ e. e) os) k ≡ Some (end_of k)
    step rest zero lt = refl
    step rest (suc k) lt = rest.each k (omega (arith, lt))

-- an end that is there is taken
pub filtered_some : {E : Type 0} (ends : List (Option E)) (o : Option E) (e : E) (all now : List E) → o ≡ Some e → all ≡ filter_map (λ x. x) ends
    → now ≡ all ++ e ∷ [] → now ≡ filter_map (λ x. x) (ends ++ o ∷ [])
filtered_some {E} ends o e all now is was new =
    new ∙ ap (λ (l : List E). l ++ e ∷ []) was ∙ sym (filter_map-append (λ (x : Option E). x) ends (Some e ∷ []))
    ∙ ap (λ (x : Option E). filter_map (λ (y : Option E). y) (ends ++ x ∷ [])) (sym is)

pub filtered_none : {E : Type 0} (ends : List (Option E)) (o : Option E) (all : List E) → o ≡ None → all ≡ filter_map (λ x. x) ends
    → all ≡ filter_map (λ x. x) (ends ++ o ∷ [])
filtered_none {E} ends o all is was =
    was ∙ sym (append-nil (filter_map (λ (y : Option E). y) ends)) ∙ sym (filter_map-append (λ (x : Option E). x) ends (None ∷ []))
    ∙ ap (λ (x : Option E). filter_map (λ (y : Option E). y) (ends ++ x ∷ [])) (sym is)

module _ {A : Type 0} where
  pub set_same : (l : List A) (n : ℕ) (a : A) → n < length l → slice_get (set l n a) n ≡ Some a
  set_same [] n a h = absurd (omega (arith, h))
  set_same (x ∷ xs) zero a h = refl
  set_same (x ∷ xs) (suc n) a h = set_same xs n a (omega (arith, h))

  pub set_other : (l : List A) (n k : ℕ) (a : A) → (k ≡ n → ⊥) → slice_get (set l n a) k ≡ slice_get l k
  set_other [] n k a ne = refl
  set_other (x ∷ xs) zero zero a ne = absurd (ne refl)
  set_other (x ∷ xs) zero (suc k) a ne = refl
  set_other (x ∷ xs) (suc n) zero a ne = refl
  set_other (x ∷ xs) (suc n) (suc k) a ne = set_other xs n k a (λ e. ne (ap suc e))

-- a right end is put at its place
pub put_end : {E : Type 0} (end_of : ℕ → E) (ends : List (Option E)) (n k : ℕ) (e : E) → n < length ends → e ≡ end_of n
    → (slice_get ends k ≡ Some (Some (end_of k))) ⊎ (k ≡ n) → slice_get (set ends n (Some e)) k ≡ Some (Some (end_of k))
put_end {E} end_of ends n k e lt is (inr same) =
    subst (λ m. slice_get (set ends n (Some e)) m ≡ Some (Some (end_of m))) (sym same) (set_same ends n (Some e) lt ∙ ap (λ (x : E). Some (Some x)) is)
put_end {E} end_of ends n k e lt is (inl was) = elim (ℕ_discrete k n) as (λ _. slice_get (set ends n (Some e)) k ≡ Some (Some (end_of k))) [
  | yes same ↦ subst (λ m. slice_get (set ends n (Some e)) m ≡ Some (Some (end_of m))) (sym same)
      (set_same ends n (Some e) lt ∙ ap (λ (x : E). Some (Some x)) is)
  | no ne ↦ set_other ends n k (Some e) ne ∙ was
]

-- the last of a list
pub last_is : {A : Type 0} (l : List A) (a b : A) → Contains (l ++ a ∷ []) b → Contains l b ⊎ (b ≡ a)
last_is l a b h = ⊎_elim (λ old. inl old) (λ new. inr (only new)) (Contains-append_cases l (a ∷ []) b h)
  where
    only : Contains (a ∷ []) b → b ≡ a
    only (zero, lt, e) = sym e
    only (suc j, lt, e) = absurd (omega (arith, lt))

pub has_last : {A : Type 0} (l : List A) (a : A) → Contains (l ++ a ∷ []) a
has_last l a = Contains-append_right l (a ∷ []) a (0, omega arith, refl)

-- the last end of a worker is put at its place
pub put_more : {E : Type 0} (end_of : ℕ → E) (was ends : List (Option E)) (all done rest : List (ℕ × E)) (n : ℕ) (e : E)
    → ((k : ℕ) (x : E) → Contains all (k, x) → (k < length ends) × (x ≡ end_of k))
    → done ≡ rest ++ (n, e) ∷ []
    → ((k : ℕ) → slice_get was k ≡ Some (Some (end_of k)) → slice_get ends k ≡ Some (Some (end_of k)))
    → ((k : ℕ) (x : E) → Contains done (k, x) → Contains all (k, x))
    → ((k : ℕ) (x : E) → Contains all (k, x) → Contains done (k, x) ⊎ (slice_get ends k ≡ Some (Some (end_of k))))
    → ((k : ℕ) → slice_get was k ≡ Some (Some (end_of k)) → slice_get (set ends n (Some e)) k ≡ Some (Some (end_of k)))
    × ((k : ℕ) (x : E) → Contains rest (k, x) → Contains all (k, x))
    × ((k : ℕ) (x : E) → Contains all (k, x) → Contains rest (k, x) ⊎ (slice_get (set ends n (Some e)) k ≡ Some (Some (end_of k))))
put_more {E} end_of was ends all done rest n e right split kept from to =
    let mine = right n e (from n e (subst (λ (l : List (ℕ × E)). Contains l (n, e)) (sym split) (has_last rest (n, e)))) in (
      λ k h. put_end end_of ends n k e mine.0 mine.1 (inl (kept k h)),
      λ k x h. from k x (subst (λ (l : List (ℕ × E)). Contains l (k, x)) (sym split) (Contains-append_left rest ((n, e) ∷ []) (k, x) h)),
      λ k x h. ⊎_elim
          (λ left. ⊎_elim
          (λ old. inl old)
          (λ same. inr (put_end end_of ends n k e mine.0 mine.1 (inr (ap (λ (t : ℕ × E). t.0) same))))
          (last_is rest (n, e) (k, x) (subst (λ (l : List (ℕ × E)). Contains l (k, x)) split left)))
          (λ there. inr (put_end end_of ends n k e mine.0 mine.1 (inl there)))
          (to k x h),
    )
