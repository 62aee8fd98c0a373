-- The first two items of one key, found by the keys of those in front.
use Rattle.std.proofs.Common.{◌≡◌, ◌⊎◌, inl, inr, ⊎_elim, ℕ, zero, suc, ◌+◌, ◌<◌, ◌≤◌, Bool, true, false, cond, List, [], ◌∷◌, ◌++◌, length, slice_get, nat_eq, bytes_eq, Option, Some, None, refl, sym, ap, ◌∙◌, subst, arith}
use Rattle.std.specs.List.{list_any, IsDistinct}
use Rattle.std.proofs.lemmas.Bool.{eqb-true, eq-eqb, both_ways}
use Rattle.std.proofs.lemmas.Option.{slice_get_within, same_Some}
use Rattle.std.proofs.lemmas.Slice.Eq.{bytes_eq-Decides}
use Rattle.jc_bytes.specs.Names.{with_name}
use Rattle.jc_bytes.proofs.ListLaws.{all_at, put_stays, put_last, put_cases, below_or_last}
use Rattle.jc_bytes.proofs.OptionLaws.{none_some}
use Rattle.jc_link_programs.specs.Pairs.{HaveOne, NoPair, IsFirstPair}

module _ {X K : Type 0} (key : X → Option K) (items : List X) where
  -- Of the items in front of a place: each key is known at one of them, and each that is known at a place stands there.
  pub record Knows (At : K → ℕ → Type 0) (count : ℕ) : Type 0 where
    pub found : (k : K) (i : ℕ) → At k i → (i < count) × ((x : X) × (slice_get items i ≡ Some x) × (key x ≡ Some k))
    pub all : (i : ℕ) (x : X) (k : K) → i < count → slice_get items i ≡ Some x → key x ≡ Some k → At k i
    pub one : (k : K) (i j : ℕ) → At k i → At k j → i ≡ j

  no_pair_before : (At : K → ℕ → Type 0) (count : ℕ) → Knows At count → (a b : ℕ) → a < b → b < count → HaveOne key items a b → ⊥
  no_pair_before At count h a b less within same =
      let e = h.one same.shared a b (h.all a same.a same.shared (omega (arith, less, within)) same.first_is same.first_key) (h.all b same.b same.shared within same.second_is same.second_key) in
      omega (arith, e, less)

  -- the item has a key that is known
  pub pair_found : (At : K → ℕ → Type 0) (count first : ℕ) (x : X) (k : K) → Knows At count → slice_get items count ≡ Some x → key x ≡ Some k → At k first
      → IsFirstPair (HaveOne key items) first count
  pair_found At count first x k h here has at =
      let f = h.found k first at in
      record {
        ordered = f.0;
        there = record { a = f.1.0; b = x; shared = k; first_is = f.1.1; second_is = here; first_key = f.1.2; second_key = has };
        least_second = no_pair_before At count h;
        least_first = λ a less same. (
            let y = same_Some same.b x (sym same.second_is ∙ here) in
            let j = same_Some same.shared k (sym same.second_key ∙ ap key y ∙ has) in
            let before = f.0 in
            let e = h.one k a first (subst (λ q. At q a) j (h.all a same.a same.shared (omega (arith, less, before)) same.first_is same.first_key)) at in
            omega (arith, e, less));
      }

  -- the item has no key
  pub known_without : (At : K → ℕ → Type 0) (count : ℕ) (x : X) → Knows At count → slice_get items count ≡ Some x → key x ≡ None → Knows At (count + 1)
  known_without At count x h here none = record {
    found = λ k i at. (let f = h.found k i at in let less = f.0 in (omega (arith, less), f.1));
    all = λ i y k less there has. by i y k there has (below_or_last count i less);
    one = h.one;
  }
    where
      by : (i : ℕ) (y : X) (k : K) → slice_get items i ≡ Some y → key y ≡ Some k → (i < count) ⊎ (i ≡ count) → At k i
      by i y k there has (inl less) = h.all i y k less there has
      by i y k there has (inr same) =
          let e = same_Some y x (sym there ∙ ap (λ n. slice_get items n) same ∙ here) in
          absurd (none_some (sym none ∙ ap key (sym e) ∙ has))

  -- the item has a key that isn't known, and it becomes known there
  pub known_with : (At New : K → ℕ → Type 0) (count : ℕ) (x : X) (k : K) → Knows At count → slice_get items count ≡ Some x → key x ≡ Some k
      → ((q : K) (i : ℕ) → At q i → New q i) → New k count → ((q : K) (i : ℕ) → New q i → At q i ⊎ ((q ≡ k) × (i ≡ count))) → ((i : ℕ) → At k i → ⊥)
      → Knows New (count + 1)
  known_with At New count x k h here has keeps gains only fresh = record {
    found = λ q i at. found_by q i (only q i at);
    all = λ i y q less there own. all_by i y q there own (below_or_last count i less);
    one = λ q i j at other. one_by q i j (only q i at) (only q j other);
  }
    where
      found_by : (q : K) (i : ℕ) → At q i ⊎ ((q ≡ k) × (i ≡ count)) → (i < count + 1) × ((y : X) × (slice_get items i ≡ Some y) × (key y ≡ Some q))
      found_by q i (inl at) = let f = h.found q i at in let less = f.0 in (omega (arith, less), f.1)
      found_by q i (inr p) = let e = p.1 in (omega (arith, e), (x, ap (λ n. slice_get items n) p.1 ∙ here, has ∙ ap Some (sym p.0)))

      all_by : (i : ℕ) (y : X) (q : K) → slice_get items i ≡ Some y → key y ≡ Some q → (i < count) ⊎ (i ≡ count) → New q i
      all_by i y q there own (inl less) = keeps q i (h.all i y q less there own)
      all_by i y q there own (inr same) =
          let e = same_Some y x (sym there ∙ ap (λ n. slice_get items n) same ∙ here) in
          let j = same_Some q k (sym own ∙ ap key e ∙ has) in
          subst (λ n. New q n) (sym same) (subst (λ p. New p count) (sym j) gains)

      one_by : (q : K) (i j : ℕ) → At q i ⊎ ((q ≡ k) × (i ≡ count)) → At q j ⊎ ((q ≡ k) × (j ≡ count)) → i ≡ j
      one_by q i j (inl at) (inl other) = h.one q i j at other
      one_by q i j (inl at) (inr p) = absurd (fresh i (subst (λ p. At p i) p.0 at))
      one_by q i j (inr p) (inl other) = absurd (fresh j (subst (λ p. At p j) p.0 other))
      one_by q i j (inr p) (inr r) = p.1 ∙ sym r.1

  pub none_shares : (At : K → ℕ → Type 0) → Knows At (length items) → NoPair (HaveOne key items)
  none_shares At h first second less same = no_pair_before At (length items) h first second less (slice_get_within items second same.b same.second_is) same

-- ---- names, each known at its place in a list

distinct_one : (xs : List (List ℕ)) (i j : ℕ) (x : List ℕ) → IsDistinct bytes_eq xs → slice_get xs i ≡ Some x → slice_get xs j ≡ Some x → i ≡ j
unfolding IsDistinct
distinct_one [] i j x d e f = absurd (none_some e)
distinct_one (y ∷ xs) zero zero x d e f = refl
distinct_one (y ∷ xs) zero (suc j) x d e f = absurd (unlike x y (same_Some y x e) (all_at (λ z. bytes_eq y z ≡ false) xs j x d.0 f))
  where
    unlike : (x y : List ℕ) → y ≡ x → bytes_eq y x ≡ false → ⊥
    unlike x y same h = both_ways (bytes_eq y x) h ((bytes_eq-Decides y x).1 same)
distinct_one (y ∷ xs) (suc i) zero x d e f = absurd (unlike x y (same_Some y x f) (all_at (λ z. bytes_eq y z ≡ false) xs i x d.0 e))
  where
    unlike : (x y : List ℕ) → y ≡ x → bytes_eq y x ≡ false → ⊥
    unlike x y same h = both_ways (bytes_eq y x) h ((bytes_eq-Decides y x).1 same)
distinct_one (y ∷ xs) (suc i) (suc j) x d e f = ap suc (distinct_one xs i j x d.1 e f)

-- where a name stands in a list
abbrev pub StandsAt : List (List ℕ) → List ℕ → ℕ → Type 0
StandsAt names name i = slice_get names i ≡ Some name

-- the name stood there before
pub numbered_before : (names new : List (List ℕ)) (name : List ℕ) (first : ℕ) → new ≡ with_name names name → slice_get new first ≡ Some name → first < length names → StandsAt names name first
numbered_before names new name first e at less = by (list_any (bytes_eq name) names) (ap (λ l. slice_get l first) (sym e) ∙ at)
  where
    by : (t : Bool) → slice_get (cond t names (names ++ name ∷ [])) first ≡ Some name → StandsAt names name first
    by true there = there
    by false there = ⊎_elim (λ h. h) (λ p. let last = p.0 in absurd (omega (arith, last, less))) (put_cases names name name first there)

-- the name is put behind the others
pub numbered_last : (names new : List (List ℕ)) (name : List ℕ) (first : ℕ) → new ≡ with_name names name → slice_get new first ≡ Some name → length names ≤ first → new ≡ names ++ name ∷ []
numbered_last names new name first e at le = e ∙ by (list_any (bytes_eq name) names) (ap (λ l. slice_get l first) (sym e) ∙ at)
  where
    by : (t : Bool) → slice_get (cond t names (names ++ name ∷ [])) first ≡ Some name → cond t names (names ++ name ∷ []) ≡ names ++ name ∷ []
    by true there = let less = slice_get_within names first name there in absurd (omega (arith, le, less))
    by false there = refl

-- a new name becomes known
pub named_more : {X : Type 0} (key : X → Option (List ℕ)) (items : List X) (names new : List (List ℕ)) (count : ℕ) (x : X) (name : List ℕ)
    → Knows key items (StandsAt names) count → length names ≡ count → slice_get items count ≡ Some x → key x ≡ Some name
    → IsDistinct bytes_eq new → new ≡ names ++ name ∷ [] → Knows key items (StandsAt new) (count + 1)
named_more key items names new count x name h n here has distinct e =
    subst (λ l. Knows key items (StandsAt l) (count + 1)) (sym e)
    (known_with key items (StandsAt names) (StandsAt (names ++ name ∷ [])) count x name h here has
    (λ q i at. put_stays names name q i at)
    (subst (λ k. StandsAt (names ++ name ∷ []) name k) n (put_last names name))
    (λ q i at. ⊎_elim (λ there. inl there) (λ p. inr (sym p.1, p.0 ∙ n)) (put_cases names name q i at))
    (λ i at.
    (let less = slice_get_within names i name at in
    let same = distinct_one (names ++ name ∷ []) i (length names) name (subst (IsDistinct bytes_eq) e distinct) (put_stays names name name i at) (put_last names name) in
    omega (arith, less, same))))

pub no_names_known : {X : Type 0} (key : X → Option (List ℕ)) (items : List X) (names : List (List ℕ)) → names ≡ [] → Knows key items (StandsAt names) 0
no_names_known key items names e = subst (λ l. Knows key items (StandsAt l) 0) (sym e) (record {
  found = λ k i at. absurd (none_some at);
  all = λ i x k less there has. absurd (omega (arith, less));
  one = λ k i j at other. absurd (none_some at);
})

-- ---- ids, each known by a map

abbrev pub IsOwner : (ℕ → Option ℕ) → ℕ → ℕ → Type 0
IsOwner f id i = f id ≡ Some i

pub no_ids_known : {X : Type 0} (key : X → Option ℕ) (items : List X) (f : ℕ → Option ℕ) → ((q : ℕ) → f q ≡ None) → Knows key items (IsOwner f) 0
no_ids_known key items f e = record {
  found = λ k i at. absurd (none_some (sym (e k) ∙ at));
  all = λ i x k less there has. absurd (omega (arith, less));
  one = λ k i j at other. absurd (none_some (sym (e k) ∙ at));
}

pub owned_more : {X : Type 0} (key : X → Option ℕ) (items : List X) (f g : ℕ → Option ℕ) (count : ℕ) (x : X) (id : ℕ)
    → Knows key items (IsOwner f) count → slice_get items count ≡ Some x → key x ≡ Some id → f id ≡ None
    → ((q : ℕ) → g q ≡ cond (nat_eq id q) (Some count) (f q)) → Knows key items (IsOwner g) (count + 1)
owned_more key items f g count x id h here has none updates =
    known_with key items (IsOwner f) (IsOwner g) count x id h here has
    (λ q i at. updates q ∙ keeps q i at (nat_eq id q) refl)
    (updates id ∙ ap (λ t. cond t (Some count) (f id)) (eq-eqb id id refl))
    (λ q i at. only q i (nat_eq id q) refl (sym (updates q) ∙ at))
    (λ i at. none_some (sym none ∙ at))
  where
    keeps : (q i : ℕ) → f q ≡ Some i → (t : Bool) → nat_eq id q ≡ t → cond t (Some count) (f q) ≡ Some i
    keeps q i at true e = absurd (none_some (sym none ∙ ap f (eqb-true id q e) ∙ at))
    keeps q i at false e = at

    only : (q i : ℕ) (t : Bool) → nat_eq id q ≡ t → cond t (Some count) (f q) ≡ Some i → (f q ≡ Some i) ⊎ ((q ≡ id) × (i ≡ count))
    only q i true e at = inr (sym (eqb-true id q e), sym (same_Some count i at))
    only q i false e at = inl at
