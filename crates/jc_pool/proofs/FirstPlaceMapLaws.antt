-- What a map of first places says after one is noted.
use Rattle.std.proofs.Common.{◌≡◌, ◌≢◌, ◌⊎◌, inl, inr, ℕ, Bool, true, false, List, [], ◌∷◌, ◌++◌, cond, ◌==◌, ◌&&◌, Option, Some, None, Decides, Bor, option_copied, is_some, refl, sym, ◌∙◌, ap, true≢false}
use Rattle.std.specs.Map.{lookup}
use Rattle.std.specs.Str.{bytes_eq}
use Rattle.std.proofs.lemmas.Bool.{cases_Bool}
use Rattle.std.proofs.lemmas.Bool.Decides.{Decides-eqb, Decides-int_eq}
use Rattle.std.proofs.lemmas.Map.{NonePasses, none_passes_from_lookup}
use Rattle.std.proofs.lemmas.Slice.Eq.{bytes_eq-Decides}
use Rattle.indexmap.specs.IndexMap.{insert_entry}
use Rattle.jc_pool.specs.declared.index.Key.{Key}
use Rattle.jc_pool.specs.declared.index.Key.TheVariants as key
use Rattle.jc_pool.specs.Index.{Notes, text_place, same_key, key_place}

module _ {X : Type 0} (test : X → Bool) where
  -- a pair that is put last is found where its key passes and no earlier one does
  push_same : (es : List (X × ℕ)) (k : X) (place : ℕ) → test k ≡ true → NonePasses test es → lookup test (es ++ (k, place) ∷ []) ≡ Some place
  push_same [] k place passes none = rw passes refl
  push_same (e ∷ es) k place passes none = rw none.0 (push_same es k place passes none.1)

  -- and is nothing to the search where its key doesn't pass
  push_other : (es : List (X × ℕ)) (k : X) (place : ℕ) → test k ≡ false → lookup test (es ++ (k, place) ∷ []) ≡ lookup test es
  push_other [] k place fails = rw fails refl
  push_other (e ∷ es) k place fails = ap (cond (test e.0) (Some e.1)) (push_other es k place fails)

  -- a key that is new goes last
  inserted_last : (eq : X → X → Bool) (es : List (X × ℕ)) (k : X) (place : ℕ) → NonePasses (eq k) es → insert_entry eq es k place ≡ es ++ (k, place) ∷ []
  inserted_last eq [] k place none = refl
  inserted_last eq (e ∷ es) k place none = rw none.0 (ap (λ (l : List (X × ℕ)). e ∷ l) (inserted_last eq es k place none.1))

module _ {X K : Type 0} (same : K → K → Bool) (tells : (a b : K) → Decides (same a b) (a ≡ b)) (key_of : X → K) where
  -- the place that a map has for a key
  abbrev place_of : List (X × ℕ) → K → Option ℕ
  place_of es what = lookup (λ x. same what (key_of x)) es

  pub fresh : (es fs : List (X × ℕ)) (k : X) (what : K) (place : ℕ) → key_of k ≡ what → fs ≡ insert_entry (λ a b. same (key_of a) (key_of b)) es k place → place_of es what ≡ None
      → Notes (place_of es) (place_of fs) what place place
  fresh es fs k what place is put none = inr (none, refl, each)
    where
      none_passes : NonePasses (λ x. same (key_of k) (key_of x)) es
      none_passes = none_passes_from_lookup (λ x. same (key_of k) (key_of x)) es (ap (place_of es) is ∙ none)

      last : fs ≡ es ++ (k, place) ∷ []
      last = put ∙ inserted_last (λ x. same (key_of k) (key_of x)) (λ a b. same (key_of a) (key_of b)) es k place none_passes

      each : (other : K) → ((other ≢ what) × (place_of fs other ≡ place_of es other)) ⊎ ((other ≡ what) × (place_of fs other ≡ Some place))
      each other = elim (cases_Bool (same other (key_of k))) [
        | inl passes ↦
            let this : other ≡ what = (tells other (key_of k)).0 passes ∙ is in
            inr (
              this,
              ap (λ (l : List (X × ℕ)). place_of l other) last ∙ push_same (λ x. same other (key_of x)) es k place passes
                  (none_passes_from_lookup (λ x. same other (key_of x)) es (ap (place_of es) this ∙ none)),
            )
        | inr fails ↦ inl (
          (λ this. true≢false (sym ((tells other (key_of k)).1 (this ∙ sym is)) ∙ fails)),
          ap (λ (l : List (X × ℕ)). place_of l other) last ∙ push_other (λ x. same other (key_of x)) es k place fails,
        )
      ]

-- ---- texts

pub text_fresh : {X : Type 0} (text_of : X → List ℕ) (es fs : List (X × ℕ)) (k : X) (text : List ℕ) (place : ℕ) → text_of k ≡ text
    → fs ≡ insert_entry (λ a b. bytes_eq (text_of a) (text_of b)) es k place → text_place es text_of text ≡ None
    → Notes (text_place es text_of) (text_place fs text_of) text place place
text_fresh text_of es fs k text place is put none = fresh bytes_eq bytes_eq-Decides text_of es fs k text place is put none

-- ---- keys

pub and_decided : (a b : Bool) (A B : Type 0) → Decides a A → Decides b B → Decides (a && b) (A × B)
and_decided true b A B left right = (λ is. (left.0 refl, right.0 is), λ holds. right.1 holds.1)
and_decided false b A B left right = (λ is. absurd (true≢false (sym is)), λ holds. absurd (true≢false (sym (left.1 holds.0))))

decided_both : (x y z w : ℕ) → Decides ((x == z) && (y == w)) (key.Signature x y ≡ key.Signature z w)
decided_both x y z w =
    let told = and_decided (x == z) (y == w) (x ≡ z) (y ≡ w) (Decides-eqb x z) (Decides-eqb y w) in
    (λ is. (let same = told.0 is in λ i. key.Signature (same.0 i) (same.1 i)), λ same. told.1 (cc, cc))

decided_all : (t c n d u e o f : ℕ) → Decides ((t == u) && ((c == e) && ((n == o) && (d == f)))) (key.Member t c n d ≡ key.Member u e o f)
decided_all t c n d u e o f =
    let last = and_decided (n == o) (d == f) (n ≡ o) (d ≡ f) (Decides-eqb n o) (Decides-eqb d f) in
    let texts = and_decided (c == e) ((n == o) && (d == f)) (c ≡ e) ((n ≡ o) × (d ≡ f)) (Decides-eqb c e) last in
    let told = and_decided (t == u) ((c == e) && ((n == o) && (d == f))) (t ≡ u) ((c ≡ e) × ((n ≡ o) × (d ≡ f))) (Decides-eqb t u) texts in
    (λ is. (let same = told.0 is in λ i. key.Member (same.0 i) (same.1.0 i) (same.1.1.0 i) (same.1.1.1 i)), λ same. told.1 (cc, (cc, (cc, cc))))

decided_three : (t n d u o f : ℕ) → Decides ((t == u) && ((n == o) && (d == f))) (key.Computed t n d ≡ key.Computed u o f)
decided_three t n d u o f =
    let last = and_decided (n == o) (d == f) (n ≡ o) (d ≡ f) (Decides-eqb n o) (Decides-eqb d f) in
    let told = and_decided (t == u) ((n == o) && (d == f)) (t ≡ u) ((n ≡ o) × (d ≡ f)) (Decides-eqb t u) last in
    (λ is. (let same = told.0 is in λ i. key.Computed (same.0 i) (same.1.0 i) (same.1.1 i)), λ same. told.1 (cc, (cc, cc)))

decided_five : (k t c n d l u e o f : ℕ) → Decides ((k == l) && ((t == u) && ((c == e) && ((n == o) && (d == f))))) (key.Handle k t c n d ≡ key.Handle l u e o f)
decided_five k t c n d l u e o f =
    let member = decided_all t c n d u e o f in
    let rest = (t == u) && ((c == e) && ((n == o) && (d == f))) in
    let told = and_decided (k == l) rest (k ≡ l) (key.Member t c n d ≡ key.Member u e o f) (Decides-eqb k l) member in
    (λ is. (let same = told.0 is in with_kind same.0 same.1), λ same. told.1 (cc, cc))
  where
    with_kind : k ≡ l → key.Member t c n d ≡ key.Member u e o f → key.Handle k t c n d ≡ key.Handle l u e o f
    with_kind same rest = cc

pub one_key : (a b : Key) → Decides (same_key a b) (a ≡ b)
one_key (key.Integer x) (key.Integer y) = (λ same. ap key.Integer ((Decides-int_eq x y).0 same), λ same. (Decides-int_eq x y).1 cc)
one_key (key.Long x) (key.Long y) = (λ same. ap key.Long ((Decides-int_eq x y).0 same), λ same. (Decides-int_eq x y).1 cc)
one_key (key.Class x) (key.Class y) = (λ same. ap key.Class ((Decides-eqb x y).0 same), λ same. (Decides-eqb x y).1 cc)
one_key (key.String x) (key.String y) = (λ same. ap key.String ((Decides-eqb x y).0 same), λ same. (Decides-eqb x y).1 cc)
one_key (key.Signature x y) (key.Signature z w) = decided_both x y z w
one_key (key.Member t c n d) (key.Member u e o f) = decided_all t c n d u e o f
one_key (key.Computed t n d) (key.Computed u o f) = decided_three t n d u o f
one_key (key.Handle k t c n d) (key.Handle l u e o f) = decided_five k t c n d l u e o f
one_key (key.Handle k t c n d) b = (λ same. absurd cc, λ same. absurd cc)
one_key (key.Computed t n d) b = (λ same. absurd cc, λ same. absurd cc)
one_key (key.Member t c n d) b = (λ same. absurd cc, λ same. absurd cc)
one_key (key.Signature x y) b = (λ same. absurd cc, λ same. absurd cc)
one_key (key.Integer x) b = (λ same. absurd cc, λ same. absurd cc)
one_key (key.Long x) b = (λ same. absurd cc, λ same. absurd cc)
one_key (key.Class x) b = (λ same. absurd cc, λ same. absurd cc)
one_key (key.String x) b = (λ same. absurd cc, λ same. absurd cc)

pub key_fresh : (es fs : List (Key × ℕ)) (k : Key) (place : ℕ) → fs ≡ insert_entry same_key es k place → key_place es k ≡ None
    → Notes (key_place es) (key_place fs) k place place
key_fresh es fs k place put none = fresh same_key one_key (λ k. k) es fs k k place refl put none

-- whether a key is found
pub not_found : (found : Option (Bor ℕ)) (r : Option ℕ) → option_copied found ≡ r → is_some found ≡ false → r ≡ None
not_found None r read none = sym read
not_found (Some place) r read none = absurd (true≢false none)

pub was_found : (found : Option (Bor ℕ)) (r : Option ℕ) → option_copied found ≡ r → is_some found ≡ true → (first : ℕ) × (r ≡ Some first)
was_found None r read some = absurd (true≢false (sym some))
was_found (Some place) r read some = (place.now, sym read)
