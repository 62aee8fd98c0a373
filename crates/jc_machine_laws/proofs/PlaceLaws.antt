-- The same places of the values of a stack and of their types: where operands are moved, what lies on the stack afterwards
-- has the types of the kind check.
use Rattle.std.proofs.Common.{◌≡◌, ℕ, zero, suc, ◌-◌, ◌<◌, Bool, true, List, [], ◌∷◌, ◌++◌, length, drop, reverse, map, nat_lt}
use Rattle.std.proofs.Common.{slice_index_or, refl, sym, ◌∙◌, ap, ap₂, subst}
use Rattle.std.proofs.lemmas.Bool.{and_parts, ltb-true}
use Rattle.std.proofs.lemmas.List.{reverse-append, reverse-reverse, length-reverse, get_or-reverse, get_or_append_left}
use Rattle.std.specs.List.{list_all}
use Rattle.jc_methods.specs.VerificationTypes.{VerificationType, top}
use Rattle.jc_kinds_after.specs.Step.{Gives, item, given_of}
use Rattle.jc_machine_model.specs.Values.{Value, null}
use Rattle.jc_machine_model.specs.Effects.{results_at}
use Rattle.jc_machine_model.specs.Fits.{IsOfBy, AreOfBy, IsStackBy}
use Rattle.jc_machine_laws.proofs.TypedLaws.{References}
use Rattle.jc_machine_laws.proofs.StackLaws.{back_is, reverse_map}

-- ---- values and types at the same places

-- the types at these places, the type of the top value first
abbrev pub types_at : List ℕ → List VerificationType → List VerificationType
types_at places types = map (λ k. slice_index_or types k top) places

module _ (R : References) where
  pub is_at : (k : ℕ) (values : List Value) (types : List VerificationType) → AreOfBy R.holds values types
      → IsOfBy R.holds (slice_index_or values k null) (slice_index_or types k top)
  is_at k [] [] p = tt
  is_at k [] (h ∷ types) p = absurd p
  is_at k (v ∷ values) [] p = absurd p
  is_at zero (v ∷ values) (h ∷ types) p = p.0
  is_at (suc k) (v ∷ values) (h ∷ types) p = is_at k values types p.1

  pub are_at : (places : List ℕ) (values : List Value) (types : List VerificationType) → AreOfBy R.holds values types
      → AreOfBy R.holds (results_at places values) (types_at places types)
  are_at [] values types p = tt
  are_at (k ∷ places) values types p = (is_at k values types p, are_at places values types p)

  pub are_below : (n : ℕ) (values : List Value) (types : List VerificationType) → AreOfBy R.holds values types
      → AreOfBy R.holds (drop n values) (drop n types)
  are_below zero values types p = p
  are_below (suc n) [] [] p = tt
  are_below (suc n) [] (h ∷ types) p = absurd p
  are_below (suc n) (v ∷ values) [] p = absurd p
  are_below (suc n) (v ∷ values) (h ∷ types) p = are_below n values types p.1

  pub are_append : (a b : List Value) (x y : List VerificationType) → AreOfBy R.holds a x → AreOfBy R.holds b y
      → AreOfBy R.holds (a ++ b) (x ++ y)
  are_append [] b [] y p q = q
  are_append [] b (h ∷ x) y p q = absurd p
  are_append (v ∷ a) b [] y p q = absurd p
  are_append (v ∷ a) b (h ∷ x) y p q = (p.0, are_append a b x y p.1 q)

  -- The values at some places of a stack replace so many values on top, and the types at the same places replace as many
  -- types: the values that this gives are of the types that it gives.
  pub places_keep_types : (places : List ℕ) (n : ℕ) (stack : List Value) (ks t : List VerificationType) → IsStackBy R.holds stack ks
      → reverse t ≡ types_at places (reverse ks) ++ drop n (reverse ks) → IsStackBy R.holds (results_at places stack ++ drop n stack) t
  places_keep_types places n stack ks t p e =
      subst (AreOfBy R.holds (results_at places stack ++ drop n stack)) (sym e)
      (are_append (results_at places stack) (drop n stack) (types_at places (reverse ks)) (drop n (reverse ks))
      (are_at places stack (reverse ks) p) (are_below n stack (reverse ks) p))

-- ---- places as the kind check counts them

-- the places of operands, of which the kind check counts the deepest as 0
abbrev pub items_at : ℕ → List ℕ → List Gives
items_at n places = map (λ k. item (n - 1 - k)) places

abbrev pub are_below_count : ℕ → List ℕ → Bool
are_below_count n places = list_all (λ k. nat_lt k n) places

pub items_are : (places : List ℕ) (n : ℕ) (low operands : List VerificationType) → length operands ≡ n
    → are_below_count n places ≡ true → map (given_of operands) (items_at n places) ≡ types_at places (reverse operands ++ low)
items_are [] n low operands l e = refl
items_are (k ∷ places) n low operands l e =
    let b = and_parts (nat_lt k n) (are_below_count n places) e in
    let within : k < length operands = subst (λ m. k < m) (sym l) (ltb-true k n b.0) in
    let inside : k < length (reverse operands) = subst (λ m. k < m) (sym (length-reverse operands)) within in
    let one = ap (λ m. slice_index_or operands (m - 1 - k) top) (sym l) ∙ sym (get_or-reverse operands k top within)
    ∙ sym (get_or_append_left (reverse operands) low top k inside) in
    ap₂ (λ h hs. h ∷ hs) one (items_are places n low operands l b.1)

-- the types that the kind check gives for operands at these places, and those below them, the type of the top value first
pub types_given : (places : List ℕ) (n : ℕ) (low operands : List VerificationType) → length operands ≡ n
    → are_below_count n places ≡ true
    → reverse (low ++ map (given_of operands) (reverse (items_at n places)))
    ≡ types_at places (reverse (low ++ operands)) ++ drop n (reverse (low ++ operands))
types_given places n low operands l e =
    let items = items_at n places in
    let given = reverse_map (given_of operands) (reverse items) ∙ ap (map (given_of operands)) (reverse-reverse items)
    ∙ items_are places n (reverse low) operands l e in
    let rest = ap (λ m. drop m (reverse operands ++ reverse low)) (sym (length-reverse operands ∙ l))
    ∙ back_is (reverse operands) (reverse low) in
    reverse-append low (map (given_of operands) (reverse items)) ∙ ap₂ (λ a b. a ++ b) given (sym rest)
    ∙ ap (λ r. types_at places r ++ drop n r) (sym (reverse-append low operands))
