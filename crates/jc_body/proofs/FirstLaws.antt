-- The first item of a list of which something holds.
use Rattle.std.proofs.Common.{◌≡◌, ◌⊎◌, inl, inr, ℕ, zero, suc, ◌-◌, ◌<◌, ◌≤◌, Bool, true, false, List, [], ◌∷◌, length, Option, Some, None, refl, sym, ◌∙◌, ap, subst, arith}
use Rattle.std.specs.List.{slice_get, slice_index_or, AllWithin, HoldsAt, FoldsTo}
use Rattle.std.specs.Option.{MatchOption}
use Rattle.std.specs.Fn.{Called, Mut}
use Rattle.std.specs.Iterator.{YieldsThen}
use Rattle.std.proofs.lemmas.Iterator.{YieldsList, IsFirst-from_position}
use Rattle.std.proofs.lemmas.Option.{same_Some, slice_get_within, slice_get_read, get_or_from_slice_get}
use Rattle.jc_methods.specs.declared.insn.Insn.{Insn}
use Rattle.jc_methods.specs.Flow.{FallsThrough}
use Rattle.jc_methods.specs.InsnUse.{LeadsWithin}
use Rattle.jc_body.specs.First.{NoneBefore, NoItem, IsFirstItem, FirstItem}
use Rattle.jc_body.specs.Faults.{IsAstray}

-- ---- what `position` finds

none_within : {X : Type 0} (Fact : X → Type 0) (xs : List X) (end : ℕ) → AllWithin (λ x. Fact x → ⊥) xs 0 end → NoneBefore (λ number x. Fact x) xs end
none_within Fact xs end none = λ number x before at fact. none number x (omega arith) before (subst Fact (sym (get_or_from_slice_get xs number x x at)) fact)

first_at : {X : Type 0} (Fact : X → Type 0) (xs : List X) (number : ℕ) (found : Option X) → slice_get xs number ≡ found → number < length xs
    → HoldsAt Fact xs number → AllWithin (λ x. Fact x → ⊥) xs 0 number
    → IsFirstItem (λ number x. Fact x) xs number
first_at Fact xs number None at inside holds none = absurd (outside xs number at inside)
  where
    outside : {X : Type 0} (xs : List X) (number : ℕ) → slice_get xs number ≡ None → number < length xs → ⊥
    outside [] number at inside = omega (arith, inside)
    outside (x ∷ xs) zero at inside = cc
    outside (x ∷ xs) (suc number) at inside = outside xs number at (omega (arith, inside))
first_at Fact xs number (Some x) at inside holds none = record {
  item = x;
  stands = at;
  fact = subst Fact (get_or_from_slice_get xs number x x at) (holds x);
  first = none_within Fact xs number none;
}

first_found : {X : Type 0} (Fact : X → Type 0) (xs : List X) (result : Option ℕ)
    → MatchOption result (AllWithin (λ x. Fact x → ⊥) xs 0 (length xs)) (λ number. (number < length xs) × HoldsAt Fact xs number × AllWithin (λ x. Fact x → ⊥) xs 0 number)
    → FirstItem (λ number x. Fact x) xs result
first_found Fact xs None none = λ number x at. none_within Fact xs (length xs) none number x (slice_get_within xs number x at) at
first_found Fact xs (Some number) found = first_at Fact xs number (slice_get xs number) refl found.0 found.1 found.2

-- What `position` finds is the first item of which the fact holds, if the closure's test says whether it
-- does, and leaves the closure as it was where it doesn't.
pub first_by_position : {S A X F : Type 0} {steps : S → Option A → S → Type 0} {v : A → X} {g : Mut F (A × Unit {0}) Bool} {s : S} {xs : List X} (Fact : X → Type 0) (u : S) (f : F) (result : Option ℕ)
    → (ys : List A) × (o : Option A) × (j : F) × YieldsThen steps s ys o u × FoldsTo (λ p y q. Called g p (y, tt) false q) f ys j
    × MatchOption o (result ≡ None) (λ y. (result ≡ Some (length ys)) × ((h : F) × Called g j (y, tt) true h))
    → YieldsList steps v s xs → ((y : A) (q : F) → Called g f (y, tt) true q → Fact (v y)) → ((y : A) (q : F) → Called g f (y, tt) false q → (q ≡ f) × (Fact (v y) → ⊥))
    → FirstItem (λ number x. Fact x) xs result
first_by_position {xs} Fact u f result ran yields holds fails = first_found Fact xs result (IsFirst-from_position u f result Fact (λ x. Fact x → ⊥) ran yields holds fails)

-- ---- one that can be decided

pub first_or_none : {X : Type 0} (Fact : ℕ → X → Type 0) → ((number : ℕ) (x : X) → Fact number x ⊎ (Fact number x → ⊥)) → (xs : List X) → (found : Option ℕ) × FirstItem Fact xs found
first_or_none Fact decide [] = (None, λ number x at. absurd cc)
first_or_none {X} Fact decide (y ∷ ys) = by (decide 0 y) (first_or_none (λ number x. Fact (suc number) x) (λ number x. decide (suc number) x) ys)
  where
    here : NoneBefore Fact (y ∷ ys) 0
    here = λ number x before at fact. omega (arith, before)

    by : Fact 0 y ⊎ (Fact 0 y → ⊥) → (found : Option ℕ) × FirstItem (λ number x. Fact (suc number) x) ys found → (found : Option ℕ) × FirstItem Fact (y ∷ ys) found
    by (inl fact) later = (Some 0, record { item = y; stands = refl; fact = fact; first = here })
    by (inr other) (None, none) = (None, λ number x at fact. behind number x at fact)
      where
        behind : (number : ℕ) (x : X) → slice_get (y ∷ ys) number ≡ Some x → Fact number x → ⊥
        behind zero x at fact = other (subst (Fact 0) (sym (same_Some y x at)) fact)
        behind (suc number) x at fact = none number x at fact
    by (inr other) (Some number, first) = (Some (suc number), record { item = first.item; stands = first.stands; fact = first.fact; first = λ before x. behind before x })
      where
        behind : (before : ℕ) (x : X) → before < suc number → slice_get (y ∷ ys) before ≡ Some x → Fact before x → ⊥
        behind zero x less at fact = other (subst (Fact 0) (sym (same_Some y x at)) fact)
        behind (suc before) x less at fact = first.first before x (omega (arith, less)) at fact

-- ---- the first instruction that goes astray

last_stands : {X : Type 0} (xs : List X) (x : X) → 1 ≤ length xs → x ≡ slice_index_or xs (length xs - 1) x → slice_get xs (length xs - 1) ≡ Some x
last_stands xs x some is = slice_get_read xs (length xs) (length xs - 1) x refl (omega (arith, some)) is

-- none in front of the last is astray but by where it leads
none_astray : (xs : List Insn) (end : ℕ) → end < length xs → NoneBefore (λ number insn. LeadsWithin (length xs) insn → ⊥) xs end → NoneBefore (IsAstray (length xs)) xs end
none_astray xs end inside none = λ number insn before at astray. by number insn before at astray
  where
    by : (number : ℕ) (insn : Insn) → number < end → slice_get xs number ≡ Some insn → IsAstray (length xs) number insn → ⊥
    by number insn before at (inl nowhere) = none number insn before at nowhere
    by number insn before at (inr (last, falls)) = omega (arith, last, before, inside)

pub astray_by_leading : (xs : List Insn) (number : ℕ) → IsFirstItem (λ number insn. LeadsWithin (length xs) insn → ⊥) xs number → IsFirstItem (IsAstray (length xs)) xs number
astray_by_leading xs number found = record {
  item = found.item;
  stands = found.stands;
  fact = inl found.fact;
  first = none_astray xs number (slice_get_within xs number found.item found.stands) found.first;
}

pub astray_by_falling : (xs : List Insn) (last : Insn) → NoItem (λ number insn. LeadsWithin (length xs) insn → ⊥) xs → 1 ≤ length xs → last ≡ slice_index_or xs (length xs - 1) last → FallsThrough last
    → IsFirstItem (IsAstray (length xs)) xs (length xs - 1)
astray_by_falling xs last none some is falls = record {
  item = last;
  stands = last_stands xs last some is;
  fact = inr ((omega (arith, some)), falls);
  first = none_astray xs (length xs - 1) (omega (arith, some)) (λ number insn before at. none number insn at);
}

pub not_astray : (xs : List Insn) (last : Insn) → NoItem (λ number insn. LeadsWithin (length xs) insn → ⊥) xs → 1 ≤ length xs → last ≡ slice_index_or xs (length xs - 1) last → (FallsThrough last → ⊥)
    → NoItem (IsAstray (length xs)) xs
not_astray xs last none some is stops = λ number insn at astray. by number insn at astray
  where
    by : (number : ℕ) (insn : Insn) → slice_get xs number ≡ Some insn → IsAstray (length xs) number insn → ⊥
    by number insn at (inl nowhere) = none number insn at nowhere
    by number insn at (inr (end, falls)) =
        let place : length xs - 1 ≡ number = omega (arith, end) in
        stops (subst FallsThrough (sym (same_Some last insn (sym (last_stands xs last some is) ∙ ap (slice_get xs) place ∙ at))) falls)
