-- What the operands that were looked at say of the stack.
use Rattle.std.proofs.Common.{◌≡◌, ◌-◌, ◌≤◌, ℕ, zero, suc, Bool, List, [], ◌∷◌, Option, Some, None, length, take, drop, refl, arith, slice_get, slice_index_or, unwrap_or, option_map, ◌∙◌, ap}
use Rattle.jc_machine_model.specs.Values.{Value, null, is_same}
use Rattle.jc_machine_numbers.specs.declared.operand.Operand.{Operand}
use Rattle.jc_machine_numbers.specs.Operands.{first_of, second_of, third_of, fourth_of, AreOnTop, TellsSame}
use Rattle.jc_machine_memory.specs.declared.value.Value as kept
use Rattle.jc_machine_memory.specs.declared.value.Value.TheVariants as kepts
use Rattle.jc_machine_memory.specs.Values.{value_of}
use Rattle.jc_machine_turn.specs.Tops.{operand_at}
use Rattle.jc_machine_model.specs.Effects.{results_at}
use Rattle.jc_machine_turn.proofs.CallLaws.{behind-cons}

first_at : (stack : List Value) → operand_at (slice_get stack 0) ≡ first_of stack
first_at [] = refl
first_at (v ∷ stack) = refl

second_at : (stack : List Value) → operand_at (slice_get stack 1) ≡ second_of stack
second_at [] = refl
second_at (v ∷ stack) = first_at stack

third_at : (stack : List Value) → operand_at (slice_get stack 2) ≡ third_of stack
third_at [] = refl
third_at (v ∷ stack) = second_at stack

fourth_at : (stack : List Value) → operand_at (slice_get stack 3) ≡ fourth_of stack
fourth_at [] = refl
fourth_at (v ∷ stack) = third_at stack

first_is : (o : Operand) (peeked : Option Value) (stack : List Value) → o ≡ operand_at peeked → peeked ≡ slice_get stack 0 → o ≡ first_of stack
first_is o peeked stack is read = is ∙ (ap operand_at read ∙ first_at stack)

second_is : (o : Operand) (peeked : Option Value) (stack : List Value) → o ≡ operand_at peeked → peeked ≡ slice_get stack 1 → o ≡ second_of stack
second_is o peeked stack is read = is ∙ (ap operand_at read ∙ second_at stack)

third_is : (o : Operand) (peeked : Option Value) (stack : List Value) → o ≡ operand_at peeked → peeked ≡ slice_get stack 2 → o ≡ third_of stack
third_is o peeked stack is read = is ∙ (ap operand_at read ∙ third_at stack)

fourth_is : (o : Operand) (peeked : Option Value) (stack : List Value) → o ≡ operand_at peeked → peeked ≡ slice_get stack 3 → o ≡ fourth_of stack
fourth_is o peeked stack is read = is ∙ (ap operand_at read ∙ fourth_at stack)

pub are_on_top : (a b d e : Operand) (p q r t : Option Value) (stack : List Value) → a ≡ operand_at p → b ≡ operand_at q → d ≡ operand_at r → e ≡ operand_at t
    → p ≡ slice_get stack 0 → q ≡ slice_get stack 1 → r ≡ slice_get stack 2 → t ≡ slice_get stack 3 → AreOnTop a b d e stack
are_on_top a b d e p q r t stack first second third fourth one two three four = record {
  first = first_is a p stack first one;
  second = second_is b q stack second two;
  third = third_is d r stack third three;
  fourth = fourth_is e t stack fourth four;
}

pub got_or : (peeked : Option kept.Value) (stack : List Value) (k : ℕ) → option_map value_of peeked ≡ slice_get stack k
    → value_of (unwrap_or peeked kepts.Null) ≡ slice_index_or stack k null
got_or None [] k read = refl
got_or None (v ∷ stack) zero read = absurd (cc)
got_or None (v ∷ stack) (suc k) read = got_or None stack k read
got_or (Some x) [] k read = absurd (cc)
got_or (Some x) (v ∷ stack) zero read = let same : value_of x ≡ v = cc in same
got_or (Some x) (v ∷ stack) (suc k) read = got_or (Some x) stack k read

-- the operand at the first of some places, and those at the others
pub moved_one : (places : List ℕ) (stack : List Value) → 1 ≤ length places
    → slice_index_or stack (slice_index_or places 0 0) null ∷ results_at (take (length places - 1) (drop 1 places)) stack ≡ results_at places stack
moved_one [] stack some = absurd (omega arith)
moved_one (k ∷ places) stack some = ap (λ ks. slice_index_or stack k null ∷ results_at ks stack) (behind-cons k places)

-- two references on top, and whether they are one
pub tells : (same : Bool) (stack : List Value) (a b : Value) → Some b ≡ slice_get stack 0 → Some a ≡ slice_get stack 1 → same ≡ is_same a b
    → TellsSame same stack
tells same [] a b first second is = tt
tells same (x ∷ []) a b first second is = tt
tells same (x ∷ y ∷ stack) a b first second is =
    let top : b ≡ x = cc in
    let next : a ≡ y = cc in
    λ one other. is ∙ (ap (λ v. is_same v b) next ∙ ap (λ v. is_same y v) top)

pub tells_nothing : (same : Bool) (stack : List Value) → None ≡ slice_get stack 1 → TellsSame same stack
tells_nothing same [] none = tt
tells_nothing same (x ∷ []) none = tt
tells_nothing same (x ∷ y ∷ stack) none = absurd (cc)

pub tells_none : (same : Bool) (stack : List Value) → None ≡ slice_get stack 0 → TellsSame same stack
tells_none same [] none = tt
tells_none same (x ∷ stack) none = absurd (cc)

-- ---- the values on top, and those below them

pub top_one : (stack : List Value) (a : Value) → Some a ≡ slice_get stack 0 → stack ≡ a ∷ drop 1 stack
top_one [] a first = absurd (cc)
top_one (x ∷ stack) a first = let same : x ≡ a = cc in ap (λ v. v ∷ stack) same

pub top_two : (stack : List Value) (a b : Value) → Some a ≡ slice_get stack 0 → Some b ≡ slice_get stack 1 → stack ≡ a ∷ b ∷ drop 2 stack
top_two [] a b first second = absurd (cc)
top_two (x ∷ stack) a b first second =
    let same : x ≡ a = cc in
    ap (λ v. v ∷ stack) same ∙ ap (λ vs. a ∷ vs) (top_one stack b second)

pub top_three : (stack : List Value) (a b d : Value) → Some a ≡ slice_get stack 0 → Some b ≡ slice_get stack 1 → Some d ≡ slice_get stack 2
    → stack ≡ a ∷ b ∷ d ∷ drop 3 stack
top_three [] a b d first second third = absurd (cc)
top_three (x ∷ stack) a b d first second third =
    let same : x ≡ a = cc in
    ap (λ v. v ∷ stack) same ∙ ap (λ vs. a ∷ vs) (top_two stack b d second third)
