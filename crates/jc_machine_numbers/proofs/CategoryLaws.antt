-- Whether operands of categories stand on top is seen by the categories of the four on top.
use Rattle.std.proofs.Common.{◌≡◌, ◌≤◌, ℕ, zero, suc, Bool, true, false, ◌&&◌, List, [], ◌∷◌, length, nat_eq, refl, ap, sym, ◌∙◌, arith, if◌then◌else◌}
use Rattle.jc_methods.specs.Opcode as opcode
use Rattle.jc_machine_model.specs.Values.{Value, int, long, null, object, memory_error, print_stream, probes, text}
use Rattle.jc_machine_model.specs.Effects as effects
use Rattle.jc_machine_numbers.specs.Operands.{operand_of, first_of, second_of, third_of, fourth_of, AreOnTop, category_of}
use Rattle.jc_machine_numbers.specs.declared.operand.Operand.{Operand}
use Rattle.jc_machine_numbers.specs.Categories.{is_of_category, stand_on_top, operand_count, moved_by}
use Rattle.jc_machine_numbers.specs.declared.operand.Category.{Category}
use Rattle.jc_machine_numbers.specs.declared.operand.Category.TheVariants as categories

-- the categories of the first so many operands
abbrev peeked : ℕ → List Value → List Category
peeked zero stack = []
peeked (suc n) [] = categories.Absent ∷ peeked n []
peeked (suc n) (v ∷ stack) = category_of (operand_of v) ∷ peeked n stack

of_category : (k : effects.Category) (v : Value) → effects.has_category k v ≡ is_of_category k (category_of (operand_of v))
of_category effects.category_1 (int x) = refl
of_category effects.category_1 (long x) = refl
of_category effects.category_1 null = refl
of_category effects.category_1 (object n) = refl
of_category effects.category_1 memory_error = refl
of_category effects.category_1 print_stream = refl
of_category effects.category_1 (probes class count) = refl
of_category effects.category_1 (text class) = refl
of_category effects.category_2 (int x) = refl
of_category effects.category_2 (long x) = refl
of_category effects.category_2 null = refl
of_category effects.category_2 (object n) = refl
of_category effects.category_2 memory_error = refl
of_category effects.category_2 print_stream = refl
of_category effects.category_2 (probes class count) = refl
of_category effects.category_2 (text class) = refl

none_there : (k : effects.Category) → is_of_category k categories.Absent ≡ false
none_there effects.category_1 = refl
none_there effects.category_2 = refl

stand : (wanted : List effects.Category) (n : ℕ) (stack : List Value) → length wanted ≤ n → effects.stand_categories wanted stack ≡ stand_on_top wanted (peeked n stack)
stand [] n stack few = refl
stand (k ∷ wanted) zero stack few = absurd (omega (arith, few))
stand (k ∷ wanted) (suc n) [] few = rw (none_there k) refl
stand (k ∷ wanted) (suc n) (v ∷ stack) few = rw (of_category k v) (ap (λ b. is_of_category k (category_of (operand_of v)) && b) (stand wanted n stack (omega (arith, few))))

-- one to four operands
data AreFew : List effects.Category → Type 0 where
  one : (a : effects.Category) → AreFew (a ∷ [])
  two : (a b : effects.Category) → AreFew (a ∷ b ∷ [])
  three : (a b c : effects.Category) → AreFew (a ∷ b ∷ c ∷ [])
  four : (a b c d : effects.Category) → AreFew (a ∷ b ∷ c ∷ d ∷ [])

few_count : (wanted : List effects.Category) → AreFew wanted → length wanted ≤ 4
few_count wanted (one a) = omega arith
few_count wanted (two a b) = omega arith
few_count wanted (three a b c) = omega arith
few_count wanted (four a b c d) = omega arith

-- each form has one to four operands
data EachFew : List effects.Move → Type 0 where
  none : EachFew []
  also : (wanted : List effects.Category) (results : List ℕ) (moves : List effects.Move) → AreFew wanted → EachFew moves
      → EachFew (record { categories = wanted; results = results } ∷ moves)

decide : {P : Type 0} (b : Bool) → (b ≡ true → P) → (b ≡ false → P) → P
decide true p q = p refl
decide false p q = q refl

few_moves : (op : ℕ) → EachFew (effects.moves_of op)
unfolding effects.moves_of
few_moves op =
    decide (nat_eq op opcode.pop) (λ e. rw e (also _ _ _ (one _) none)) (λ e. rw e (
    decide (nat_eq op opcode.pop2) (λ e. rw e (also _ _ _ (two _ _) (also _ _ _ (one _) none))) (λ e. rw e (
    decide (nat_eq op opcode.dup) (λ e. rw e (also _ _ _ (one _) none)) (λ e. rw e (
    decide (nat_eq op opcode.dup_x1) (λ e. rw e (also _ _ _ (two _ _) none)) (λ e. rw e (
    decide (nat_eq op opcode.dup_x2) (λ e. rw e (also _ _ _ (three _ _ _) (also _ _ _ (two _ _) none))) (λ e. rw e (
    decide (nat_eq op opcode.dup2) (λ e. rw e (also _ _ _ (two _ _) (also _ _ _ (one _) none))) (λ e. rw e (
    decide (nat_eq op opcode.dup2_x1) (λ e. rw e (also _ _ _ (three _ _ _) (also _ _ _ (two _ _) none))) (λ e. rw e (
    decide (nat_eq op opcode.dup2_x2) (λ e. rw e (also _ _ _ (four _ _ _ _) (also _ _ _ (three _ _ _) (also _ _ _ (three _ _ _) (also _ _ _ (two _ _) none))))) (λ e. rw e (
    decide (nat_eq op opcode.swap) (λ e. rw e (also _ _ _ (two _ _) none)) (λ e. rw e none)))))))))))))))))

moved_seen : (moves : List effects.Move) (stack : List Value) → EachFew moves → effects.moved moves stack ≡ moved_by moves (peeked 4 stack) stack
moved_seen moves stack none = refl
moved_seen moves stack (also wanted results others few each) =
    rw (stand wanted 4 stack (few_count wanted few))
    (ap (λ (e : effects.Effect). if stand_on_top wanted (peeked 4 stack) then effects.gives (operand_count wanted) (effects.results_at results stack) else e)
    (moved_seen others stack each))

four_peeked : (stack : List Value) → peeked 4 stack ≡ category_of (first_of stack) ∷ category_of (second_of stack) ∷ category_of (third_of stack) ∷ category_of (fourth_of stack) ∷ []
four_peeked [] = refl
four_peeked (a ∷ []) = refl
four_peeked (a ∷ b ∷ []) = refl
four_peeked (a ∷ b ∷ c ∷ []) = refl
four_peeked (a ∷ b ∷ c ∷ d ∷ stack) = refl

pub moved_on_top : (op : ℕ) (a b c d : Operand) (stack : List Value) → AreOnTop a b c d stack
    → moved_by (effects.moves_of op) (category_of a ∷ category_of b ∷ category_of c ∷ category_of d ∷ []) stack ≡ effects.moved (effects.moves_of op) stack
moved_on_top op a b c d stack on_top =
    ap (λ (k : Category). moved_by (effects.moves_of op) (k ∷ category_of b ∷ category_of c ∷ category_of d ∷ []) stack) (ap category_of on_top.first)
    ∙ ap (λ (k : Category). moved_by (effects.moves_of op) (category_of (first_of stack) ∷ k ∷ category_of c ∷ category_of d ∷ []) stack) (ap category_of on_top.second)
    ∙ ap (λ (k : Category). moved_by (effects.moves_of op) (category_of (first_of stack) ∷ category_of (second_of stack) ∷ k ∷ category_of d ∷ []) stack) (ap category_of on_top.third)
    ∙ ap (λ (k : Category). moved_by (effects.moves_of op) (category_of (first_of stack) ∷ category_of (second_of stack) ∷ category_of (third_of stack) ∷ k ∷ []) stack) (ap category_of on_top.fourth)
    ∙ ap (λ (there : List Category). moved_by (effects.moves_of op) there stack) (sym (four_peeked stack))
    ∙ sym (moved_seen (effects.moves_of op) stack (few_moves op))
