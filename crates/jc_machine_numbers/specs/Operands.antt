-- The operands at the top of the stack, as the code sees them.
use Rattle.std.specs.Prelude.{◌≡◌, ℕ, Bool, ⊤, List, [], ◌∷◌, IsTrue}
use Rattle.jc_machine_model.specs.Effects.{Effect, unfit, int_single, long_single, int_pair, long_pair, long_shift}
use Rattle.jc_machine_model.specs.Values.{Value, int, long, null, is_reference, is_same}
use Rattle.jc_machine_numbers.specs.declared.operand.Operand.{Operand}
use Rattle.jc_machine_numbers.specs.declared.operand.Operand.TheVariants as operands
use Rattle.jc_machine_numbers.specs.declared.operand.Category.{Category}
use Rattle.jc_machine_numbers.specs.declared.operand.Category.TheVariants as categories

-- a value
abbrev pub operand_of : Value → Operand
operand_of (int x) = operands.Int x
operand_of (long x) = operands.Long x
operand_of null = operands.Null
operand_of _ = operands.Reference

-- the one on top, and those below it
abbrev pub first_of : List Value → Operand
first_of [] = operands.Absent
first_of (v ∷ stack) = operand_of v

abbrev pub second_of : List Value → Operand
second_of [] = operands.Absent
second_of (v ∷ stack) = first_of stack

abbrev pub third_of : List Value → Operand
third_of [] = operands.Absent
third_of (v ∷ stack) = second_of stack

abbrev pub fourth_of : List Value → Operand
fourth_of [] = operands.Absent
fourth_of (v ∷ stack) = third_of stack

-- the four on top, the first of them the topmost
pub record AreOnTop (a b c d : Operand) (stack : List Value) : Type 0 where
  pub first : a ≡ first_of stack
  pub second : b ≡ second_of stack
  pub third : c ≡ third_of stack
  pub fourth : d ≡ fourth_of stack

-- Whether the two on top are one reference, where both are references
abbrev pub TellsSame : Bool → List Value → Type 0
TellsSame same (b ∷ a ∷ stack) = IsTrue (is_reference a) → IsTrue (is_reference b) → same ≡ is_same a b
TellsSame same _ = ⊤

-- a long is of the second category, and every other value of the machine is of the first
abbrev pub category_of : Operand → Category
category_of operands.Absent = categories.Absent
category_of (operands.Long x) = categories.Two
category_of _ = categories.One

-- an instruction on one number
abbrev pub single_of : ℕ → Operand → Effect
single_of op (operands.Int x) = int_single op x
single_of op (operands.Long x) = long_single op x
single_of op _ = unfit

-- an instruction on two numbers, the first of which is on top
abbrev pub pair_of : ℕ → Operand → Operand → Effect
pair_of op (operands.Int y) (operands.Int x) = int_pair op x y
pair_of op (operands.Long y) (operands.Long x) = long_pair op x y
pair_of op (operands.Int y) (operands.Long x) = long_shift op x y
pair_of op _ _ = unfit
