-- What an instruction on numbers does is seen by the operands on top.
use Rattle.std.proofs.Common.{◌≡◌, ◌∙◌, ◌<◌, ◌≤◌, ℕ, ℤ, true, false, nat_le, nat_lt, List, [], ◌∷◌, refl, sym, ap, ap₂, arith}
use Rattle.std.proofs.lemmas.Bool.Decides.{nat_tests}
use Rattle.jc_machine_model.specs.Values.{Value, int, long, null, object, memory_error, print_stream, probes, text}
use Rattle.jc_machine_model.specs.Effects.{single, pair, effect, moved, moves_of, has_one_operand}
use Rattle.jc_machine_numbers.specs.Operands.{first_of, second_of, AreOnTop, single_of, pair_of}
use Rattle.jc_machine_numbers.specs.declared.operand.Operand.{Operand}
use Rattle.jc_machine_numbers.specs.declared.operand.Operand.TheVariants as operands

single_seen : (op : ℕ) (stack : List Value) → single op stack ≡ single_of op (first_of stack)
unfolding single
single_seen op [] = refl
single_seen op (int x ∷ stack) = refl
single_seen op (long x ∷ stack) = refl
single_seen op (null ∷ stack) = refl
single_seen op (object n ∷ stack) = refl
single_seen op (memory_error ∷ stack) = refl
single_seen op (print_stream ∷ stack) = refl
single_seen op (probes class count ∷ stack) = refl
single_seen op (text class ∷ stack) = refl

below_int : (op : ℕ) (y : ℤ) (stack : List Value) → pair op (int y ∷ stack) ≡ pair_of op (operands.Int y) (first_of stack)
unfolding pair
below_int op y [] = refl
below_int op y (int x ∷ stack) = refl
below_int op y (long x ∷ stack) = refl
below_int op y (null ∷ stack) = refl
below_int op y (object n ∷ stack) = refl
below_int op y (memory_error ∷ stack) = refl
below_int op y (print_stream ∷ stack) = refl
below_int op y (probes class count ∷ stack) = refl
below_int op y (text class ∷ stack) = refl

below_long : (op : ℕ) (y : ℤ) (stack : List Value) → pair op (long y ∷ stack) ≡ pair_of op (operands.Long y) (first_of stack)
unfolding pair
below_long op y [] = refl
below_long op y (int x ∷ stack) = refl
below_long op y (long x ∷ stack) = refl
below_long op y (null ∷ stack) = refl
below_long op y (object n ∷ stack) = refl
below_long op y (memory_error ∷ stack) = refl
below_long op y (print_stream ∷ stack) = refl
below_long op y (probes class count ∷ stack) = refl
below_long op y (text class ∷ stack) = refl

pair_seen : (op : ℕ) (stack : List Value) → pair op stack ≡ pair_of op (first_of stack) (second_of stack)
unfolding pair
pair_seen op [] = refl
pair_seen op (int y ∷ stack) = below_int op y stack
pair_seen op (long y ∷ stack) = below_long op y stack
pair_seen op (null ∷ stack) = refl
pair_seen op (object n ∷ stack) = refl
pair_seen op (memory_error ∷ stack) = refl
pair_seen op (print_stream ∷ stack) = refl
pair_seen op (probes class count ∷ stack) = refl
pair_seen op (text class ∷ stack) = refl

-- ---- the ranges of the table

module _ (op : ℕ) (stack : List Value) (above : 10 < op) where
  no_constant : nat_le op 10 ≡ false
  no_constant = grind (arith, nat_tests)

  pub effect_moves : op < 96 → moved (moves_of op) stack ≡ effect op stack
  unfolding effect
  effect_moves below = let test : nat_lt op 96 ≡ true = grind (arith, nat_tests) in rw (no_constant, test) refl

  no_move : 96 ≤ op → nat_lt op 96 ≡ false
  no_move from = grind (arith, nat_tests)

  pub effect_single : (a b c d : Operand) → AreOnTop a b c d stack → 96 ≤ op → has_one_operand op ≡ true → single_of op a ≡ effect op stack
  unfolding effect
  effect_single a b c d on_top from one =
      rw (no_constant, no_move from, one) (ap (single_of op) on_top.first ∙ sym (single_seen op stack))

  pub effect_pair : (a b c d : Operand) → AreOnTop a b c d stack → 96 ≤ op → has_one_operand op ≡ false → pair_of op a b ≡ effect op stack
  unfolding effect
  effect_pair a b c d on_top from two =
      rw (no_constant, no_move from, two) (ap₂ (pair_of op) on_top.first on_top.second ∙ sym (pair_seen op stack))
