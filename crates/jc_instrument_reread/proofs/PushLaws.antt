-- The instruction that pushes a number.
use Rattle.std.proofs.Common.{◌≡◌, ℕ, ◌<◌, ◌≤◌, Bool, false, nat_le, if◌then◌else◌, ap, arith}
use Rattle.std.proofs.lemmas.Bool.{le-leb}
use Rattle.std.proofs.lemmas.Bool.Decides.{nat_tests}
use Rattle.jc_methods.specs.ProbeMembers.{most_short}
use Rattle.jc_methods.specs.declared.insn.Insn.TheVariants as insns
use Rattle.jc_emit.specs.Marks.{push, push_by}

-- no Integer is asked for it
pub pushed_so : (integer : ℕ → ℕ) (n : ℕ) → n ≤ most_short → push_by integer n ≡ push n
pushed_so integer n le = ap (λ (t : Bool). if t then push n else insns.Constant (integer n)) (le-leb n most_short le)

-- its Integer is loaded
pub loaded_so : (integer : ℕ → ℕ) (n : ℕ) → most_short < n → push_by integer n ≡ insns.Constant (integer n)
loaded_so integer n lt = ap (λ (t : Bool). if t then push n else insns.Constant (integer n)) (not_most most_short n lt)
  where
    not_most : (a b : ℕ) → a < b → nat_le b a ≡ false
    not_most a b less = grind (arith, nat_tests)
