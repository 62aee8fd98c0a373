-- Whether two codes are one is decided.
use Rattle.std.proofs.Common.{◌≡◌, Bool, List, rules, arith}
use Rattle.std.proofs.lemmas.Grind.{common_steps}
use Rattle.std.specs.Bool.{Decides}
use Rattle.std.specs.Cmp.Lexicographic.{pointwise, pointwise_decides}
use Rattle.jc_methods.specs.declared.insn.Insn.{Insn}
use Rattle.jc_methods.specs.declared.insn.Arm.{Arm}
use Rattle.jc_methods.specs.contracts.insn.ArmPartialEq.TheImpl as arm
use Rattle.jc_methods.specs.contracts.insn.InsnPartialEq.TheImpl as insn

arm_decided : (x y : Arm) → Decides ((arm.ghosts).eq x y) (x ≡ y)
arm_decided x y = search rules

arms_decided : (a b : List Arm) → Decides (pointwise ((arm.ghosts).eq) a b) (a ≡ b)
arms_decided a b = pointwise_decides arm_decided a b

pub insn_decided : (x y : Insn) → Decides ((insn.ghosts).eq x y) (x ≡ y)
insn_decided x y = first_of (search (rules, arms_decided), grind (arith, common_steps, arms_decided))

pub code_decided : (a b : List Insn) → (t : Bool) × Decides t (a ≡ b)
code_decided a b = (pointwise ((insn.ghosts).eq) a b, pointwise_decides insn_decided a b)
