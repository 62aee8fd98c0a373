use Rattle.std.proofs.Common.{◌≡◌, length}
use Rattle.jc_insn.specs.Items.{ascending}
use Rattle.jc_insn.proofs.switch.is_ascending.Given as goal

-- the keys up to here ascend
abbrev pub invariant-comparing : goal.invariant-comparing
invariant-comparing l = ascending l.left ≡ ascending l.arms

abbrev pub decreases-comparing : goal.decreases-comparing
decreases-comparing l = length l.left
