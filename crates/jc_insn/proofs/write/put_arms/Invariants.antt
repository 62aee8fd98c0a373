use Rattle.jc_insn.proofs.InsnWritingLaws.{ArmsPut}
use Rattle.jc_insn.proofs.write.put_arms.Given as goal

-- the arms so far
abbrev pub invariant-writing : goal.invariant-writing
invariant-writing l = ArmsPut l.at l.starts l.arms l.arm-index l.fn.out.items l.out.items
