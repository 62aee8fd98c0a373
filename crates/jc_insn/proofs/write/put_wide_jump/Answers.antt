use Rattle.jc_insn.proofs.InsnWritingLaws.{jump_tests}
use Rattle.jc_insn.proofs.write.put_wide_jump.Goals as goal

pub inverse-requires : goal.inverse-requires
inverse-requires c = jump_tests c.args.op c.requires.form c.if-op-eq-GOTO.false
