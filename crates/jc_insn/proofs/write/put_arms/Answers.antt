use Rattle.jc_insn.proofs.InsnWritingLaws.{puts_arm}
use Rattle.jc_insn.proofs.write.put_arms.Goals as goal

pub writing-preserved : goal.writing-preserved
writing-preserved c = puts_arm c.args.at c.args.starts.now c.args.arms.now c.writing.arm-index _ c.args.out.now.items c.writing.out.items
    c.put_arm.new.out.items c.writing-test.true c.writing.invariant c.in_ok-put_arm.ensures.text c.in_ok-put_arm.ensures.key
