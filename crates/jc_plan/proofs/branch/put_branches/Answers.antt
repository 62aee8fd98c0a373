use Rattle.std.proofs.Common.{length, ap, arith}
use Rattle.jc_methods.specs.Flow.{targets_of}
use Rattle.jc_plan.proofs.FlowLaws.{length_seen}
use Rattle.jc_plan.proofs.branch.put_branches.Goals as goal

pub put_arms-requires : goal.put_arms-requires
put_arms-requires c =
    omega (arith, length_seen (targets_of c.args.insn.now), ap length c.in_ok-distinct_targets-in-Table.ensures, ap length c.deref-in-Table.ensures, c.requires.targets)
