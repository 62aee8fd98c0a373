use Rattle.std.proofs.Common.{◌<◌, length, arith}
use Rattle.jc_plan.specs.Edges.{arm}
use Rattle.jc_plan.proofs.PlacesLaws.{puts_mapped}
use Rattle.jc_plan.proofs.branch.put_arms.Goals as goal

pub putting-preserved : goal.putting-preserved
putting-preserved c =
    let lt : c.putting.number < length c.args.targets.now = omega arith in
    puts_mapped (arm c.args.at) c.args.targets.now c.putting.number 0 c.args.list.now.items c.putting.list.items c.push.new.self.items lt c.putting.invariant
    c.in_ok-push.ensures.items
