use Rattle.jc_twin_exact.proofs.ReportedLaws.{reported_edges}
use Rattle.jc_twin.proofs.exact.reported_edges.Goals as goal

pub returns : goal.returns
returns c = reported_edges c.args.before.now c.args.after.now c.args.plan.now
