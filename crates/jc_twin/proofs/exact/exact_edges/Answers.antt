use Rattle.jc_twin_exact.proofs.ExactLaws.{exact_edges}
use Rattle.jc_twin.proofs.exact.exact_edges.Goals as goal

pub returns : goal.returns
returns c = exact_edges c.args.before.now c.args.after.now c.args.plan.now
