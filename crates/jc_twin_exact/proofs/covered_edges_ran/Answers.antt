use Rattle.jc_twin_exact.proofs.ExactLaws.{exact_edges}
use Rattle.jc_twin_exact.proofs.covered_edges_ran.Goals as goal

pub returns : goal.returns
returns c = exact_edges
