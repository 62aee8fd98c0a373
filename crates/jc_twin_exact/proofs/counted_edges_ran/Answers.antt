use Rattle.jc_twin_exact.proofs.ReportedLaws.{reported_edges}
use Rattle.jc_twin_exact.proofs.counted_edges_ran.Goals as goal

pub returns : goal.returns
returns c = reported_edges
