use Rattle.jc_emit.proofs.ProbeLaws.{probe_in, one_probe}
use Rattle.jc_emit.proofs.laws.each_probe_is_once.Goals as goal

pub returns : goal.returns
returns c = record { edge = probe_in; once = one_probe }
