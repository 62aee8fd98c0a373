use Rattle.std.proofs.Common.{◌∙◌, ap}
use Rattle.jc_programs.specs.Probes.{counts_of}
use Rattle.jc_machine.proofs.SinkLaws.{counts_of-with_hit}
use Rattle.jc_machine.proofs.sink.BitSinkProbeSink.hit.Goals as goal

pub returns-clause-counts : goal.returns-clause-counts
returns-clause-counts c = ap counts_of c.set.ensures ∙ (counts_of-with_hit _ _ _ ∙ ap counts_of c.self.view_is)
