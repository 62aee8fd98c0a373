use Rattle.std.proofs.Common.{◌∙◌, ap}
use Rattle.jc_programs.specs.Probes.{counts_of}
use Rattle.jc_machine.proofs.SinkLaws.{counts_of-no_hits}
use Rattle.jc_machine.proofs.sink.BitSink.new.Goals as goal

pub returns-clause-counts : goal.returns-clause-counts
returns-clause-counts c = ap counts_of c.in_ok-new.ensures ∙ counts_of-no_hits c.args.counts.now
