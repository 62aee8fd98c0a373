use Rattle.std.proofs.Common.{◌∙◌}
use Rattle.jc_command_run.proofs.HitLaws.{same_counts}
use Rattle.jc_command_dumped.proofs.writes.hits_write.Goals as goal

pub hit_store-requires-clause-counts : goal.hit_store-requires-clause-counts
hit_store-requires-clause-counts c = c.requires.counts ∙ same_counts c.args.program.now
