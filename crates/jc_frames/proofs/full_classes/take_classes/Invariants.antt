use Rattle.std.proofs.Common.{map, drop}
use Rattle.jc_methods.specs.VerificationTypes.{type_state_at}
use Rattle.jc_pool.specs.Adding.{Extends}
use Rattle.jc_frames.specs.FullTable.{AreTaken, named_by_all}
use Rattle.jc_frames.proofs.TakenLaws.{Taking}
use Rattle.jc_frames.proofs.full_classes.take_classes.Given as goal

abbrev pub invariant-taking : goal.invariant-taking
invariant-taking l = record {
  taking : Taking l.fn.pool (named_by_all (map (type_state_at l.names) l.frames)) l.pool (named_by_all (map (type_state_at l.names) (drop l.frame-index l.frames)));
  taken : AreTaken l.pool l.names l.met;
  extends : Extends l.fn.pool l.pool;
}
