use Rattle.std.proofs.Common.{map, drop}
use Rattle.jc_methods.specs.VerificationTypes.{class_names, verification_type}
use Rattle.jc_pool.specs.Adding.{Extends}
use Rattle.jc_frames.specs.FullTable.{AreTaken}
use Rattle.jc_frames.proofs.TakenLaws.{Taking}
use Rattle.jc_frames.proofs.full_classes.take_classes_of.Given as goal

abbrev pub invariant-taking : goal.invariant-taking
invariant-taking l = record {
  taking : Taking l.fn.pool (class_names (map (verification_type l.names) l.kinds)) l.pool (class_names (map (verification_type l.names) (drop l.kind-index l.kinds)));
  taken : AreTaken l.pool l.names l.met;
  extends : Extends l.fn.pool l.pool;
}
