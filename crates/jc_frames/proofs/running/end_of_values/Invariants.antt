use Rattle.std.proofs.Common.{◌≡◌, ◌≤◌, length, take, map}
use Rattle.jc_methods.specs.VerificationTypes.{Names, verification_type}
use Rattle.jc_frames.specs.Frames.{trimmed}
use Rattle.jc_frames.proofs.running.end_of_values.Given as goal

abbrev pub decreases-trimming : goal.decreases-trimming
decreases-trimming l = l.end

abbrev pub invariant-trimming : goal.invariant-trimming
invariant-trimming l = record {
  within : l.end ≤ length l.locals;
  same : (names : Names) → trimmed (map (verification_type names) l.locals) ≡ trimmed (map (verification_type names) (take l.end l.locals));
}
