use Rattle.std.proofs.Common.{◌≡◌, ℕ, map, take, All}
use Rattle.jc_methods.specs.EntryState.{spread}
use Rattle.jc_methods.specs.VerificationTypes.{Names, verification_type, IsNumbered}
use Rattle.jc_frames.proofs.building.locals_of.Given as goal

abbrev pub invariant-spreading : goal.invariant-spreading
invariant-spreading l = record {
  seen : (names : Names) → map (verification_type names) l.locals ≡ spread (map (verification_type names) (take l.kind-index l.kinds));
  numbered : (count : ℕ) → All (IsNumbered count) l.kinds → All (IsNumbered count) l.locals;
}
