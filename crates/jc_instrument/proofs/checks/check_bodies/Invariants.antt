use Rattle.std.proofs.Common.{◌≡◌, take}
use Rattle.std.specs.Prelude.{true}
use Rattle.jc_methods.specs.VerificationTypes.{Grows}
use Rattle.jc_instrument.specs.Found.{AreFramesFine, FramesSoFar}
use Rattle.jc_instrument.proofs.CheckingLaws.{HaveStatesBelow}
use Rattle.jc_instrument.proofs.checks.check_bodies.Given as goal

-- the first refusals of the bodies so far
abbrev pub invariant-checking : goal.invariant-checking
invariant-checking l = record {
  grows : Grows l.fn.names l.names;
  frames : FramesSoFar l.names (take l.body-index l.bodies) l.first.missing l.first.clash;
  states : l.numbers ≡ true → AreFramesFine l.first → HaveStatesBelow l.names l.bodies l.body-index;
}
