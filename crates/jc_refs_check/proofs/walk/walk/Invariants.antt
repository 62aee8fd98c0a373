use Rattle.std.proofs.Common.{◌≡◌}
use Rattle.jc_kinds_after.specs.Effects.{AreEffects, body_of}
use Rattle.jc_methods.specs.VerificationTypes.{Grows}
use Rattle.jc_refs_check.specs.Classes.{AreKnown}
use Rattle.jc_refs_check.specs.KindNeeds.{IsCheckedMethod}
use Rattle.jc_refs_check.proofs.SuitedWalkLaws.{IsSuitedWalking}
use Rattle.jc_refs_check.proofs.walk.walk.Given as goal

-- the instructions so far are suited
abbrev pub invariant-walking : goal.invariant-walking
invariant-walking l = record {
  walking : IsSuitedWalking l.checked.program.now l.checked.method l.checked.body.now l.classes.names l.keeps l.states.items l.at l.state;
  method : IsCheckedMethod l.classes.names l.checked;
  known : AreKnown l.classes;
  grown : Grows l.fn.classes.names l.classes.names;
  effects : AreEffects l.classes.names l.effects;
  body : body_of l.effects ≡ l.checked.body.now;
}
