use Rattle.std.proofs.Common.{◌≡◌}
use Rattle.jc_kinds_after.specs.Effects.{AreEffects, body_of}
use Rattle.jc_kinds.proofs.WalkLaws.{IsWalking}
use Rattle.jc_kinds.proofs.walk.walk.Given as goal

-- the states so far
abbrev pub invariant-walking : goal.invariant-walking
invariant-walking l = record {
  walking : IsWalking l.fn.names l.names l.framed.body.now l.keeps l.states.items l.at l.state;
  effects : AreEffects l.names l.effects;
  body : body_of l.effects ≡ l.framed.body.now;
}
