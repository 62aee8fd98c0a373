use Rattle.std.specs.Prelude.{◌+◌, ◌≤◌}
use Rattle.jc_methods.specs.VerificationTypes.{Grows}
use Rattle.jc_instrument.specs.KeptStates.{places_kept}
use Rattle.jc_instrument.specs.Looking.{IsLooking}
use Rattle.jc_instrument.proofs.looking.look_at_methods.Given as goal

-- the methods so far are looked at
abbrev pub invariant-looking : goal.invariant-looking
invariant-looking l = record {
  looked : IsLooking l.names l.class l.number l.so_far;
  grows : Grows l.fn.names l.names;
  few : places_kept l.so_far.bodies + l.so_far.left ≤ l.fn.left;
}
