-- States that were tested.
use Rattle.std.proofs.Common.{ℕ, All}
use Rattle.std.proofs.lemmas.List.Elements.{recursion_from_All}
use Rattle.jc_base.specs.VerificationTypes.{IsNumbered, IsNumberedState}
use Rattle.jc_base.specs.declared.State.{State}

pub state_numbered : (count : ℕ) (s : State) → All (IsNumbered count) s.locals → All (IsNumbered count) s.stack → IsNumberedState count s
state_numbered count s locals stack = record {
  locals = recursion_from_All (IsNumbered count) s.locals locals;
  stack = recursion_from_All (IsNumbered count) s.stack stack;
}
