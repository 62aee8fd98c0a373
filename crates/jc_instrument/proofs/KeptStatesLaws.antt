-- The states of a body under more names.
use Rattle.std.proofs.Common.{◌≡◌, ℕ, List, length, Some, slice_get, sym, ◌∙◌, ap}
use Rattle.jc_methods.specs.VerificationTypes.{Names, AreNumberedFrames, Grows}
use Rattle.jc_methods.specs.declared.body.Body.{Body}
use Rattle.jc_methods.specs.declared.kind.State.{State}
use Rattle.jc_methods.proofs.NumberedLaws.{grown_count, seen_grown, state_numbered}
use Rattle.jc_kinds.specs.Answers.{AreStates, IsStateAt}
use Rattle.jc_kinds.specs.States.{state_of}
use Rattle.jc_kinds.proofs.GrowLaws.{states_stay}

pub states_grown : (old new : Names) (b : Body) (states : List State) → Grows old new → AreNumberedFrames (length old) b.frames → AreStates old b states
    → AreStates new b states
states_grown old new b states grows numbered are = record { count = are.count; each = each }
  where
    each : (i : ℕ) (s : State) → slice_get states i ≡ Some s → IsStateAt new b i s
    each i s at =
        let there = are.each i s at in
        record {
          is = ap (λ (l : Names). state_of l b i) grows.1 ∙ states_stay old grows.0 b numbered i ∙ there.is
              ∙ ap Some (sym (seen_grown old new s grows there.numbered));
          numbered = state_numbered (length old) (length new) s (grown_count old new grows) there.numbered;
          well_made = there.well_made;
        }
