-- What instrumented code is to the calls that take it.
use Rattle.std.proofs.Common.{◌≡◌, ◌≤◌, ℕ, List, [], length, sym, subst}
use Rattle.jc_methods.specs.FrameOrder.{RiseFrom}
use Rattle.jc_methods.specs.VerificationTypes.{Names, AreNumberedFrames, Grows}
use Rattle.jc_methods.specs.WellMade.{IsWellMade, IsWellMadeOfAnySize}
use Rattle.jc_methods.specs.declared.body.Body.{Body}
use Rattle.jc_methods.specs.declared.emitted.Emitted.{Emitted}
use Rattle.jc_methods.specs.declared.kind.State.{State}
use Rattle.jc_methods.specs.declared.probe_members.Fetch.{Fetch}
use Rattle.jc_methods.specs.declared.probe_members.Fetch.TheVariants as fetches
use Rattle.jc_methods.proofs.NumberedLaws.{grown_count, frames_numbered}
use Rattle.jc_kinds.specs.Answers.{AreStates}
use Rattle.jc_layout.specs.Layable.{IsLayable}
use Rattle.jc_emit.specs.Emission.{Emitting, IsArrayNumber, emission}
use Rattle.jc_emit.specs.Twin.{IsEmitted}
use Rattle.jc_emit.specs.Written.{given, integer_in}
use Rattle.jc_instrument.proofs.KeptStatesLaws.{states_grown}
use Rattle.jc_layout.proofs.LayableLaws.{all_formed, all_within, few_in}
use Rattle.jc_instrument.proofs.WritableLaws.{has_frames}
use Rattle.jc_instrument.specs.declared.constants.ProbeConstants.{ProbeConstants}
use Rattle.tests_classes.specs.Instrumented.{IsInstrumented, FitsInLayout}

-- the code of an emission can be laid out
emission_layable : (b : Body) (first : ℕ) (states : List State) (given : Emitting) → IsWellMadeOfAnySize b → IsLayable (emission b first states given).code
unfolding emission
emission_layable b first states given made = record {
  well_formed = all_formed b first given.fetch given.integer made.code;
  places = all_within b first given.fetch given.integer made.code;
  few = few_in b first states given made.code;
}

module _ (names : Names) (b : Body) (fetch : Fetch) (first : ℕ) (constants : List ℕ) (e : Emitted) where
  pub layable : IsWellMade b → IsInstrumented names b fetch first constants e → IsLayable e.code
  layable made is =
      subst (λ (x : Emitted). IsLayable x.code) (sym is.made) (emission_layable b first is.states (given fetch is.array constants) made.of_any_size)

  pub frames_rise : IsInstrumented names b fetch first constants e → RiseFrom 0 e.frames
  frames_rise is = is.told.frames.rising

  pub wide_frames_rise : IsInstrumented names b fetch first constants e → RiseFrom 0 e.wide_frames
  wide_frames_rise is = is.told.wide_frames.rising

-- by the method, and without Integers
abbrev by_method : ProbeConstants
by_method = record { fetch = fetches.Member; giver = 0; integers = [] }

module _ (names : Names) (b : Body) (first : ℕ) (states : List State) (array : ℕ) where
  abbrev by_member : Emitted
  by_member = emission b first states (given fetches.Member array [])

  fit : AreStates names b states → IsArrayNumber names array → IsEmitted names names states fetches.Member (integer_in []) first b by_member
      → by_member.max_locals ≤ 65535 → by_member.max_stack ≤ 65535 → FitsInLayout (length names) by_member
  fit are array_is told few low = record { frames = λ l laid. has_frames by_method names b first states array l are array_is laid told few low }

pub fits_in_layout : (names : Names) (b : Body) (first : ℕ) (e : Emitted) → IsInstrumented names b fetches.Member first [] e → e.max_locals ≤ 65535
    → e.max_stack ≤ 65535 → FitsInLayout (length names) e
fits_in_layout names b first e is locals stack =
    subst (FitsInLayout (length names)) (sym is.made)
    (fit names b first is.states is.array is.are is.array_is (subst (IsEmitted names names is.states fetches.Member (integer_in []) first b) is.made is.told)
    (subst (λ (x : Emitted). x.max_locals ≤ 65535) is.made locals) (subst (λ (x : Emitted). x.max_stack ≤ 65535) is.made stack))

pub instrumented_is : (first_names old new : Names) (b : Body) (states : List State) (fetch : Fetch) (first : ℕ) (constants : List ℕ) (e : Emitted)
    → Grows first_names old → Grows old new → AreNumberedFrames (length first_names) b.frames → AreStates old b states
    → ((array : ℕ) × IsArrayNumber new array × (e ≡ emission b first states (given fetch array constants)))
    → IsEmitted new new states fetch (integer_in constants) first b e → IsInstrumented new b fetch first constants e
instrumented_is first_names old new b states fetch first constants e grew grows numbered are is told = record {
  states = states;
  are =
      states_grown old new b states grows (frames_numbered (length first_names) (length old) b.frames (grown_count first_names old grew) numbered) are;
  array = is.0;
  array_is = is.1;
  made = is.2;
  told = told;
}
