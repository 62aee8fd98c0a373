-- What is emitted of one body, and its plan.
use Rattle.std.proofs.Common.{◌≡◌, ◌⊎◌, inl, inr, ℕ, ◌<◌, ◌≤◌, List, [], length, Some, slice_get, refl, sym, ◌∙◌, ap}
use Rattle.std.proofs.lemmas.Bool.{cases_lt}
use Rattle.std.proofs.lemmas.List.{get_or_past}
use Rattle.std.proofs.lemmas.Option.{none-some, slice_get-get_or}
use Rattle.jc_methods.specs.VerificationTypes.{Names, AreNumberedFrames, Grows}
use Rattle.jc_methods.specs.declared.body.Body.{Body}
use Rattle.jc_methods.specs.declared.emitted.Emitted.{Emitted}
use Rattle.jc_methods.specs.declared.insn.Insn.{Insn}
use Rattle.jc_methods.specs.declared.kind.State.{State}
use Rattle.jc_methods.specs.declared.probe_members.Fetch.{Fetch}
use Rattle.jc_methods.specs.WellMade.{IsWellMadeOfAnySize}
use Rattle.jc_emit.specs.Emission.{emission, IsArrayNumber}
use Rattle.jc_emit.specs.Shift.{probe_array_class}
use Rattle.jc_emit.specs.Stages.{emitted_code, moved_tables}
use Rattle.jc_emit.specs.Written.{integer_in}
use Rattle.jc_layout.specs.Layable.{IsLayable}
use Rattle.jc_layout.specs.LaidBody.{ready_code}
use Rattle.jc_layout.proofs.LayableLaws.{all_formed, all_within, few_in, ready_layable}
use Rattle.jc_instrument_code.specs.TwinCode.{tables_in}
use Rattle.jc_instrument_reread.specs.WrittenCode.{ready_emission}
use Rattle.jc_instrument.specs.Constants.{given_with, probed_code}
use Rattle.jc_instrument.specs.declared.constants.ProbeConstants.{ProbeConstants}
use Rattle.jc_instrument.specs.BodiesWithStates.{BodyWithStates, IsBodyWithStates}
use Rattle.jc_instrument.proofs.KeptStatesLaws.{states_grown}

-- ---- one body

module _ (constants : ProbeConstants) (b : Body) (first : ℕ) (states : List State) (array : ℕ) where
  pub emission_code : (ready_emission b first states (given_with constants array) constants.giver).code ≡ probed_code constants b first
  unfolding emission
  emission_code = refl

  pub emission_tables : moved_tables b first constants.fetch ≡ tables_in (ready_emission b first states (given_with constants array) constants.giver)
  unfolding emission
  emission_tables = refl

  pub emission_layable : IsWellMadeOfAnySize b → IsLayable (emitted_code b first constants.fetch (integer_in constants.integers))
  unfolding emission
  emission_layable made = record {
    well_formed = all_formed b first constants.fetch (integer_in constants.integers) made.code;
    places = all_within b first constants.fetch (integer_in constants.integers) made.code;
    few = few_in b first states (given_with constants array) made.code;
  }

-- code of no body, with nothing else
abbrev alone : List Insn → Emitted
alone code = record {
  code = code;
  at = [];
  own = [];
  extra = [];
  handlers = [];
  lines = [];
  vars = [];
  kind_vars = [];
  frames = [];
  wide_frames = [];
  max_stack = 0;
  max_locals = 0;
}

pub code_layable : (fetch : Fetch) (giver : ℕ) (code : List Insn) → IsLayable code → IsLayable (ready_code fetch giver code)
code_layable fetch giver code layable = ready_layable fetch giver (alone code) layable

-- ---- more names

-- a name stands at the number of the class of the probe array
pub array_stands : (names : Names) (array : ℕ) → IsArrayNumber names array → slice_get names array ≡ Some probe_array_class
array_stands names array is = by (cases_lt array (length names))
  where
    nothing : [] ≡ probe_array_class → ⊥
    nothing e = cc

    by : (array < length names) ⊎ (length names ≤ array) → slice_get names array ≡ Some probe_array_class
    by (inl inside) = slice_get-get_or names array [] inside ∙ ap Some is
    by (inr past) = absurd (nothing (sym (get_or_past names array [] past) ∙ is))

-- ---- works

pub nothing_at : {X : Type 0} (i : ℕ) (x : X) → slice_get [] i ≡ Some x → ⊥
nothing_at i x is = none-some x is

pub work_grown : (old new : Names) (bodies : List Body) (i : ℕ) (w : BodyWithStates) → Grows old new → AreNumberedFrames (length old) w.body.frames
    → IsBodyWithStates old bodies i w → IsBodyWithStates new bodies i w
work_grown old new bodies i w grows numbered is = record { first = is.first; states = states_grown old new w.body w.states grows numbered is.states }
