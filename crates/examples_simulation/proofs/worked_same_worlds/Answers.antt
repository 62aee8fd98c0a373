use Rattle.std.proofs.Common.{◌≡◌, refl, ℕ, zero, suc, false, [], ◌∷◌, None, ap, ◌∙◌, arith, if◌then◌else◌, ◌+◌}
use Rattle.std.proofs.lemmas.Bool.{true≢false, le-ltb}
use Rattle.std.specs.Fmt.{digits}
use Rattle.jc_methods.specs.ProbeMembers.{fetch_of}
use Rattle.jc_methods.specs.DescriptorTypes.{types_from, rest_from}
use Rattle.jc_programs.specs.Entries.{entry_of}
use Rattle.jc_machine_model.specs.Effects.{constant, moves_of, int_bits, int_pair, compared, long_pair, int_single, long_single, single, pair, effect}
use Rattle.jc_machine_model.specs.Profile.{operation_of}
use Rattle.jc_machine_model.specs.Jumps.{test_of}
use Rattle.jc_machine_model.specs.Perform.{perform}
use Rattle.jc_machine_model.specs.Step.{step}
use Rattle.jc_machine_model.specs.Begin.{begin}
use Rattle.jc_machine_model.specs.Run.{run}
use Rattle.jc_twin_simulation.specs.Same.{twin_slot, is_data, static_in}
use Rattle.examples_machine.specs.ProgramExamples.{inc_program, probed_inc_program}
use Rattle.examples_simulation.specs.SimulationExamples.{one_inc}
use Rattle.std.specs.Prelude.{Option, Some, slice_get, replicate}
use Rattle.examples_simulation.proofs.worked_same_worlds.Goals as goal

statics : (class field : ℕ) → is_data probed_inc_program class field ≡ false
    → static_in (run probed_inc_program one_inc (replicate 20 0)) class field ≡ static_in (run inc_program one_inc (replicate 4 0)) class field
unfolding types_from rest_from fetch_of entry_of constant moves_of int_bits int_pair compared long_pair int_single long_single single pair effect operation_of test_of perform step begin digits
statics zero zero h = refl
statics zero (suc zero) h = absurd (true≢false h)
statics zero (suc (suc field)) h = refl
statics (suc class) field h = refl

-- the method has no local variables, and the twin's is that of the probe array
slots : {A : Type 0} (x : Option A) (k : ℕ) → slice_get (x ∷ []) (twin_slot (Some 0) k) ≡ None
slots x k = ap (λ b. slice_get (x ∷ []) (if b then k else k + 1)) (le-ltb k 0 (omega arith)) ∙ ap (λ j. slice_get (x ∷ []) j) (behind k)
  where
    behind : (k : ℕ) → k + 1 ≡ suc k
    behind k = omega arith

pub returns : goal.returns
unfolding types_from rest_from fetch_of entry_of constant moves_of int_bits int_pair compared long_pair int_single long_single single pair effect operation_of test_of perform step begin digits
returns c = record {
  within = record {
    output = refl;
    heap = refl;
    raised = refl;
    statics = statics;
    threads = ((record { method = refl; place = refl; slots = slots _; extra = 3; extra_is = refl; stack = refl }, tt), tt);
  };
}
