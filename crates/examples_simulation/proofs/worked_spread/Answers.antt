use Rattle.std.proofs.Common.{◌≡◌, refl, ℕ, zero, suc, ◌<◌, false, [], arith}
use Rattle.std.specs.Prelude.{replicate}
use Rattle.std.specs.Fmt.{digits}
use Rattle.jc_methods.specs.ProbeMembers.{fetch_of}
use Rattle.jc_methods.specs.DescriptorTypes.{types_from, rest_from}
use Rattle.jc_programs.specs.Entries.{entry_of}
use Rattle.jc_machine_model.specs.Effects.{constant, moves_of, int_bits, int_pair, compared, long_pair, int_single, long_single, single, pair, effect}
use Rattle.jc_machine_model.specs.Profile.{operation_of}
use Rattle.jc_machine_model.specs.Jumps.{test_of}
use Rattle.jc_machine_model.specs.Perform.{perform}
use Rattle.jc_machine_model.specs.Step.{step}
use Rattle.jc_machine_model.specs.Begin.{begin}
use Rattle.jc_twin_simulation.specs.Kept.{is_kept}
use Rattle.jc_twin_simulation.specs.Schedules.{run_by}
use Rattle.examples_simulation.specs.SimulationExamples.{probed_nothing_program, nothing_marks, nothing_begun}
use Rattle.examples_simulation.proofs.worked_spread.Goals as goal

-- none of the 17 turns in front of the return is kept
none : (k : ℕ) → k < 17 → is_kept probed_nothing_program nothing_marks (run_by (step probed_nothing_program) nothing_begun (replicate k 0)) 0 ≡ false
unfolding types_from rest_from fetch_of entry_of constant moves_of int_bits int_pair compared long_pair int_single long_single single pair effect operation_of test_of perform step begin digits
none zero lt = refl
none (suc zero) lt = refl
none (suc (suc zero)) lt = refl
none (suc (suc (suc zero))) lt = refl
none (suc (suc (suc (suc zero)))) lt = refl
none (suc (suc (suc (suc (suc zero))))) lt = refl
none (suc (suc (suc (suc (suc (suc zero)))))) lt = refl
none (suc (suc (suc (suc (suc (suc (suc zero))))))) lt = refl
none (suc (suc (suc (suc (suc (suc (suc (suc zero)))))))) lt = refl
none (suc (suc (suc (suc (suc (suc (suc (suc (suc zero))))))))) lt = refl
none (suc (suc (suc (suc (suc (suc (suc (suc (suc (suc zero)))))))))) lt = refl
none (suc (suc (suc (suc (suc (suc (suc (suc (suc (suc (suc zero))))))))))) lt = refl
none (suc (suc (suc (suc (suc (suc (suc (suc (suc (suc (suc (suc zero)))))))))))) lt = refl
none (suc (suc (suc (suc (suc (suc (suc (suc (suc (suc (suc (suc (suc zero))))))))))))) lt = refl
none (suc (suc (suc (suc (suc (suc (suc (suc (suc (suc (suc (suc (suc (suc zero)))))))))))))) lt = refl
none (suc (suc (suc (suc (suc (suc (suc (suc (suc (suc (suc (suc (suc (suc (suc zero))))))))))))))) lt = refl
none (suc (suc (suc (suc (suc (suc (suc (suc (suc (suc (suc (suc (suc (suc (suc (suc zero)))))))))))))))) lt = refl
none (suc (suc (suc (suc (suc (suc (suc (suc (suc (suc (suc (suc (suc (suc (suc (suc (suc k))))))))))))))))) lt = absurd (omega (arith, lt))

pub returns : goal.returns
unfolding types_from rest_from fetch_of entry_of constant moves_of int_bits int_pair compared long_pair int_single long_single single pair effect operation_of test_of perform step begin digits
returns c = record { longest = (17, [], record { comes = refl; none_before = none }, refl, refl) }
