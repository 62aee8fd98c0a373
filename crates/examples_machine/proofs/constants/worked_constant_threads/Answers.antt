use Rattle.std.proofs.Common.{refl}
use Rattle.std.specs.Fmt.{digits}
use Rattle.jc_methods.specs.ProbeMembers.{fetch_of}
use Rattle.jc_methods.specs.DescriptorTypes.{types_from, rest_from}
use Rattle.jc_programs.specs.Entries.{entry_of}
use Rattle.jc_machine_model.specs.Effects.{constant, moves_of, int_bits, int_pair, compared, long_pair, long_shift, int_single, long_single, single, pair, effect}
use Rattle.jc_machine_model.specs.Profile.{operation_of}
use Rattle.jc_machine_model.specs.Jumps.{test_of}
use Rattle.jc_machine_model.specs.Perform.{perform}
use Rattle.jc_machine_model.specs.Step.{step}
use Rattle.jc_machine_model.specs.Begin.{begin}
use Rattle.examples_machine.proofs.constants.worked_constant_threads.Goals as goal

pub returns : goal.returns
unfolding types_from rest_from entry_of constant moves_of int_bits int_pair compared long_pair long_shift int_single long_single single pair effect
    operation_of test_of perform step begin digits fetch_of
returns c = record { in_turns = refl; in_order = refl; hits = refl }
