use Rattle.std.proofs.Common.{refl}
use Rattle.std.specs.Fmt.{digits}
use Rattle.jc_methods.specs.DescriptorTypes.{types_from, rest_from}
use Rattle.jc_programs.specs.Entries.{entry_of}
use Rattle.jc_machine_model.specs.Effects.{constant, moves_of, int_bits, int_pair, compared, long_pair, long_shift, int_single, long_single, single, pair, effect}
use Rattle.jc_machine_model.specs.Profile.{operation_of}
use Rattle.jc_machine_model.specs.Jumps.{test_of}
use Rattle.jc_machine_model.specs.Perform.{perform}
use Rattle.jc_machine_model.specs.Step.{step}
use Rattle.jc_machine_model.specs.Begin.{begin}
use Rattle.examples_machine.proofs.insns.worked_elements.Goals as goal

pub returns : goal.returns
unfolding types_from rest_from entry_of constant moves_of int_bits int_pair compared long_pair long_shift int_single long_single single pair effect operation_of test_of perform step begin digits
returns c = record {
  read = refl;
  read_long = refl;
  read_byte = refl;
  read_boolean = refl;
  read_short = refl;
  read_null = refl;
  read_other = refl;
  read_throwable = refl;
  read_probes = refl;
  read_past = refl;
  read_before = refl;
  write_past = refl;
  write_null = refl;
  write_boolean = refl;
  write_char = refl;
  make = refl;
  make_floats = refl;
  make_negative = refl;
  make_too_long = refl;
  length = refl;
  length_null = refl;
  length_probes = refl;
}
