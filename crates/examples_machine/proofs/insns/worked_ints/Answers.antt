use Rattle.std.proofs.Common.{refl}
use Rattle.std.specs.Fmt.{digits}
use Rattle.jc_methods.specs.DescriptorTypes.{types_from, rest_from}
use Rattle.jc_programs.specs.Entries.{entry_of}
use Rattle.jc_machine_model.specs.Effects.{constant, moves_of, int_bits, int_pair, compared, long_pair, long_shift, int_single, long_single, single, pair, effect}
use Rattle.jc_machine_model.specs.Profile.{operation_of}
use Rattle.jc_machine_model.specs.Jumps.{test_of}
use Rattle.jc_machine_model.specs.Perform.{perform}
use Rattle.jc_machine_model.specs.Step.{step}
use Rattle.jc_machine_model.specs.Begin.{begin}
use Rattle.examples_machine.proofs.insns.worked_ints.Goals as goal

pub returns : goal.returns
unfolding types_from rest_from entry_of constant moves_of int_bits int_pair compared long_pair long_shift int_single long_single single pair effect operation_of test_of perform step begin digits
returns c = record {
  adds = refl;
  subtracts = refl;
  multiplies = refl;
  divides = refl;
  divides_least = refl;
  by_zero = refl;
  rest = refl;
  rest_least = refl;
  rest_by_zero = refl;
  negates = refl;
  shifts = refl;
  shifts_back = refl;
  shifts_unsigned = refl;
  unsigned_by_none = refl;
  ands = refl;
  ors = refl;
  xors = refl;
  widens = refl;
  byte = refl;
  char = refl;
  short = refl;
  pushes = refl;
  minus_one = refl;
  five = refl;
  loads = refl;
  nothing = refl;
}
