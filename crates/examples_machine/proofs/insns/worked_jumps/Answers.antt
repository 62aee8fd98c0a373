use Rattle.std.proofs.Common.{refl}
use Rattle.std.specs.Fmt.{digits}
use Rattle.jc_methods.specs.DescriptorTypes.{types_from, rest_from}
use Rattle.jc_programs.specs.Entries.{entry_of}
use Rattle.jc_machine_model.specs.Effects.{constant, moves_of, int_bits, int_pair, compared, long_pair, long_shift, int_single, long_single, single, pair, effect}
use Rattle.jc_machine_model.specs.Profile.{operation_of}
use Rattle.jc_machine_model.specs.Jumps.{test_of}
use Rattle.jc_machine_model.specs.Perform.{perform}
use Rattle.jc_machine_model.specs.Step.{step}
use Rattle.jc_machine_model.specs.Begin.{begin}
use Rattle.examples_machine.proofs.insns.worked_jumps.Goals as goal

pub returns : goal.returns
unfolding types_from rest_from entry_of constant moves_of int_bits int_pair compared long_pair long_shift int_single long_single single pair effect operation_of test_of perform step begin digits
returns c = record {
  if_zero = refl;
  if_not_zero = refl;
  if_negative = refl;
  if_not_negative = refl;
  if_positive = refl;
  if_not_positive = refl;
  if_less = refl;
  if_at_least = refl;
  if_greater = refl;
  if_at_most = refl;
  if_same = refl;
  if_other = refl;
  if_null = refl;
  if_not_null = refl;
  no_int = refl;
  always = refl;
  arm = refl;
  below = refl;
  above = refl;
  key = refl;
  no_key = refl;
}
