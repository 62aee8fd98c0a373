use Rattle.std.proofs.Common.{refl}
use Rattle.std.specs.Fmt.{digits}
use Rattle.jc_methods.specs.DescriptorTypes.{types_from, rest_from}
use Rattle.jc_programs.specs.Entries.{entry_of}
use Rattle.jc_machine_model.specs.Effects.{constant, moves_of, int_bits, int_pair, compared, long_pair, long_shift, int_single, long_single, single, pair, effect}
use Rattle.jc_machine_model.specs.Profile.{operation_of}
use Rattle.jc_machine_model.specs.Jumps.{test_of}
use Rattle.jc_machine_model.specs.Perform.{perform}
use Rattle.jc_machine_model.specs.Step.{step}
use Rattle.jc_machine_model.specs.Begin.{begin}
use Rattle.examples_machine.proofs.insns.worked_probes.Goals as goal

pub returns : goal.returns
unfolding types_from rest_from entry_of constant moves_of int_bits int_pair compared long_pair long_shift int_single long_single single pair effect operation_of test_of perform step begin digits
returns c = record {
  hit = refl;
  odd = refl;
  even = refl;
  past = refl;
  even_past = refl;
  ints = refl;
  text = refl;
  text_elsewhere = refl;
  asks = refl;
  other_id = refl;
  other_count = refl;
  asks_elsewhere = refl;
  other_call = refl;
  prints = refl;
  init_elsewhere = refl;
  data_elsewhere = refl;
  own_data = refl;
}
