use Rattle.std.proofs.Common.{refl}
use Rattle.jc_methods.specs.DescriptorTypes.{types_from, rest_from}
use Rattle.jc_kinds_after.specs.Table.{table, forms_at}
use Rattle.jc_kinds_after.specs.After.{after_of}
use Rattle.jc_kinds.specs.States.{state_of}
use Rattle.jc_kinds.specs.Checking.{verdict_of}
use Rattle.examples_machine.proofs.constants.worked_constant_checks.Goals as goal

pub returns : goal.returns
unfolding types_from rest_from table forms_at after_of state_of verdict_of
returns c = record { method = refl; bootstrap = refl }
