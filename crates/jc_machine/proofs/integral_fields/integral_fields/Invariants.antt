use Rattle.std.proofs.Common.{◌≡◌, ◌++◌, drop}
use Rattle.jc_machine.specs.IntegralFields.{classes_from, integral_fields}
use Rattle.jc_machine.proofs.integral_fields.integral_fields.Given as goal

abbrev pub invariant-classes : goal.invariant-classes
invariant-classes l = l.fields.items ++ classes_from l.k (drop l.k l.program.classes) ≡ integral_fields l.program
