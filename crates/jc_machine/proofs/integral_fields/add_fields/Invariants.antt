use Rattle.std.proofs.Common.{◌≡◌, ◌++◌, drop}
use Rattle.jc_machine.specs.IntegralFields.{fields_from}
use Rattle.jc_machine.proofs.integral_fields.add_fields.Given as goal

abbrev pub invariant-fields : goal.invariant-fields
invariant-fields l = l.fields.items ++ fields_from l.class l.k (drop l.k l.statics) ≡ l.initial.fields.items ++ fields_from l.class 0 l.statics
