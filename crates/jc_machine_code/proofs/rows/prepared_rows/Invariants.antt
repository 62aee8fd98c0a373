use Rattle.jc_methods.specs.declared.body.Body.{Body}
use Rattle.jc_machine_code.specs.Places.{AreWhats}
use Rattle.jc_machine_code.specs.Prepared.{IsRow}
use Rattle.jc_machine_code.proofs.CorrespondLaws.{BuiltTo}
use Rattle.jc_machine_code.proofs.rows.prepared_rows.Given as goal

abbrev pub invariant-preparing : goal.invariant-preparing
invariant-preparing l = (b : Body) → AreWhats b.uses l.whats.entries → BuiltTo (IsRow b) l.handlers l.row-index l.rows
