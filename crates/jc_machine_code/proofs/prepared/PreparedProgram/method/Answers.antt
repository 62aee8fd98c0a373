use Rattle.std.proofs.Common.{List, Some, sym, ap, ◌∙◌}
use Rattle.std.specs.List.{slice_get}
use Rattle.jc_machine_code.specs.declared.prepared.PreparedClass.{PreparedClass}
use Rattle.jc_machine_code.specs.declared.prepared.PreparedMethod.{PreparedMethod}
use Rattle.jc_machine_code.proofs.SiteLaws.{got}
use Rattle.jc_machine_code.proofs.PrepareLaws.{method_found}
use Rattle.jc_machine_code.proofs.prepared.PreparedProgram.method.Goals as goal

pub returns : goal.returns
returns c = λ program is.
    method_found program c.args.self.now c.args.method c.in_ok-class.class.now
    (sym (got c.as_slice.result.now c.args.method.class (Some c.in_ok-class.class) c.in_ok-class.ensures.lookup
    ∙ ap (λ (xs : List PreparedClass). slice_get xs c.args.method.class) c.as_slice.ensures))
    is c.get-2.result
    (got c.as_slice-2.result.now c.args.method.method c.get-2.result c.get-2.ensures.lookup
    ∙ ap (λ (xs : List PreparedMethod). slice_get xs c.args.method.method) c.as_slice-2.ensures)
