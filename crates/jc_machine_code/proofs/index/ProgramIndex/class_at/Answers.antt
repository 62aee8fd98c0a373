use Rattle.std.proofs.Common.{List, ap, ◌∙◌}
use Rattle.std.specs.List.{slice_get}
use Rattle.jc_machine_code.specs.declared.index.ClassIndex.{ClassIndex}
use Rattle.jc_machine_code.proofs.SiteLaws.{got, class_found}
use Rattle.jc_machine_code.proofs.index.ProgramIndex.class_at.Goals as goal

pub returns : goal.returns
returns c = λ program index.
    class_found program c.args.self.now c.args.class c.get.result
    (got c.as_slice.result.now c.args.class c.get.result c.get.ensures.lookup ∙ ap (λ (xs : List ClassIndex). slice_get xs c.args.class) c.as_slice.ensures) index
