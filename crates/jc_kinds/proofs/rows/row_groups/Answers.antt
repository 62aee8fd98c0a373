use Rattle.std.proofs.Common.{List, subst}
use Rattle.jc_methods.specs.declared.body.Handler.{Handler}
use Rattle.jc_kinds.specs.Rows.{AreGroups, rows_of}
use Rattle.jc_kinds.proofs.RowLaws.{moved_groups}
use Rattle.jc_kinds.proofs.rows.row_groups.Goals as goal

pub returns : goal.returns
returns c =
    let groups = rows_of c.in_ok-groups_of.field-0.items in
    moved_groups c.args.handlers.now c.in_ok-sorted.sorted.items groups c.in_ok-sorted.ensures
    (subst (λ (rows : List Handler). AreGroups rows groups) c.deref.ensures.value c.in_ok-groups_of.ensures)
