use Rattle.std.proofs.Common.{List, sym, subst}
use Rattle.jc_methods.specs.declared.body.Handler.{Handler}
use Rattle.jc_kinds.specs.First.{IsFirstOrBound}
use Rattle.jc_kinds.specs.Guarded.{IsUnfitInColumn}
use Rattle.jc_kinds.specs.Rows.{IsGroup}
use Rattle.jc_kinds.proofs.GroupLaws.{group_at, no_groups_unfit, next_group}
use Rattle.jc_kinds.proofs.guarded.first_in_column.Goals as goal

pub looking-init : goal.looking-init
looking-init c = no_groups_unfit c.args.column.now.kinds.items c.args.framed.now.body.now.frames c.args.slot c.args.bound

pub first_in_group-first-requires-clause-group : goal.first_in_group-first-requires-clause-group
first_in_group-first-requires-clause-group c =
    subst IsGroup (sym c.deref.ensures.value) (group_at c.args.groups.now c.looking.rows-index c.rows-item.result c.looking-test.true c.rows-item.is c.requires.groups)

pub looking-preserved : goal.looking-preserved
looking-preserved c =
    let column = c.args.column.now.kinds.items in let frames = c.args.framed.now.body.now.frames in
    next_group column frames c.args.slot c.args.groups.now c.looking.rows-index c.args.bound c.looking.first c.first_in_group-first.result c.rows-item.result c.looking-test.true c.rows-item.is
    c.looking.invariant
    (subst (λ (rows : List Handler). IsFirstOrBound (IsUnfitInColumn column frames c.args.slot rows) c.looking.first c.first_in_group-first.result)
    c.deref.ensures.value c.first_in_group-first.ensures)
