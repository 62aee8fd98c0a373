use Rattle.std.proofs.Common.{subst}
use Rattle.jc_methods.specs.declared.kind.Kind.{Kind}
use Rattle.jc_kinds.specs.First.{IsFirstOrBound}
use Rattle.jc_kinds.specs.Guarded.{column_of, IsUnfitInRow}
use Rattle.jc_kinds.proofs.GuardLaws.{row_at, next_unfit, no_rows_unfit}
use Rattle.jc_kinds.proofs.guarded.first_by_rows.Goals as goal

pub looking-init : goal.looking-init
looking-init c = no_rows_unfit (column_of c.args.states.now c.args.slot) c.args.framed.now.body.now.frames c.args.slot c.args.bound

pub looking-preserved : goal.looking-preserved
looking-preserved c =
    let column = column_of c.args.states.now c.args.slot in
    next_unfit column c.args.framed.now.body.now.frames c.args.slot c.args.handlers.now c.looking.handler-index c.args.bound c.looking.first
    c.first_by_row-first.result c.looking-test.true c.looking.invariant
    (subst (λ (want : Kind). IsFirstOrBound (IsUnfitInRow column (row_at c.args.handlers.now c.looking.handler-index) want) c.looking.first c.first_by_row-first.result)
    c.wanted_at-want.ensures c.first_by_row-first.ensures)
