use Rattle.std.proofs.Common.{List, take}
use Rattle.std.proofs.lemmas.List.{get_or_default}
use Rattle.jc_refs_check.specs.declared.guards.Guard.{Guard}
use Rattle.jc_refs_check.proofs.GuardLaws.{no_guard, guard_at}
use Rattle.jc_refs_check.proofs.RowsLaws.{IsLooking, looking_on, begins_before, rows_on}
use Rattle.jc_refs_check.proofs.guards.Guards.first_in_column.Goals as goal

pub first_in_row-first-requires-clause-reached : goal.first_in_row-first-requires-clause-reached
first_in_row-first-requires-clause-reached c =
    let rows = c.args.self.now.rows.now in let i = c.looking.guard-index in let guard = guard_at rows i in
    c.looking.invariant.looked guard.start (begins_before rows i guard c.requires.starts c.looking-test.true (get_or_default rows i no_guard guard c.looking-test.true))

pub looking-preserved : goal.looking-preserved
looking-preserved c =
    let g = c.args.self.now in let names = g.classes.now.names in let frames = g.body.now.frames in let rows = g.rows.now in
    let column = c.args.column.now.classes.items in let i = c.looking.guard-index in let guard = guard_at rows i in
    let old = c.args.reached.now.items in let next = c.first_in_row-first.result in let new = c.first_in_row-first.new.reached.items in
    rows_on (λ (l : List Guard). IsLooking names column frames c.args.slot c.args.bound l next old new) rows i guard c.looking-test.true
    (get_or_default rows i no_guard guard c.looking-test.true)
    (looking_on names column frames c.args.slot c.args.bound old (take i rows) guard c.looking.first c.looking.reached.items c.looking.invariant next new
    c.first_in_row-first.ensures.first c.first_in_row-first.ensures.reached c.first_in_row-first.ensures.room c.first_in_row-first.ensures.others)
