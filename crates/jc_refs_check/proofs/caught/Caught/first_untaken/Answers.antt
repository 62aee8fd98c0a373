use Rattle.std.proofs.Common.{◌<◌, ◌≤◌, List, length, subst, arith}
use Rattle.jc_methods.specs.declared.body.Handler.{Handler}
use Rattle.jc_kinds.specs.First.{IsFirstOrBound}
use Rattle.jc_kinds.proofs.GuardLaws.{row_at}
use Rattle.jc_refs_check.specs.Unguarded.{IsUntakenBy}
use Rattle.jc_refs_check.proofs.UntakenLaws.{untaken_begins, untaken_on, untaken_done}
use Rattle.jc_refs_check.proofs.caught.Caught.first_untaken.Goals as goal

pub catching-init : goal.catching-init
catching-init c = untaken_begins c.args.classes.now.names c.args.body.now c.args.bound

pub catching-preserved : goal.catching-preserved
catching-preserved c =
    let b = c.args.body.now in let names = c.args.classes.now.names in let i = c.catching.row-index in
    let room : i < length b.handlers = subst (λ (l : List Handler). i < length l) c.as_slice-row-items.ensures (omega arith) in
    untaken_on names b c.args.bound b.handlers i c.catching.first c.first_in_row-first.result room c.catching.invariant
    (subst (λ (l : List Handler). IsFirstOrBound (IsUntakenBy names b (row_at l i)) c.catching.first c.first_in_row-first.result) c.as_slice-row-items.ensures c.first_in_row-first.ensures)

pub returns : goal.returns
returns c =
    let b = c.args.body.now in let i = c.catching.row-index in
    let past : length b.handlers ≤ i = subst (λ (l : List Handler). length l ≤ i) c.as_slice-row-items.ensures (omega arith) in
    untaken_done c.args.classes.now.names b c.args.bound i c.catching.first past c.catching.invariant
