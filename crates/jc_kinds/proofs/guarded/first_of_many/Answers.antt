use Rattle.std.proofs.Common.{rules, ◌≡◌, ℕ, List, length, sym, subst}
use Rattle.std.specs.Global.{Vec}
use Rattle.std.specs.List.{All}
use Rattle.jc_methods.specs.declared.body.Handler.{Handler}
use Rattle.jc_kinds.specs.First.{IsFirstOrBound}
use Rattle.jc_kinds.specs.Guarded.{column_of, IsUnguarded}
use Rattle.jc_kinds.specs.Rows.{IsGroup, IsUnfitInGroups, rows_of}
use Rattle.jc_kinds.proofs.GuardLaws.{no_slots, next_slot}
use Rattle.jc_kinds.proofs.GroupLaws.{all_rows_first}
use Rattle.jc_kinds.proofs.guarded.first_of_many.Goals as goal

pub slots-init : goal.slots-init
slots-init c = no_slots c.args.states.now c.args.framed.now.body.now.frames c.args.handlers.now (length c.args.states.now) c.args.uncaught c.requires.uncaught

pub first_by_runs-requires-clause-groups : goal.first_by_runs-requires-clause-groups
first_by_runs-requires-clause-groups c = subst (λ (l : List (Vec Handler)). All IsGroup (rows_of l)) (sym c.deref.ensures.value) c.in_ok-groups.ensures.each

pub slots-preserved : goal.slots-preserved
slots-preserved c =
    let states = c.args.states.now in let frames = c.args.framed.now.body.now.frames in let rows = c.args.handlers.now in
    let slot = c.slots.slot in let first = c.slots.first in let next = c.in_ok-first.first in let groups = c.in_ok-groups.groups.items in
    next_slot states frames rows slot (length states) first next c.slots.invariant
    (all_rows_first (column_of states slot) frames slot rows (rows_of groups) first next c.in_ok-groups.ensures
    (subst (λ (l : List (Vec Handler)). IsFirstOrBound (IsUnfitInGroups (column_of states slot) frames slot (rows_of l)) first next) c.deref.ensures.value c.in_ok-first.ensures))

pub returns : goal.returns
returns c =
    let states = c.args.states.now in
    let over : c.slots.slot ≡ c.args.slots = search rules in
    subst (λ (slots : ℕ). IsFirstOrBound (IsUnguarded states c.args.framed.now.body.now.frames c.args.handlers.now slots) (length states) c.slots.first) over c.slots.invariant
