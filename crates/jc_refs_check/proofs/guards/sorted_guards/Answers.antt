use Rattle.std.proofs.Common.{rules, ◌<◌, ◌≤◌, List, length, subst, arith}
use Rattle.std.proofs.lemmas.List.{get_or_default}
use Rattle.std.proofs.lemmas.List.Sorted.{IsNonDecreasingBy-from_sort_by_key}
use Rattle.jc_methods.specs.declared.body.Handler.{Handler}
use Rattle.jc_kinds.proofs.GuardLaws.{no_row, row_at}
use Rattle.jc_refs_check.specs.declared.guards.Guard.{Guard}
use Rattle.jc_refs_check.specs.Unguarded.{IsGuardOf}
use Rattle.jc_refs_check.proofs.MemberTypeLaws.{next_says, all_say}
use Rattle.jc_refs_check.proofs.GuardLaws.{guards_made}
use Rattle.jc_refs_check.proofs.guards.sorted_guards.Goals as goal

pub taking-preserved : goal.taking-preserved
taking-preserved c =
    let b = c.args.body.now in let i = c.taking.row-index in let rows = c.as_slice-row-items.result.now in
    let room : i < length b.handlers = subst (λ (l : List Handler). i < length l) c.as_slice-row-items.ensures (omega arith) in
    next_says (IsGuardOf b) (IsGuardOf b) (λ h g is. is) b.handlers i (row_at b.handlers i) c.taking.guards.items c.push.new.self.items c.guard_of.result
    room (get_or_default b.handlers i no_row (row_at b.handlers i) room) c.taking.invariant
    (subst (λ (l : List Handler). IsGuardOf b (row_at l i) c.guard_of.result) c.as_slice-row-items.ensures c.guard_of.ensures) c.in_ok-push.ensures.items

pub returns : goal.returns
returns c =
    let b = c.args.body.now in let i = c.taking.row-index in let guards = c.taking.guards.items in
    let past : length b.handlers ≤ i = subst (λ (l : List Handler). length l ≤ i) c.as_slice-row-items.ensures (omega arith) in
    guards_made b guards c.sort_unstable_by_key.new.self.items (all_say (IsGuardOf b) b.handlers i guards past c.taking.invariant) c.sort_unstable_by_key.ensures.permutation
    (IsNonDecreasingBy-from_sort_by_key (λ (g : Guard). g.start) c.sort_unstable_by_key.new.self.items c.sort_unstable_by_key.ensures.sorted (λ a r q k. search rules))
