use Rattle.std.proofs.Common.{◌≡◌, ℕ, length, sym, subst, arith}
use Rattle.std.specs.List.Sorted.{IsNonDecreasingBy}
use Rattle.jc_methods.proofs.MetNamesLaws.{grows_both}
use Rattle.jc_methods.proofs.NumberedLaws.{grown_count, frames_numbered}
use Rattle.jc_kinds.specs.First.{IsFirstOrBound}
use Rattle.jc_kinds.proofs.MissingLaws.{few_insns}
use Rattle.jc_refs_check.specs.declared.guards.Guard.{Guard}
use Rattle.jc_refs_check.specs.Unguarded.{AreGuards}
use Rattle.jc_refs_check.proofs.UnguardedLaws.{IsUnguardedAt, states_later, no_slots, slots_on, kept_later, unguarded_is}
use Rattle.jc_refs_check.proofs.handlers.first_unguarded.Goals as goal

pub first_untaken-first-requires-clause-frames : goal.first_untaken-first-requires-clause-frames
first_untaken-first-requires-clause-frames c =
    let old = c.args.classes.now.names in let new = c.of.new.classes.names in
    frames_numbered (length old) (length new) c.args.body.now.frames (grown_count old new c.in_ok-caught.ensures.names) c.requires.frames

pub slots-init : goal.slots-init
slots-init c =
    let b = c.args.body.now in let states = c.args.states.now in let names = c.of.new.classes.names in
    record {
      first = no_slots names b states c.deref.result.now (length states) c.first_untaken-first.result c.first_untaken-first.ensures;
      reached = c.make_room.ensures.reached;
      room = let l = c.len.ensures in let r = c.in_ok-make_room.ensures.room in omega (arith, l, r);
    }

pub first_in_slot-requires-clause-frames : goal.first_in_slot-requires-clause-frames
first_in_slot-requires-clause-frames c =
    let old = c.args.classes.now.names in let new = c.of.new.classes.names in
    frames_numbered (length old) (length new) c.args.body.now.frames (grown_count old new c.in_ok-caught.ensures.names) c.requires.frames

pub first_in_slot-requires-clause-starts : goal.first_in_slot-requires-clause-starts
first_in_slot-requires-clause-starts c = subst (IsNonDecreasingBy (λ (g : Guard). g.start)) (sym c.deref.ensures.value) c.in_ok-rows.ensures.starts

pub first_in_slot-requires-clause-small : goal.first_in_slot-requires-clause-small
first_in_slot-requires-clause-small c = let few = few_insns c.args.body.now c.requires.made in let s = c.requires.small in omega (arith, few, s)

pub first_in_slot-requires-clause-states : goal.first_in_slot-requires-clause-states
first_in_slot-requires-clause-states c = states_later c.args.classes.now.names c.of.new.classes.names c.args.states.now c.in_ok-caught.ensures.names c.requires.states

pub slots-preserved : goal.slots-preserved
slots-preserved c =
    let b = c.args.body.now in let states = c.args.states.now in let names = c.of.new.classes.names in let rows = c.deref.result.now in
    let slot = c.slots.slot in let first = c.slots.first in let next = c.in_ok-first.first in
    record {
      first = slots_on names b states rows slot (length states) first next c.slots.invariant.first c.in_ok-first.ensures.first;
      reached = c.in_ok-first.ensures.reached;
      room = let o = c.slots.invariant.room in let r = c.in_ok-first.ensures.room in omega (arith, o, r);
    }

pub returns-clause-first : goal.returns-clause-first
returns-clause-first c = λ old grown frames checked kept.
    let b = c.args.body.now in let states = c.args.states.now in let mid = c.args.classes.now.names in let names = c.of.new.classes.names in let rows = c.deref.result.now in
    let more = c.in_ok-caught.ensures.names in
    let over : c.slots.slot ≡ b.max_locals = let f = c.from-slot-end.ensures in omega (arith, f) in
    unguarded_is old names b states rows c.requires.made (subst (AreGuards b) (sym c.deref.ensures.value) c.in_ok-rows.ensures) (grows_both old mid names grown more)
    c.requires.small frames checked (kept_later old mid names b states more kept)
    c.slots.first (subst (λ (slots : ℕ). IsFirstOrBound (IsUnguardedAt names b states rows slots) (length states) c.slots.first) over c.slots.invariant.first)
