use Rattle.std.proofs.Common.{◌≡◌, ◌+◌, ◌-◌, ◌<◌, ◌++◌, length, take, drop, refl, arith, ◌∙◌, ap, sym, subst}
use Rattle.std.proofs.lemmas.List.{with_items_is, get_or_default}
use Rattle.std.specs.Vec.{with_items}
use Rattle.jc_monitor_world.specs.declared.lock.HeldLock.{HeldLock}
use Rattle.jc_monitor_world.specs.Seen.{lock_of}
use Rattle.jc_monitor_world.proofs.KeptLockLaws.{within, less_there, last_there, not_given}
use Rattle.jc_monitor_world.proofs.locks.Locks.give.Goals as goal

pub returns-in_default-clause-held : goal.returns-in_default-clause-held
returns-in_default-clause-held c =
    absurd (not_given c.self.inside c.self.invariant c.args.self.now c.self.view_is (lock_of c.args.lock) c.args.thread c.in_default.ensures c.requires)

pub returns-then-index-gt1-clause-held : goal.returns-then-index-gt1-clause-held
returns-then-index-gt1-clause-held c =
    let l = c.self.inside in
    let less = within l c.self.invariant c.args.self.now c.self.view_is (lock_of c.args.lock) c.in-Some.place c.in-Some.ensures in
    let there : c.in-Some.place < length l.slots.items = omega (arith, less, c.self.invariant.slots, c.self.invariant.within) in
    let same : c.index.result.now ≡ c.index_mut.result.now =
    c.index.ensures ∙ (get_or_default l.slots.items c.in-Some.place c.index.result.now c.index_mut.result.now there ∙ sym c.index_mut.ensures.value) in
    less_there l c.self.invariant c.args.self.now c.self.view_is (lock_of c.args.lock) c.in-Some.place c.in-Some.ensures
    c.args.thread c.index_mut.result.now c.index_mut.ensures.value (c.index_mut.result.now.count - 1) c.requires
    (subst (λ (h : HeldLock). 1 < h.count) same c.if-index-gt1.true) refl

pub returns-else-index-gt1-clause-held : goal.returns-else-index-gt1-clause-held
returns-else-index-gt1-clause-held c =
    let l = c.self.inside in
    let i = c.in-Some.place in
    last_there l c.self.invariant c.args.self.now c.self.view_is (lock_of c.args.lock) i c.in-Some.ensures
    c.args.thread c.index.result.now c.index.ensures (take (l.count - 1) (with_items l.slots c.take_out.new.slots).items) c.requires c.if-index-gt1.false
    (ap (take (l.count - 1)) (with_items_is l.slots c.take_out.new.slots (c.take_out.auto.slots ∙ c.deref_mut.ensures.len))
    ∙ (c.take_out.ensures ∙ ap (λ xs. take i (take l.count xs) ++ drop (i + 1) (take l.count xs)) c.deref_mut.ensures.value))
