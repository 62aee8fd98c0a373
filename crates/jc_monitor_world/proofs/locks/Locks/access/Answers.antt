use Rattle.std.proofs.Common.{cond, ◌∙◌, ap, sym}
use Rattle.std.proofs.lemmas.Bool.{eq-eqb, ne_eqb}
use Rattle.jc_monitor_model.specs.Locks.{its_own, another's}
use Rattle.jc_monitor_world.specs.Seen.{lock_of}
use Rattle.jc_monitor_world.proofs.LockLaws.{free_is}
use Rattle.jc_monitor_world.proofs.KeptLockLaws.{access_there}
use Rattle.jc_monitor_world.proofs.locks.Locks.access.Goals as goal

pub returns-in_default : goal.returns-in_default
returns-in_default c =
    sym (free_is c.args.thread (lock_of c.args.lock) c.args.self.now.held (sym c.in_default.ensures))

pub returns-then-held-thread : goal.returns-then-held-thread
returns-then-held-thread c =
    let x = c.index-held.result.now in
    let there = access_there c.self.inside c.self.invariant c.args.self.now c.self.view_is (lock_of c.args.lock) c.in-Some.place c.in-Some.ensures
    c.args.thread x c.index-held.ensures in
    sym (there ∙ ap (λ z. cond z (its_own x.count) another's) (eq-eqb x.thread c.args.thread c.if-held-thread.true))

pub returns-else-held-thread : goal.returns-else-held-thread
returns-else-held-thread c =
    let x = c.index-held.result.now in
    let there = access_there c.self.inside c.self.invariant c.args.self.now c.self.view_is (lock_of c.args.lock) c.in-Some.place c.in-Some.ensures
    c.args.thread x c.index-held.ensures in
    sym (there ∙ ap (λ z. cond z (its_own x.count) another's) (ne_eqb x.thread c.args.thread c.if-held-thread.false))
