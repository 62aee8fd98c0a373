use Rattle.std.proofs.Common.{◌≡◌, take, position, rules, ◌∙◌, ap, sym}
use Rattle.jc_monitor_model.specs.Locks.{is_of_lock}
use Rattle.jc_monitor_world.specs.Seen.{lock_of, held_of}
use Rattle.jc_monitor_world.specs.Kept.{LocksSeen}
use Rattle.jc_monitor_world.proofs.SlotLaws.{position-map}
use Rattle.jc_monitor_world.proofs.locks.Locks.place.Goals as goal

pub returns : goal.returns
returns c =
    let l = c.self.inside in
    let p = is_of_lock (lock_of c.args.lock) in
    let found : c.place_in.result ≡ position (λ held. p (held_of held)) (take l.count c.deref.result.now) = search (c.place_in.ensures, rules) in
    found
    ∙ (ap (λ xs. position (λ held. p (held_of held)) (take l.count xs)) c.deref.ensures.value
    ∙ (sym (position-map held_of p (take l.count l.slots.items)) ∙ ap (λ (v : LocksSeen). position p v.held) c.self.view_is))
