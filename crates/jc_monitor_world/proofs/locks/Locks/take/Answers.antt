use Rattle.std.proofs.Common.{◌+◌, length-set, refl, ◌∙◌, arith}
use Rattle.jc_monitor_world.specs.Seen.{lock_of}
use Rattle.jc_monitor_world.proofs.KeptLockLaws.{few_times_there, taken_there, room_there, joined_there}
use Rattle.jc_monitor_world.proofs.locks.Locks.take.Goals as goal

pub overflow_add-index_mut : goal.overflow_add-index_mut
overflow_add-index_mut c =
    let less = few_times_there c.self.inside c.self.invariant c.args.self.now c.self.view_is (lock_of c.args.lock) c.in-Some.place c.in-Some.ensures
    c.args.thread c.index_mut.result.now c.index_mut.ensures.value c.requires in
    omega (arith, less)

pub returns-in-Some-clause-held : goal.returns-in-Some-clause-held
returns-in-Some-clause-held c =
    taken_there c.self.inside c.self.invariant c.args.self.now c.self.view_is (lock_of c.args.lock) c.in-Some.place c.in-Some.ensures
    c.args.thread c.index_mut.result.now c.index_mut.ensures.value (c.index_mut.result.now.count + 1) c.requires refl

pub index_mut-requires-2 : goal.index_mut-requires-2
index_mut-requires-2 c =
    let room = room_there c.self.inside c.self.invariant c.args.self.now c.self.view_is (lock_of c.args.lock) c.args.thread c.in_default.ensures c.requires in
    omega (arith, room, c.self.invariant.slots)

pub invariant_of-self-2 : goal.invariant_of-self-2
invariant_of-self-2 c =
    let l = c.self.inside in
    let room = room_there l c.self.invariant c.args.self.now c.self.view_is (lock_of c.args.lock) c.args.thread c.in_default.ensures c.requires in
    record {
      slots = length-set l.slots.items l.count (record { lock = c.args.lock; thread = c.args.thread; count = 1 }) ∙ c.self.invariant.slots;
      within = omega (arith, room);
    }

pub returns-clause-held : goal.returns-clause-held
returns-clause-held c =
    let room = room_there c.self.inside c.self.invariant c.args.self.now c.self.view_is (lock_of c.args.lock) c.args.thread c.in_default.ensures c.requires in
    joined_there c.self.inside c.self.invariant c.args.self.now c.self.view_is (lock_of c.args.lock) c.args.thread c.in_default.ensures
    (record { lock = c.args.lock; thread = c.args.thread; count = 1 }) room refl
