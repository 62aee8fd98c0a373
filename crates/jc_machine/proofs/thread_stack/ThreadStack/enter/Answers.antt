use Rattle.std.proofs.Common.{◌≡◌, ◌+◌, ◌<◌, List, ◌∷◌, Option, Some, length, take, reverse, slice_set, arith, ap, sym, ◌∙◌, subst, subst₂}
use Rattle.std.specs.List.{insert}
use Rattle.std.specs.Vec.{with_item}
use Rattle.jc_region.specs.Memory.{allocation_of}
use Rattle.jc_machine_model.specs.World.{Frame}
use Rattle.jc_machine_model.specs.Calls.{taken_for, locals_for}
use Rattle.jc_machine_model.specs.Step.{new_frame}
use Rattle.jc_machine_code.specs.declared.operation.ComputationalType.{ComputationalType}
use Rattle.jc_machine_memory.specs.Frames.{FrameSeen}
use Rattle.jc_machine_turn.specs.Parameters.{AreParameters}
use Rattle.jc_machine.specs.Threads.{ThreadFrames, called}
use Rattle.jc_machine.specs.Stacks.{contents_of, memories_of, frames_of}
use Rattle.jc_machine.proofs.StackLaws.{memory_entered, waiting_entered, waiting_count}
use Rattle.jc_machine.proofs.thread_stack.ThreadStack.enter.Goals as goal

pub returns : goal.returns
returns c = λ types a are is.
    let s = c.self.inside in
    let w = s.waiting in
    let others = s.others.items in
    let below = c.index_mut-frame.result.now in
    let there = c.index_mut-frame.ensures.value in
    let caller = c.enter_callee.new.caller in
    let callee = c.enter_callee.new.frame in
    let method = c.args.callee in
    let max_locals = c.args.method.now.max_locals in
    let less : w < length others =
    omega (arith, c.self.invariant.others, waiting_count s c.self.invariant, ap (λ (f : ThreadFrames). length f.waiting) c.self.view_is, c.requires.room) in
    let parameters = subst (λ (ps : List (Option ComputationalType)). AreParameters types ps) (sym c.as_slice.ensures) are in
    let taken : taken_for types s.top.content.stack ≡ Some a = ap (λ (f : ThreadFrames). taken_for types f.top.stack) c.self.view_is ∙ is in
    let top : callee.content ≡ new_frame method (locals_for max_locals a.values) = c.enter_callee.ensures.callee types a parameters taken in
    let waits : caller.content ≡ record s.top.content { stack = a.rest } = c.enter_callee.ensures.caller types a parameters taken in
    let waiting : reverse (take (w + 1) (contents_of (slice_set others w caller)))
    ≡ record s.top.content { stack = a.rest } ∷ reverse (take w (contents_of others)) =
    waiting_entered others w below less there caller ∙ ap (λ (f : Frame). f ∷ reverse (take w (contents_of others))) waits in
    let cells : insert (memories_of (slice_set others w caller)) (w + 1) callee.memory ≡ insert (memories_of others) w s.top.memory =
    memory_entered others w below less there s.top caller callee c.enter_callee.ensures.memory.0 c.enter_callee.ensures.memory.1 in
    let entered : frames_of (record { top = callee; others = with_item s.others w caller; waiting = w + 1 })
    ≡ called method max_locals a (frames_of s) =
    λ i. record { top = top i; waiting = waiting i; memory = record { others = allocation_of s.others; cells = cells i } } in
    subst₂ (λ (x y : FrameSeen). frames_of (record { top = x; others = with_item s.others w y; waiting = w + 1 }) ≡ called method max_locals a c.args.self.now)
    (sym c.swap.ensures.x_after) (sym c.swap.ensures.y_after) (entered ∙ ap (called method max_locals a) c.self.view_is)
