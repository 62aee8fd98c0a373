use Rattle.std.proofs.Common.{◌≡◌, ◌+◌, ◌-◌, ◌<◌, List, ◌∷◌, length, take, reverse, slice_set, arith, ap, sym, ◌∙◌, subst₂}
use Rattle.std.specs.List.{insert}
use Rattle.std.specs.Vec.{with_item}
use Rattle.jc_region.specs.Memory.{Allocation, allocation_of}
use Rattle.jc_machine_memory.specs.Frames.{FrameSeen}
use Rattle.jc_machine.specs.Threads.{ThreadFrames}
use Rattle.jc_machine.specs.Stacks.{contents_of, memories_of, memory_of}
use Rattle.jc_machine.proofs.StackLaws.{memory_left, waiting_left}
use Rattle.jc_machine.proofs.thread_stack.ThreadStack.leave.Goals as goal

pub returns-clause-left : goal.returns-clause-left
returns-clause-left c =
    let s = c.self.inside in
    let k = s.waiting - 1 in
    let others = s.others.items in
    let below = c.index_mut.result.now in
    let one : k + 1 ≡ s.waiting = omega (arith, c.if-self-eq0.false) in
    let less : k < length others = omega (arith, one, c.self.invariant.others, c.self.invariant.within) in
    subst₂ (λ (x y : FrameSeen). c.args.self.now.waiting ≡ x.content ∷ reverse (take k (contents_of (slice_set others k y))))
    (sym c.swap.ensures.x_after) (sym c.swap.ensures.y_after)
    (sym (ap (λ (f : ThreadFrames). f.waiting) c.self.view_is)
    ∙ (ap (λ n. reverse (take n (contents_of others))) (sym one) ∙ waiting_left others k below less c.index_mut.ensures.value s.top))

pub returns-clause-memory : goal.returns-clause-memory
returns-clause-memory c =
    let s = c.self.inside in
    let k = s.waiting - 1 in
    let others = s.others.items in
    let below = c.index_mut.result.now in
    let one : k + 1 ≡ s.waiting = omega (arith, c.if-self-eq0.false) in
    let less : k < length others = omega (arith, one, c.self.invariant.others, c.self.invariant.within) in
    let cells : insert (memories_of (slice_set others k s.top)) k below.memory ≡ insert (memories_of others) s.waiting s.top.memory =
    memory_left others k below less c.index_mut.ensures.value s.top ∙ ap (λ n. insert (memories_of others) n s.top.memory) one in
    subst₂ (λ (x y : FrameSeen). memory_of (record { top = x; others = with_item s.others k y; waiting = k }) ≡ c.args.self.now.memory)
    (sym c.swap.ensures.x_after) (sym c.swap.ensures.y_after)
    (ap (λ (cs : List Allocation). record { others = allocation_of s.others; cells = cs }) cells ∙ ap (λ (f : ThreadFrames). f.memory) c.self.view_is)
