use Rattle.std.proofs.Common.{◌≡◌, length}
use Rattle.jc_machine.proofs.thread_stack.ThreadStack.leave_all.Given as goal

abbrev pub invariant-leaving : goal.invariant-leaving
invariant-leaving l = l.self.memory ≡ l.initial.self.memory

abbrev pub decreases-leaving : goal.decreases-leaving
decreases-leaving l = length l.self.waiting
