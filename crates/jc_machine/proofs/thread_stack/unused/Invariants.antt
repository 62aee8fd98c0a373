use Rattle.std.proofs.Common.{◌≡◌, length}
use Rattle.jc_machine.proofs.thread_stack.unused.Given as goal

abbrev pub invariant-making : goal.invariant-making
invariant-making l = length l.frames.items ≡ l.k
