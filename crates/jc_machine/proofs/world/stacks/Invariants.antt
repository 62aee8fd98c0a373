use Rattle.std.proofs.Common.{◌≡◌, length}
use Rattle.jc_machine.proofs.world.stacks.Given as goal

abbrev pub invariant-making : goal.invariant-making
invariant-making l = length l.stacks.items ≡ l.k
