use Rattle.jc_machine.proofs.ArgumentLaws.{Putting}
use Rattle.jc_machine.proofs.first_threads.put_arguments.Given as goal

abbrev pub invariant-putting : goal.invariant-putting
invariant-putting l = Putting l.parameters l.numbers l.initial.frames l.k l.slot l.frames
