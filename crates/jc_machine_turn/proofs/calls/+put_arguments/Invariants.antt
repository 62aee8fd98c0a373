use Rattle.jc_machine_turn.proofs.calls.+put_arguments.Given as goal

abbrev pub decreases-put_arguments : goal.decreases-put_arguments
decreases-put_arguments l = l.count
