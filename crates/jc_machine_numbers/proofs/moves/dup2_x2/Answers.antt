use Rattle.jc_machine_numbers.proofs.moves.dup2_x2.Goals as goal

pub returns-in-Two : goal.returns-in-Two
returns-in-Two c = λ stack. rw c.in-Two.is (c.dup2_x2_of_two.ensures c.args.d stack)
