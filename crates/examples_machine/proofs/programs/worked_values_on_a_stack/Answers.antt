use Rattle.examples_machine.proofs.ProbedExampleLaws.{wide_is_program, wide_stack}
use Rattle.examples_machine.proofs.programs.worked_values_on_a_stack.Goals as goal

pub returns-clause-wide : goal.returns-clause-wide
returns-clause-wide c = wide_is_program

pub returns-clause-values : goal.returns-clause-values
returns-clause-values c = wide_stack
