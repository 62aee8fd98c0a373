use Rattle.examples_machine.proofs.FitExampleLaws.{abs_is_program, inc_is_program, inc_runs}
use Rattle.examples_machine.proofs.programs.worked_programs.Goals as goal

pub returns-clause-abs : goal.returns-clause-abs
returns-clause-abs c = abs_is_program

pub returns-clause-inc : goal.returns-clause-inc
returns-clause-inc c = inc_is_program

pub returns-clause-runs : goal.returns-clause-runs
returns-clause-runs c = inc_runs
