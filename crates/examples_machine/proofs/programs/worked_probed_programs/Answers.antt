use Rattle.examples_machine.proofs.ProbedExampleLaws.{probed_is_program, probed_runs}
use Rattle.examples_machine.proofs.programs.worked_probed_programs.Goals as goal

pub returns-clause-probed : goal.returns-clause-probed
returns-clause-probed c = probed_is_program

pub returns-clause-runs : goal.returns-clause-runs
returns-clause-runs c = probed_runs
