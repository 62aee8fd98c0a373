use Rattle.jc_machine_laws.proofs.LockedTurnLaws.{raising_fits, dropping_fits, calling_fits}
use Rattle.jc_machine_laws.proofs.laws.turns_of_monitors_keep_a_world_fitting.Goals as goal

pub returns-clause-raise : goal.returns-clause-raise
returns-clause-raise c program w t thrown p fits = raising_fits program p w t fits thrown

pub returns-clause-drop : goal.returns-clause-drop
returns-clause-drop c program w t insn p fits at = dropping_fits program p w t fits insn at

pub returns-clause-call : goal.returns-clause-call
returns-clause-call c program w t method p fits at = calling_fits program p w t fits method at
