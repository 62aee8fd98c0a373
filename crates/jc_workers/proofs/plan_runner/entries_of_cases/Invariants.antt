use Rattle.std.proofs.Common.{◌≡◌, take, map}
use Rattle.jc_programs.specs.declared.run_plan.Case.{Case}
use Rattle.jc_machine_model.specs.Begin.{entries_of}
use Rattle.jc_workers.proofs.plan_runner.entries_of_cases.Given as goal

abbrev pub invariant-cases : goal.invariant-cases
invariant-cases l = l.entries.items ≡ map (λ (case : Case). entries_of l.program case.threads) (take l.case-index l.cases)
