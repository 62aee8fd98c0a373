use Rattle.std.proofs.Common.{ℕ, ◌<◌}
use Rattle.std.specs.Prelude.{slice_index_or}
use Rattle.jc_programs.specs.declared.run_plan.Case.{Case}
use Rattle.tests_workers.specs.Begin.{Begin}
use Rattle.tests_workers.proofs.work.have_entries.Given as goal

abbrev pub invariant-seeking : goal.invariant-seeking
invariant-seeking l = (k : ℕ) (d : Case) → k < l.case-index → Begin l.program (slice_index_or l.plan.cases k d).threads
