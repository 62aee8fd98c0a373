-- Each dump has as many probes of each class as the program.
use Rattle.std.proofs.Common.{◌≡◌, ℕ, [], List, Bool, All, subst}
use Rattle.std.proofs.lemmas.List.{get_or_default}
use Rattle.jc_programs.specs.declared.program.Program.{Program}
use Rattle.jc_programs.specs.declared.run_plan.RunPlan.{RunPlan}
use Rattle.jc_programs.specs.Probes.{counts_of}
use Rattle.jc_machine.specs.Hits.{probe_counts}
use Rattle.jc_dump.specs.Dumps.{AreDumps}

pub each_dump_has_the_counts : (program : Program) (plan : RunPlan) (every : ℕ) (dumps : List (List (List Bool))) (rest : List (List Bool))
    → AreDumps program plan every dumps rest → All (λ dump. counts_of dump ≡ probe_counts program) dumps
each_dump_has_the_counts program plan every dumps rest are = λ k dump within.
    subst (λ d. counts_of d ≡ probe_counts program) (get_or_default dumps k [] dump within) (are.dump_counts k within)
