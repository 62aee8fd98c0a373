-- The run plan of the sample.
use Rattle.std.specs.Prelude.{ℕ, ◌+◌, ◌*◌, pos, min, [], ◌∷◌, map}
use Rattle.std.specs.List.{range_with_len}
use Rattle.jc_programs.specs.declared.run_plan.RunPlan.{RunPlan}
use Rattle.jc_programs.specs.declared.run_plan.Case.{Case}
use Rattle.jc_programs.specs.declared.run_plan.ThreadLine.{ThreadLine}
use Rattle.jc_programs.specs.declared.run_plan.Schedule.TheVariants as schedules
use Rattle.jc_command_sample.specs.SampleFile.{sample_class, method_name}

-- The thread of the case with this number, from 0: it runs the method of this number, whose argument is the number of methods.
-- A case takes three lines of a run plan, and its thread is the second of them.
abbrev pub sample_thread : (methods number : ℕ) → ThreadLine
sample_thread n k = record { class = sample_class; method = method_name k; args = pos n ∷ []; line = 3 * k + 2 }

-- one thread, and 64 turns of it
abbrev pub sample_case : (methods number : ℕ) → Case
sample_case n k = record { threads = sample_thread n k ∷ []; schedule = schedules.Robin 64 }

-- how many cases there are: one for each method, and as many as a run plan may have
abbrev pub case_count : (methods : ℕ) → ℕ
case_count n = min n 256

unfoldable pub sample_plan : (methods : ℕ) → RunPlan
sample_plan n = record { cases = map (sample_case n) (range_with_len 0 (case_count n)) }
