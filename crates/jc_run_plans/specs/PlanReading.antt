-- Reading a run plan, line by line.
use Rattle.std.specs.Prelude.{◌≡◌, ⊤, ℕ, ◌+◌, ◌≤◌, List, [], ◌∷◌, ◌++◌, length, Option, Some, None, Result, Ok, Err, nat_le, nat_lt, if◌then◌else◌}
use Rattle.jc_bytes.specs.declared.fail.Fail.{Fail}
use Rattle.jc_bytes.specs.declared.fail.Fail.TheVariants as fails
use Rattle.jc_bytes.specs.declared.fail.Unfit.{Unfit}
use Rattle.jc_programs.specs.declared.run_plan.ThreadLine.{ThreadLine}
use Rattle.jc_programs.specs.declared.run_plan.Schedule.{Schedule}
use Rattle.jc_programs.specs.declared.run_plan.Case.{Case}
use Rattle.jc_programs.specs.declared.run_plan.RunPlan.{RunPlan}
use Rattle.jc_run_plans.specs.declared.plan_refusal.PlanRefusal.{PlanRefusal}
use Rattle.jc_run_plans.specs.declared.begun.Begun.{Begun}
use Rattle.jc_run_plans.specs.PlanWords.{Line, is_skipped, words_of, lines_of}
use Rattle.jc_run_plans.specs.Plans.{is_case_text, thread_in, schedule_in}

-- what was read is what words say, or they say nothing; memory may run out at any time
abbrev pub Gives : {X : Type 0} → Result X (Fail Unfit) → Option X → Type 0
Gives (Ok x) said = said ≡ Some x
Gives (Err fails.Memory) said = ⊤
Gives (Err (fails.Said why)) said = said ≡ None

-- ---- a line

-- a begun case has at most 8 threads
abbrev pub AreFew : Option (List ThreadLine) → Type 0
AreFew None = ⊤
AreFew (Some threads) = length threads ≤ 8

abbrev pub with_case : List Case → Option Begun
with_case cases = if nat_lt (length cases) 256 then Some (record { cases = cases; threads = Some [] }) else None

abbrev pub with_thread : List Case → List ThreadLine → ThreadLine → Option Begun
with_thread cases threads thread = if nat_lt (length threads) 8 then Some (record { cases = cases; threads = Some (threads ++ thread ∷ []) }) else None

abbrev pub with_schedule : List Case → List ThreadLine → Option Schedule → Option Begun
with_schedule cases threads None = None
with_schedule cases threads (Some schedule) =
    if nat_le 1 (length threads) then Some (record { cases = cases ++ record { threads = threads; schedule = schedule } ∷ []; threads = None }) else None

abbrev pub in_case : List Case → List ThreadLine → Line → Option ThreadLine → Option Begun
in_case cases threads line (Some thread) = with_thread cases threads thread
in_case cases threads line None = with_schedule cases threads (schedule_in (length threads) line)

-- behind whole cases
abbrev pub opening : List Case → List (List ℕ) → Option Begun
opening cases words = if is_case_text words then with_case cases else None

abbrev pub with_line_in : List Case → Line → Option (List ThreadLine) → Option Begun
with_line_in cases line None = opening cases line.words
with_line_in cases line (Some threads) = in_case cases threads line (thread_in line)

-- what is begun with the line, if it fits
unfoldable pub with_line : Begun → Line → Option Begun
with_line b line = with_line_in b.cases line b.threads

-- what is begun with the line of these words, if it fits or is skipped
abbrev pub with_words : Begun → ℕ → List (List ℕ) → Option Begun
with_words b number words = if is_skipped words then Some b else with_line b (record { number = number; words = words })

-- ---- a text

-- what reading a run plan gives: the run plan, or the number of the first line that doesn't fit
pub data PlanRead : Type 0 where
  plan_is : RunPlan → PlanRead
  unfit_at : ℕ → PlanRead

-- behind the last line, by the number of the line that would follow
abbrev pub ended_in : ℕ → List Case → Option (List ThreadLine) → PlanRead
ended_in number cases (Some threads) = unfit_at number
ended_in number cases None = if nat_le 1 (length cases) then plan_is (record { cases = cases }) else unfit_at number

abbrev pub ended : ℕ → Begun → PlanRead
ended number b = ended_in number b.cases b.threads

abbrev pub read_on : (Begun → PlanRead) → ℕ → Option Begun → PlanRead
read_on more number None = unfit_at number
read_on more number (Some b) = more b

-- what comes of the lines that are left, of which the first has this number
abbrev pub read_from : Begun → ℕ → List (List ℕ) → PlanRead
read_from b number [] = ended number b
read_from b number (line ∷ lines) = read_on (λ c. read_from c (number + 1) lines) number (with_words b number (words_of line))

abbrev pub nothing_read : Begun
nothing_read = record { cases = []; threads = None }

abbrev pub plan_read : List ℕ → PlanRead
plan_read text = read_from nothing_read 1 (lines_of text)

-- the answer is what is read, unless memory ran out
abbrev pub IsRead : Result RunPlan (Fail PlanRefusal) → PlanRead → Type 0
IsRead (Ok plan) read = read ≡ plan_is plan
IsRead (Err fails.Memory) read = ⊤
IsRead (Err (fails.Said refusal)) read = read ≡ unfit_at refusal.line
