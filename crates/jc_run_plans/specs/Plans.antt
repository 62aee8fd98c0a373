-- Run plans as text: which lines are a run plan, and which line is the first that doesn't fit.
use Rattle.std.specs.Prelude.{◌≡◌, ◌⊎◌, ℕ, ℤ, ◌+◌, ◌≤◌, Bool, true, false, ◌==◌, ◌&&◌, List}
use Rattle.std.specs.Prelude.{[], ◌∷◌, ◌++◌, length, map, Option, Some, None, nat_le, nat_lt, codes, bytes_eq, if◌then◌else◌}
use Rattle.std.specs.List.{flat_map, before_last, after_last}
use Rattle.jc_programs.specs.declared.run_plan.ThreadLine.{ThreadLine}
use Rattle.jc_programs.specs.declared.run_plan.Schedule.{Schedule}
use Rattle.jc_programs.specs.declared.run_plan.Schedule.TheVariants as schedules
use Rattle.jc_programs.specs.declared.run_plan.Case.{Case}
use Rattle.jc_programs.specs.declared.run_plan.RunPlan.{RunPlan}
use Rattle.jc_run_plans.specs.PlanWords.{Line, is_some_text, lines_of, numbered_lines, decimal_in, decimal_up_to, signed_in}

-- ---- what a line says

-- no further word
abbrev pub no_words : List (List ℕ) → Bool
no_words [] = true
no_words (word ∷ words) = false

-- the one word `case`
abbrev pub is_case_text : List (List ℕ) → Bool
is_case_text [] = false
is_case_text (word ∷ words) = bytes_eq word (codes "case") && no_words words

abbrev pub is_case : Line → Bool
is_case line = is_case_text line.words

-- what is read of each word, if something is
abbrev pub with_item : {X : Type 0} → Option X → Option (List X) → Option (List X)
with_item (Some x) (Some items) = Some (x ∷ items)
with_item _ _ = None

abbrev pub each_of : {X : Type 0} → (List ℕ → Option X) → List (List ℕ) → Option (List X)
each_of read [] = Some []
each_of read (word ∷ words) = with_item (read word) (each_of read words)

-- numbers of 64 bits with a sign
abbrev pub numbers_in : List (List ℕ) → Option (List ℤ)
numbers_in words = each_of signed_in words

-- a class and a method
pub record Named : Type 0 where
  pub class : List ℕ
  pub method : List ℕ

abbrev pub is_dot : ℕ → Bool
is_dot b = b == 46

-- the text with `/` for each dot
abbrev pub with_slashes : List ℕ → List ℕ
with_slashes text = map (λ b. if is_dot b then 47 else b) text

abbrev pub named_by : List ℕ → List ℕ → Option Named
named_by class method = if is_some_text class && is_some_text method then Some (record { class = with_slashes class; method = method }) else None

-- Dots and `/` part the class name, and the method stands behind the last dot. There is a dot, and neither is empty.
unfoldable pub named_in : List ℕ → Option Named
named_in name = named_by (before_last is_dot name) (after_last is_dot name)

abbrev pub thread_with : ℕ → Option Named → Option (List ℤ) → Option ThreadLine
thread_with number (Some named) (Some args) = Some (record { class = named.class; method = named.method; args = args; line = number })
thread_with number _ _ = None

-- the words behind `thread`: `Class.method number..`
abbrev pub thread_of : ℕ → List (List ℕ) → Option ThreadLine
thread_of number [] = None
thread_of number (name ∷ numbers) = thread_with number (named_in name) (numbers_in numbers)

abbrev pub thread_by : ℕ → List (List ℕ) → Option ThreadLine
thread_by number [] = None
thread_by number (word ∷ words) = if bytes_eq word (codes "thread") then thread_of number words else None

abbrev pub thread_in : Line → Option ThreadLine
thread_in line = thread_by line.number line.words

-- the number of one of so many threads
abbrev pub one_of : ℕ → Option ℕ → Option ℕ
one_of threads None = None
one_of threads (Some t) = if nat_lt t threads then Some t else None

abbrev pub thread_number : ℕ → List ℕ → Option ℕ
thread_number threads word = one_of threads (decimal_in word)

abbrev pub turns_in : ℕ → List (List ℕ) → Option (List ℕ)
turns_in threads words = each_of (thread_number threads) words

-- at most 1,000,000 turns
abbrev pub most_turns : ℕ
most_turns = 1000000

abbrev pub few_turns : Option (List ℕ) → Option (List ℕ)
few_turns None = None
few_turns (Some turns) = if nat_le (length turns) most_turns then Some turns else None

abbrev pub listed_in : Option (List ℕ) → Option Schedule
listed_in None = None
listed_in (Some turns) = Some (schedules.Listed turns)

abbrev pub robin_with : Option ℕ → Option Schedule
robin_with None = None
robin_with (Some turns) = Some (schedules.Robin turns)

abbrev pub robin_in : List (List ℕ) → Option Schedule
robin_in (n ∷ []) = robin_with (decimal_up_to most_turns n)
robin_in words = None

abbrev pub seeded : Option ℕ → Option ℕ → Option Schedule
seeded (Some seed) (Some turns) = Some (schedules.Seeded seed turns)
seeded _ _ = None

abbrev pub seed_in : List (List ℕ) → Option Schedule
seed_in (s ∷ n ∷ []) = seeded (decimal_up_to 18446744073709551615 s) (decimal_up_to most_turns n)
seed_in words = None

abbrev pub schedule_by : ℕ → List ℕ → List (List ℕ) → Option Schedule
schedule_by threads how words =
    if bytes_eq how (codes "list") then listed_in (few_turns (turns_in threads words))
    else if bytes_eq how (codes "robin") then robin_in words
    else if bytes_eq how (codes "seed") then seed_in words
    else None

-- the words behind `schedule`: `list t t ..`, `robin n` or `seed s n`, for so many threads
abbrev pub schedule_of : ℕ → List (List ℕ) → Option Schedule
schedule_of threads [] = None
schedule_of threads (how ∷ words) = schedule_by threads how words

abbrev pub schedule_text : ℕ → List (List ℕ) → Option Schedule
schedule_text threads [] = None
schedule_text threads (word ∷ words) = if bytes_eq word (codes "schedule") then schedule_of threads words else None

abbrev pub schedule_in : ℕ → Line → Option Schedule
schedule_in threads line = schedule_text threads line.words

-- ---- which lines are a run plan

abbrev pub AreThreadLines : List Line → List ThreadLine → Type 0
AreThreadLines [] [] = Unit {0}
AreThreadLines (line ∷ lines) (thread ∷ threads) = (thread_in line ≡ Some thread) × AreThreadLines lines threads
AreThreadLines _ _ = ⊥

-- the line `case`, then 1 to 8 lines of threads, then a line of a schedule
pub record IsCaseText (lines : List Line) (case : Case) : Type 0 where
  pub opens : Line
  pub threads : List Line
  pub closes : Line
  pub parts : lines ≡ opens ∷ (threads ++ closes ∷ [])
  pub opens_is : is_case opens ≡ true
  pub some : 1 ≤ length threads
  pub few : length threads ≤ 8
  pub threads_are : AreThreadLines threads case.threads
  pub closes_is : schedule_in (length threads) closes ≡ Some case.schedule

abbrev pub AreCaseTexts : List (List Line) → List Case → Type 0
AreCaseTexts [] [] = Unit {0}
AreCaseTexts (lines ∷ more) (case ∷ cases) = IsCaseText lines case × AreCaseTexts more cases
AreCaseTexts _ _ = ⊥

-- 1 to 256 cases
pub record ArePlanLines (lines : List Line) (plan : RunPlan) : Type 0 where
  pub parts : List (List Line)
  pub whole : lines ≡ flat_map (λ part. part) parts
  pub some : 1 ≤ length parts
  pub few : length parts ≤ 256
  pub cases : AreCaseTexts parts plan.cases

-- the text is that of the run plan
abbrev pub IsPlanText : List ℕ → RunPlan → Type 0
IsPlanText text plan = ArePlanLines (numbered_lines text) plan

-- ---- which line is the first that doesn't fit

-- some run plan's lines begin with these
abbrev pub BeginAPlan : List Line → Type 0
BeginAPlan lines = (more : List Line) × (plan : RunPlan) × ArePlanLines (lines ++ more) plan

-- the lines before it begin a run plan, and with it they don't
pub record IsUnfitLine (lines : List Line) (number : ℕ) : Type 0 where
  pub before : List Line
  pub line : Line
  pub behind : List Line
  pub parts : lines ≡ before ++ line ∷ behind
  pub number_is : line.number ≡ number
  pub begun : BeginAPlan before
  pub unfit : BeginAPlan (before ++ line ∷ []) → ⊥

-- all lines begin a run plan and aren't one: the number is that of the lines, and one more
pub record EndsEarly (text : List ℕ) (number : ℕ) : Type 0 where
  pub begun : BeginAPlan (numbered_lines text)
  pub no_plan : (plan : RunPlan) → IsPlanText text plan → ⊥
  pub number_is : number ≡ length (lines_of text) + 1

-- the number of the first line that doesn't fit
abbrev pub FirstUnfit : List ℕ → ℕ → Type 0
FirstUnfit text number = IsUnfitLine (numbered_lines text) number ⊎ EndsEarly text number
