-- What the command `run --dumps` makes of a run plan and class files.
use Rattle.std.specs.Prelude.{◌≡◌, ℕ, ◌+◌, Bool, List, [], ◌∷◌, ◌++◌, map, codes, decimal, filter, Option, None, Some}
use Rattle.std.specs.List.{range_with_len}
use Rattle.jc_programs.specs.declared.program.Program.{Program}
use Rattle.jc_programs.specs.declared.run_plan.RunPlan.{RunPlan}
use Rattle.jc_programs.specs.declared.run_plan.ThreadLine.{ThreadLine}
use Rattle.jc_exec.specs.Store.{Store}
use Rattle.jc_exec.specs.Writing.{exec_text, is_hit}
use Rattle.jc_machine_model.specs.CaseText.{case_texts}
use Rattle.jc_paths.specs.Paths.{in_folder}
use Rattle.jc_command_work.specs.declared.status.Fault.TheVariants as fault
use Rattle.jc_command_work.specs.Step.{Word, Write, to_file, to_out}
use Rattle.jc_command_work.specs.Part.{gives}
use Rattle.jc_command_work.specs.Answered.{Answer, refusing}
use Rattle.jc_command_run.specs.HitStore.{set_records}
use Rattle.jc_command_run.specs.RunAnswers.{DecidedBy}
use Rattle.jc_command_run.specs.RunStore.{threads_of, first_without}
use Rattle.jc_dump.specs.Dumps.{AreDumps, AreInOrder}

-- ---- the files of dumps

-- the file of the dump behind so many others, by its number, from 1
abbrev pub dump_path : Word → ℕ → Word
dump_path dir before = in_folder dir (decimal (before + 1) ++ codes ".exec")

-- as many as a run plan has cases at most
abbrev pub dump_paths : Word → List Word
dump_paths dir = map (dump_path dir) (range_with_len 0 256)

-- hits as a file of execution data holds them, as `run` writes them
abbrev pub set_store : Program → List (List Bool) → Store
set_store program hits = record { sessions = []; classes = filter is_hit (set_records hits 0 program.classes) }

-- the dumps are written in their order, each to its file
abbrev pub dump_files : Program → List Word → List (List (List Bool)) → List Write
dump_files program (path ∷ paths) (dump ∷ dumps) = to_file path (exec_text (set_store program dump)) ∷ dump_files program paths dumps
dump_files program _ _ = []

-- ---- the answer

-- what the options are given
pub record Dumping : Type 0 where
  pub plan : Word
  pub exec : Word
  pub dumps : List Word
  pub every : ℕ
  pub workers : ℕ

-- dumps, and the hits that none of them has
pub record Taken : Type 0 where
  pub dumps : List (List (List Bool))
  pub rest : List (List Bool)

-- Together the dumps and the rest are the hits of the run plan's cases. On one worker it is said which of them has a hit.
pub record IsTaken (program : Program) (p : RunPlan) (every workers : ℕ) (taken : Taken) : Type 0 where
  pub dumps : AreDumps program p every taken.dumps taken.rest
  pub in_order : workers ≡ 1 → AreInOrder program p every taken.dumps taken.rest

-- The dumps, the rest and the texts of the cases are written; or the first thread without a method to begin with is named, by its
-- line.
abbrev pub taken_answer : Dumping → Taken → RunPlan → Program → Option ThreadLine → Answer
taken_answer d taken p program None =
    gives (dump_files program d.dumps taken.dumps ++ to_file d.exec (exec_text (set_store program taken.rest)) ∷ to_out (case_texts program 1 p.cases) ∷ [])
taken_answer d taken p program (Some thread) = refusing d.plan (fault.NoEntry thread.line)

-- by these dumps and this rest
abbrev pub IsAnswerBy : Dumping → Taken → RunPlan → Program → Answer → Type 0
IsAnswerBy d taken p program answer = answer ≡ taken_answer d taken p program (first_without program (threads_of p))

-- and where each thread has a method to begin with, they are so
pub record IsDumpedAnswer (taken : Taken) (d : Dumping) (p : RunPlan) (program : Program) (answer : Answer) : Type 0 where
  pub is_taken : first_without program (threads_of p) ≡ None → IsTaken program p d.every d.workers taken
  pub by_taken : IsAnswerBy d taken p program answer

abbrev pub DumpedFiles : Taken → Dumping → (paths : List Word) (plan_text : List ℕ) (files : List (List ℕ)) → Answer → Type 0
DumpedFiles taken d paths plan_text files = DecidedBy (IsDumpedAnswer taken d) d.plan paths plan_text files

-- the run plan is read first, and then the files
abbrev pub DumpedAnswers : Taken → Dumping → (paths : List Word) → List (List ℕ) → Answer → Type 0
DumpedAnswers taken d paths [] answer = ⊥
DumpedAnswers taken d paths (plan_text ∷ files) answer = DumpedFiles taken d paths plan_text files answer

-- ---- by any dumps

-- the same by these dumps and this rest, whatever they are
abbrev pub AnswersBy : Taken → Dumping → (paths : List Word) → List (List ℕ) → Answer → Type 0
AnswersBy taken d paths [] answer = ⊥
AnswersBy taken d paths (plan_text ∷ files) answer = DecidedBy (IsAnswerBy d taken) d.plan paths plan_text files answer
