-- What the command `run` makes of a run plan and class files.
use Rattle.std.specs.Prelude.{◌≡◌, ◌⊎◌, ℕ, List, [], ◌∷◌, Option, Some, None, slice_index_or}
use Rattle.jc_programs.specs.declared.program.Program.{Program}
use Rattle.jc_programs.specs.declared.run_plan.RunPlan.{RunPlan}
use Rattle.jc_programs.specs.declared.run_plan.ThreadLine.{ThreadLine}
use Rattle.jc_exec.specs.Store.{Store}
use Rattle.jc_exec.specs.Writing.{exec_text}
use Rattle.jc_run_plans.specs.Plans.{IsPlanText, FirstUnfit}
use Rattle.jc_link_programs.specs.declared.link_refusal.LinkRefusal.{LinkRefusal}
use Rattle.jc_link_programs.specs.declared.link_refusal.LinkRefusal.TheVariants as refusals
use Rattle.jc_link_programs.specs.Linking.{HasId, HasName, IsProgramOf, IsLinkRefusal}
use Rattle.jc_machine_model.specs.CaseText.{case_texts}
use Rattle.jc_command_work.specs.declared.status.Fault.TheVariants as fault
use Rattle.jc_command_work.specs.Step.{Word, to_file, to_out}
use Rattle.jc_command_work.specs.Part.{End, gives, stops, refused}
use Rattle.jc_command_work.specs.Answered.{Answer, refusal_of, refusing}
use Rattle.jc_machine_laws.specs.Frameless.{frameless}
use Rattle.jc_command_run.specs.RunStore.{threads_of, first_without, run_store}
use Rattle.jc_command_run.specs.PairTexts.{same_name_text, same_id_text}

abbrev pub path_at : List Word → ℕ → Word
path_at paths index = slice_index_or paths index []

-- ---- one decision behind the other

-- What is so is handed on, or the command ends so.
abbrev pub Chooses : {X : Type 0} → (X → Type 0) → (End → Type 0) → (X → Answer → Type 0) → Answer → Type 0
Chooses {X} Is Ends then answer = ((x : X) × Is x × then x answer) ⊎ ((end : End) × Ends end × (answer ≡ stops end))

-- ---- the decisions of `run`

-- the run plan's text is refused
abbrev pub IsPlanEnd : (plan : Word) → List ℕ → End → Type 0
IsPlanEnd plan text end = (line : ℕ) × FirstUnfit text line × (end ≡ refusal_of plan (fault.Plan line))

-- the program of the files, without its frames, at which no run looks
abbrev pub IsRunProgram : List (List ℕ) → Program → Type 0
IsRunProgram files program = (p : Program) × IsProgramOf files p × (program ≡ frameless p)

-- how a reason for which files have no program ends the command
abbrev pub EndsAs : List Word → List (List ℕ) → LinkRefusal → End → Type 0
EndsAs paths files (refusals.Class index why) end = end ≡ refusal_of (path_at paths index) (fault.Class index why)
EndsAs paths files (refusals.SameName first second) end =
    (name : List ℕ) × HasName files first name × (end ≡ refused (fault.SameName first second) (same_name_text (path_at paths first) (path_at paths second) name))
EndsAs paths files (refusals.SameId first second) end =
    (id : ℕ) × HasId files first id × (end ≡ refused (fault.SameId first second) (same_id_text (path_at paths first) (path_at paths second) id))

-- the files are no program
abbrev pub IsLinkEnd : List Word → List (List ℕ) → End → Type 0
IsLinkEnd paths files end = (r : LinkRefusal) × IsLinkRefusal files r × EndsAs paths files r end

-- ---- what is made of a run plan and a program

-- Execution data is written, and then a text; or the first thread without a method to begin with is named, by its line.
abbrev pub answer_with : (plan exec : Word) → Store → (text : List ℕ) → Option ThreadLine → Answer
answer_with plan exec store text None = gives (to_file exec (exec_text store) ∷ to_out text ∷ [])
answer_with plan exec store text (Some thread) = refusing plan (fault.NoEntry thread.line)

-- The execution data is of what the cases hit, and the text is what they print, each case under its number from 1.
abbrev pub run_answer : (plan exec : Word) → RunPlan → Program → Option ThreadLine → Answer
run_answer plan exec p program without = answer_with plan exec (run_store program p) (case_texts program 1 p.cases) without

abbrev pub IsRunAnswer : (plan exec : Word) → RunPlan → Program → Answer → Type 0
IsRunAnswer plan exec p program answer = answer ≡ run_answer plan exec p program (first_without program (threads_of p))

-- What is made of the run plan and of the program of the files: the plan's text is refused first, and then files that are no program.
abbrev pub DecidedBy : (RunPlan → Program → Answer → Type 0) → (plan : Word) (paths : List Word) (plan_text : List ℕ) (files : List (List ℕ)) → Answer
    → Type 0
DecidedBy Makes plan paths plan_text files =
    Chooses (IsPlanText plan_text) (IsPlanEnd plan plan_text) (λ p. Chooses (IsRunProgram files) (IsLinkEnd paths files) (λ program. Makes p program))

abbrev pub RunsFiles : (plan exec : Word) (paths : List Word) (plan_text : List ℕ) (files : List (List ℕ)) → Answer → Type 0
RunsFiles plan exec paths plan_text files = DecidedBy (IsRunAnswer plan exec) plan paths plan_text files

-- the run plan is read first, and then the files
abbrev pub RunAnswers : (plan exec : Word) (paths : List Word) → List (List ℕ) → Answer → Type 0
RunAnswers plan exec paths [] answer = ⊥
RunAnswers plan exec paths (plan_text ∷ files) answer = RunsFiles plan exec paths plan_text files answer
