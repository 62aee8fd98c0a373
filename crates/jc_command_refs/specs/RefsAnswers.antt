-- What the command `refs` makes of class files.
use Rattle.std.specs.Prelude.{◌≡◌, ◌⊎◌, ℕ, List, [], ◌∷◌, codes}
use Rattle.jc_programs.specs.declared.program.Program.{Program}
use Rattle.jc_refs_check.specs.declared.ref_refusal.RefRefusal.{RefRefusal}
use Rattle.jc_refs_check.specs.RefsOk.{RefsOk}
use Rattle.jc_refs_check.specs.Answers.{IsRefRefusal}
use Rattle.jc_link_programs.specs.Linking.{IsProgramOf}
use Rattle.jc_command_work.specs.declared.status.Fault.TheVariants as fault
use Rattle.jc_command_work.specs.Step.{Word, to_out}
use Rattle.jc_command_work.specs.Part.{gives}
use Rattle.jc_command_work.specs.Answered.{Answer, refusing}
use Rattle.jc_command_run.specs.RunAnswers.{path_at, Chooses, IsLinkEnd}

-- what is printed where each reference suits what takes it
abbrev pub passed_text : List ℕ
passed_text = codes "refs ok\n"

abbrev pub passed_answer : Answer
passed_answer = gives (to_out passed_text ∷ [])

-- the file of the class is refused, and its line says the method and the instruction
abbrev pub refused_answer : List Word → RefRefusal → Answer
refused_answer paths refusal = refusing (path_at paths refusal.class) (fault.Refs refusal.class refusal)

-- Each reference of the program suits what takes it; or the first instruction at which one doesn't is named.
abbrev pub RefsAnswer : List Word → Program → Answer → Type 0
RefsAnswer paths program answer =
    (RefsOk program × (answer ≡ passed_answer))
    ⊎ ((refusal : RefRefusal) × IsRefRefusal program refusal × (answer ≡ refused_answer paths refusal))

-- Files that are no program are refused as `run` refuses them, before references are looked at.
abbrev pub RefsFiles : List Word → List (List ℕ) → Answer → Type 0
RefsFiles paths files = Chooses (IsProgramOf files) (IsLinkEnd paths files) (λ program. RefsAnswer paths program)
