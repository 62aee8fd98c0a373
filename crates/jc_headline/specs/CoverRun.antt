-- What a run of `cover` that is done read, made and wrote.
use Rattle.std.specs.Prelude.{◌≡◌, ◌≢◌, ⊤, ℕ, List, [], ◌∷◌, ◌++◌, Option}
use Rattle.jc_outside.specs.Outside.{FileMap}
use Rattle.jc_programs.specs.declared.program.Program.{Program}
use Rattle.jc_programs.specs.declared.run_plan.RunPlan.{RunPlan}
use Rattle.jc_exec.specs.Writing.{exec_text}
use Rattle.jc_run_plans.specs.Plans.{IsPlanText}
use Rattle.jc_machine_model.specs.CaseText.{case_texts}
use Rattle.jc_command_work.specs.Step.{Word, Outside, Landed, to_file, to_out, IsRead}
use Rattle.jc_command_work.specs.Prefix.{after_writes}
use Rattle.jc_command_run.specs.RunAnswers.{IsRunProgram}
use Rattle.jc_command_run.specs.RunStore.{run_store}
use Rattle.jc_headline.specs.Named.{AreNamed}
use Rattle.jc_headline.specs.CoverWork.{Cover, LookedFile, AreLooked, all_file_writes, accepted_texts, targets, HaveEntries, IsReportText}

-- the paths hold these bytes, in order
abbrev pub AreRead : Option FileMap → List Word → List (List ℕ) → Type 0
AreRead contents [] [] = ⊤
AreRead contents [] (t ∷ ts) = ⊥
AreRead contents (p ∷ ps) [] = ⊥
AreRead contents (p ∷ ps) (t ∷ ts) = IsRead contents p t × AreRead contents ps ts

-- the path is none of these
abbrev pub IsNone : Word → List Word → Type 0
IsNone path [] = ⊤
IsNone path (p ∷ ps) = (path ≢ p) × IsNone path ps

-- no two of the paths are equal
abbrev pub AreDistinct : List Word → Type 0
AreDistinct [] = ⊤
AreDistinct (p ∷ ps) = IsNone p ps × AreDistinct ps

-- Text and execution data are those of the program that is linked from the very bytes that were read back, whatever a path holds
-- after a write, and whatever probes these bytes have.
pub record CoverRun (landed : Landed) (c : Cover) (old new : Outside) : Type 0 where
  -- what was read before any write
  pub plan_text : List ℕ
  pub plan_read : IsRead old.contents c.plan plan_text
  -- the class files are those that the words name, and all of them
  pub paths : List Word
  pub named : AreNamed old.contents c.files paths
  pub distinct : AreDistinct paths
  pub read : List (List ℕ)
  pub files_read : AreRead old.contents paths read
  pub plan : RunPlan
  pub is_plan : IsPlanText plan_text plan
  -- what came of each file, and what was read back of the accepted ones
  pub looked : List LookedFile
  pub looked_at : AreLooked paths read looked
  pub written : List (List ℕ)
  pub read_back : AreRead (after_writes landed old (all_file_writes c.dest looked)).contents (targets c.dest looked) written
  -- what these are
  pub program : Program
  pub links : IsRunProgram written program
  pub entries : HaveEntries program plan tt
  -- the report on the accepted originals
  pub csv : List ℕ
  pub report : IsReportText c.name (run_store program plan) (accepted_texts looked) csv
  -- all writes: the files with their lines, the execution data, the report, and what the cases printed
  pub stands : new ≡ after_writes landed old (all_file_writes c.dest looked
      ++ (to_file c.exec (exec_text (run_store program plan)) ∷ to_file c.csv csv ∷ to_out (case_texts program 1 plan.cases) ∷ []))
