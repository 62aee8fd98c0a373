-- The class files that weren't refused, and a run of them.
use Rattle.std.specs.Prelude.{◌≡◌, ℕ, List, map}
use Rattle.jc_paths.specs.Paths.{in_folder}
use Rattle.jc_programs.specs.declared.program.Program.{Program}
use Rattle.jc_programs.specs.declared.run_plan.RunPlan.{RunPlan}
use Rattle.jc_machine_model.specs.CaseText.{case_texts}
use Rattle.jc_command_run.specs.RunStore.{run_store}
use Rattle.jc_command_run.specs.declared.program.Ran.{Ran}
use Rattle.jc_headline.specs.CoverWork.{LookedFile, accepted, accepted_texts, paths_in, places_from, targets, texts_in}
use Rattle.jc_command_cover.specs.declared.accepted.Accepted.{Accepted}
use Rattle.jc_command_work.specs.Step.{Word, FilesTargeted}

-- these are all files that were looked at, in order: their paths, their bytes as they were read, and the paths that they were written
-- to; and these are the places of the accepted ones
pub record AreOfAll (dest : Word) (looked : List LookedFile) (files : FilesTargeted) (places : List ℕ) : Type 0 where
  pub paths_are : files.inputs.paths ≡ paths_in looked
  pub targets_are : files.targets ≡ map (in_folder dest) (paths_in looked)
  pub texts_are : files.inputs.texts ≡ texts_in looked
  pub places_are : places ≡ places_from 0 looked

-- so of some files
pub record AreOfSome (files : FilesTargeted) (places : List ℕ) : Type 0 where
  pub dest : Word
  pub looked : List LookedFile
  pub of : AreOfAll dest looked files places

-- these are the accepted ones of the files that were looked at
pub record AreAccepted (dest : Word) (looked : List LookedFile) (those : Accepted) : Type 0 where
  pub places : those.places.items ≡ places_from 0 looked
  pub paths : those.files.inputs.paths ≡ paths_in (accepted looked)
  pub targets : those.files.targets ≡ targets dest looked
  pub texts : those.files.inputs.texts ≡ accepted_texts looked

-- ---- a run of them

-- A run plan, files that were looked at, and a program: these are the texts of the accepted ones of the files, and this came of the
-- run plan's cases on the program.
pub record RunOf (texts : List (List ℕ)) (ran : Ran) : Type 0 where
  pub plan : RunPlan
  pub looked : List LookedFile
  pub program : Program
  pub texts_are : texts ≡ accepted_texts looked
  pub store_is : ran.store ≡ run_store program plan
  pub text_is : ran.text.items ≡ case_texts program 1 plan.cases
