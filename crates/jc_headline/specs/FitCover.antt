-- What is enough for a run of `cover` to be done.
use Rattle.std.specs.Prelude.{◌≡◌, ◌≢◌, ◌≤◌, ℕ, List, Some, length}
use Rattle.std.specs.List.{AllByRecursion}
use Rattle.jc_bytes.specs.Reader.{most_read}
use Rattle.jc_outside.specs.Outside.{FileMap}
use Rattle.jc_programs.specs.declared.program.Program.{Program}
use Rattle.jc_programs.specs.declared.run_plan.RunPlan.{RunPlan}
use Rattle.jc_run_plans.specs.Plans.{IsPlanText}
use Rattle.jc_link_programs.specs.Linking.{IsProgramOf}
use Rattle.jc_link_programs.specs.declared.link_refusal.LinkRefusal.{LinkRefusal}
use Rattle.jc_link_laws.specs.SecondLinking.{IsSecondRefusal}
use Rattle.jc_command_work.specs.declared.status.Status.{Status}
use Rattle.jc_command_work.specs.declared.status.Status.TheVariants as status
use Rattle.jc_command_work.specs.Step.{Outside, Counts, Landed, IsRead}
use Rattle.jc_command_work.specs.Part.{done}
use Rattle.jc_command_work.specs.Ending.{Ends, NoneRose}
use Rattle.jc_command_work.specs.OneWay.{Work, IsWork}
use Rattle.jc_headline.specs.CoverWork.{Cover, LookedFile, AreLooked, accepted_texts, HaveEntries, cover_work}
use Rattle.jc_headline.specs.Named.{named_paths}
use Rattle.jc_headline.specs.CoverRun.{AreRead, CoverRun}
use Rattle.jc_headline.specs.Headline.{NamesApart, all_written, Headline}

-- ---- what is enough

-- at most 67,108,864 bytes
abbrev pub IsShort : List ℕ → Type 0
IsShort text = length text ≤ most_read

-- Run plan and class files are fit for `cover`. Of the instrumented files it says that no method of a twin passes the bound on
-- instructions times slots, that no two changed classes have one id, and that none is too long. All else is said of the originals.
pub record IsFitCover (c : Cover) (old : Outside) : Type 0 where
  -- contents are told
  pub contents : FileMap
  pub told : old.contents ≡ Some contents
  -- the path of the run plan holds the text of a run plan
  pub plan_text : List ℕ
  pub plan_read : IsRead old.contents c.plan plan_text
  pub plan : RunPlan
  pub is_plan : IsPlanText plan_text plan
  -- each path that files and folders name holds a file that can be read
  pub read : List (List ℕ)
  pub files_read : AreRead old.contents (named_paths contents c.files) read
  -- what comes of each
  pub looked : List LookedFile
  pub looked_at : AreLooked (named_paths contents c.files) read looked
  -- those that weren't refused are linked to a program
  pub before : Program
  pub originals : IsProgramOf (accepted_texts looked) before
  -- nothing refuses what is written of them
  pub again : (r : LinkRefusal) → IsSecondRefusal (accepted_texts looked) (all_written looked) r → ⊥
  pub short : AllByRecursion IsShort (all_written looked)
  -- each thread of the run plan has a method to begin with
  pub entries : HaveEntries before plan tt

-- ---- what follows

-- the work of each cover that fits ends as done
abbrev pub FitCoversHaveWork : Landed → Type 0
FitCoversHaveWork landed = (c : Cover) (old : Outside) → IsFitCover c old → (work : Work) × IsWork landed (cover_work c) old work × (work.end ≡ done)

-- this run plan ran, over what came of these files, and the headline holds
abbrev pub HasHeadline : (landed : Landed) (c : Cover) (old new : Outside) → IsFitCover c old → Type 0
HasHeadline landed c old new fit =
    (r : CoverRun landed c old new) × (r.plan ≡ fit.plan) × (r.looked ≡ fit.looked) × Headline landed c old new r

-- Where no count rose and memory wasn't refused, and paths are named as words name them that call `cover`, each run of such a cover is
-- done.
abbrev pub FitCoversAreDone : Landed → Type 0
FitCoversAreDone landed = (c : Cover) (old new : Outside) (f f' : Counts) (s : Status) (fit : IsFitCover c old) → NamesApart c
    → Ends landed (cover_work c) old new f f' s
    → NoneRose f f' → s ≢ status.Memory → (s ≡ status.Done) × HasHeadline landed c old new fit

-- nothing less is enough: each run that is done is one of a cover that fits
abbrev pub DoneCoversFit : Landed → Type 0
DoneCoversFit landed = (c : Cover) (old new : Outside) (f f' : Counts) (m : FileMap) → old.contents ≡ Some m
    → Ends landed (cover_work c) old new f f' status.Done → IsFitCover c old
