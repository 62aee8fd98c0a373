-- What the command `cover` does: it instruments class files, runs the instrumented ones, and reports on the original ones.
use Rattle.std.specs.Prelude.{◌≡◌, ℕ, ◌+◌, List, [], ◌∷◌, ◌++◌, map, Some, None, slice_index_or}
use Rattle.jc_paths.specs.Paths.{FileText, in_folder}
use Rattle.jc_programs.specs.declared.program.Program.{Program}
use Rattle.jc_programs.specs.declared.run_plan.RunPlan.{RunPlan}
use Rattle.jc_programs.specs.declared.run_plan.ThreadLine.{ThreadLine}
use Rattle.jc_exec.specs.Store.{Store}
use Rattle.jc_exec.specs.Writing.{exec_text}
use Rattle.jc_exec.specs.declared.refusal.ExecRefusal.{ExecRefusal}
use Rattle.jc_report.specs.declared.row.Counted.{Counted}
use Rattle.jc_run_plans.specs.Plans.{IsPlanText}
use Rattle.jc_link_programs.specs.Linking.{HasId, HasName, IsLinkRefusal}
use Rattle.jc_link_programs.specs.declared.link_refusal.LinkRefusal.{LinkRefusal}
use Rattle.jc_link_programs.specs.declared.link_refusal.LinkRefusal.TheVariants as refusals
use Rattle.jc_machine_model.specs.CaseText.{case_texts}
use Rattle.jc_command_work.specs.declared.status.Fault.TheVariants as fault
use Rattle.jc_command_work.specs.Step.{Word, Write, to_file, to_out}
use Rattle.jc_command_work.specs.Part.{End, done, refused, Part, Command, giving, ending, deciding, making, ◌>>=◌, ◌>>◌}
use Rattle.jc_command_work.specs.Part.{reading, writing, reading_all, writing_all}
use Rattle.jc_command_work.specs.Answered.{refusal_of}
use Rattle.jc_command_work.specs.Folders.{files_of}
use Rattle.jc_command_classes.specs.Instrument.{Decision, refused_file, accepted_file, IsDecision, file_writes}
use Rattle.jc_command_classes.specs.Report.{ReportedFile, AreItems, first_clash, AreCountedItems, report_text}
use Rattle.jc_command_classes.specs.ReportSteps.{FrontClashes}
use Rattle.jc_command_run.specs.PairTexts.{same_name_text, same_id_text}
use Rattle.jc_command_run.specs.RunAnswers.{path_at, IsPlanEnd, IsRunProgram}
use Rattle.jc_command_run.specs.RunStore.{threads_of, first_without, run_store}

-- ---- what the words say

pub record Cover : Type 0 where
  -- the folder to which the files are written
  pub dest : Word
  pub plan : Word
  -- where the execution data goes
  pub exec : Word
  -- where the report goes, and its name
  pub csv : Word
  pub name : Word
  -- class files, and folders of class files
  pub files : List FileText

-- ---- class files that were looked at

-- a class file, by its path and its bytes, and what comes of it
pub record LookedFile : Type 0 where
  pub file : Word
  pub bytes : List ℕ
  pub decision : Decision

-- the files with these paths and bytes, in order
abbrev pub AreLooked : List Word → List (List ℕ) → List LookedFile → Type 0
AreLooked [] [] looked = looked ≡ []
AreLooked [] (t ∷ ts) looked = ⊥
AreLooked (f ∷ fs) [] looked = ⊥
AreLooked (f ∷ fs) (t ∷ ts) looked =
    (d : Decision) × (rest : List LookedFile) × IsDecision t d × (looked ≡ record { file = f; bytes = t; decision = d } ∷ rest) × AreLooked fs ts rest

-- the writes of each, in order: the file in the folder, and its line
abbrev pub all_file_writes : (dest : Word) → List LookedFile → List Write
all_file_writes dest [] = []
all_file_writes dest (l ∷ ls) = file_writes (in_folder dest l.file) l.file l.bytes l.decision ++ all_file_writes dest ls

abbrev pub kept_if : Decision → LookedFile → List LookedFile → List LookedFile
kept_if (refused_file why) l ls = ls
kept_if (accepted_file a) l ls = l ∷ ls

-- those that weren't refused
abbrev pub accepted : List LookedFile → List LookedFile
accepted [] = []
accepted (l ∷ ls) = kept_if l.decision l (accepted ls)

abbrev pub paths_in : List LookedFile → List Word
paths_in ls = map (λ l. l.file) ls

abbrev pub texts_in : List LookedFile → List (List ℕ)
texts_in ls = map (λ l. l.bytes) ls

-- the bytes of the accepted files, as they were read
abbrev pub accepted_texts : List LookedFile → List (List ℕ)
accepted_texts looked = texts_in (accepted looked)

-- the paths to which the accepted files were written
abbrev pub targets : (dest : Word) → List LookedFile → List Word
targets dest looked = map (in_folder dest) (paths_in (accepted looked))

-- ---- places among all files

abbrev pub place_if : Decision → ℕ → List ℕ → List ℕ
place_if (refused_file why) place places = places
place_if (accepted_file a) place places = place ∷ places

-- the places of the accepted files among all of them, where the first has this one
abbrev pub places_from : ℕ → List LookedFile → List ℕ
places_from place [] = []
places_from place (l ∷ ls) = place_if l.decision place (places_from (place + 1) ls)

-- the place among all files of an accepted one, by its index among the accepted ones
abbrev pub place_of : List LookedFile → (index : ℕ) → ℕ
place_of looked index = slice_index_or (places_from 0 looked) index 0

abbrev pub path_of : List LookedFile → (index : ℕ) → Word
path_of looked index = path_at (paths_in looked) (place_of looked index)

-- ---- ends

-- How a reason for which the files read back have no program ends the command: files are named by their places among all files.
abbrev pub EndsAmongAll : List LookedFile → (written : List (List ℕ)) → LinkRefusal → End → Type 0
EndsAmongAll looked written (refusals.Class index why) end = end ≡ refusal_of (path_of looked index) (fault.Class (place_of looked index) why)
EndsAmongAll looked written (refusals.SameName first second) end =
    (name : List ℕ) × HasName written first name
    × (end ≡ refused (fault.SameName (place_of looked first) (place_of looked second))
    (same_name_text (path_of looked first) (path_of looked second) name))
EndsAmongAll looked written (refusals.SameId first second) end =
    (id : ℕ) × HasId written first id
    × (end ≡ refused (fault.SameId (place_of looked first) (place_of looked second)) (same_id_text (path_of looked first) (path_of looked second) id))

-- the files read back are no program
abbrev pub IsLinkEnd : List LookedFile → (written : List (List ℕ)) → End → Type 0
IsLinkEnd looked written end = (r : LinkRefusal) × IsLinkRefusal written r × EndsAmongAll looked written r end

-- each thread has a method to begin with
abbrev pub HaveEntries : Program → RunPlan → Unit {0} → Type 0
HaveEntries program plan _ = first_without program (threads_of plan) ≡ None

-- a thread has none: the first is named, by its line
abbrev pub IsEntryEnd : (path : Word) → Program → RunPlan → End → Type 0
IsEntryEnd path program plan end =
    (thread : ThreadLine) × (first_without program (threads_of plan) ≡ Some thread)
    × (end ≡ refusal_of path (fault.NoEntry thread.line))

-- ---- the report

-- The CSV text of class files, by the hits in the records of the execution data, none of which clashes with a class.
pub record IsReportText (name : Word) (store : Store) (texts : List (List ℕ)) (csv : List ℕ) : Type 0 where
  pub items : List ReportedFile
  pub are : AreItems texts items
  pub fits : first_clash store.classes items ≡ None
  pub counted : List Counted
  pub are_counted : AreCountedItems store.classes items counted
  pub is : csv ≡ report_text name counted

-- a record clashes with a class
abbrev pub IsClashEnd : (exec : Word) → Store → (texts : List (List ℕ)) → End → Type 0
IsClashEnd exec store texts end = (refusal : ExecRefusal) × FrontClashes store.classes texts refusal × (end ≡ refusal_of exec (fault.Exec 0 refusal))

-- ---- the work: `cover_work`, at the end, is the whole, which goes on as `covering`, and this as `running`

-- looks at the files, and writes each into the folder, with its line
abbrev pub instrumenting : (dest : Word) → (paths : List Word) → (read : List (List ℕ)) → Part (List LookedFile)
instrumenting dest paths read = do
  looked ← making (AreLooked paths read)
  writing_all (all_file_writes dest looked)
  giving looked

-- behind the writes of the files: reads back and runs the accepted ones, and reports
abbrev pub running : Cover → RunPlan → (looked : List LookedFile) → Command
running c plan looked = do
  -- what runs is what is read back
  written ← reading_all (targets c.dest looked)
  program ← deciding (IsRunProgram written) (IsLinkEnd looked written)
  deciding (HaveEntries program plan) (IsEntryEnd c.plan program plan)
  writing (to_file c.exec (exec_text (run_store program plan)))
  -- the report is on the originals
  csv ← deciding (IsReportText c.name (run_store program plan) (accepted_texts looked)) (IsClashEnd c.exec (run_store program plan) (accepted_texts looked))
  writing (to_file c.csv csv)
  writing (to_out (case_texts program 1 plan.cases))
  ending done

-- behind the text of the run plan and the paths of the files: reads the files, instruments and writes each, and then runs them
abbrev pub covering : Cover → (plan_text : List ℕ) → (paths : List Word) → Command
covering c plan_text paths = do
  read ← reading_all paths
  plan ← deciding (IsPlanText plan_text) (IsPlanEnd c.plan plan_text)
  looked ← instrumenting c.dest paths read
  running c plan looked

-- reads the run plan, lists the files, and covers
abbrev pub cover_work : Cover → Command
cover_work c = do
  plan_text ← reading c.plan
  paths ← files_of c.files
  covering c plan_text paths
