-- The headline: what instrumented classes did in a run of `cover`, and what is written of it, is what the original classes do.
--
-- The words of the record `Headline` below:
--
-- * The class files are those that the words name, all of them, as they stood: `CoverRun` has their paths, and what was read of each.
-- * `before` is the program that is linked from the accepted originals, `after` the one linked from the files that were read back,
--   which are what was written of them. The program that ran is `after`, without its frames, at which no run looks.
-- * Each case of the run plan has its own turns. Those of them at which its thread stands at an instruction of the original, in the
--   run of `after`, are its kept turns; the others are turns of probes.
-- * What is printed on `out`, behind the lines of the files, is the text of each case as `after` runs it under its own turns. It is the
--   text that `before` gives under the kept turns. The first run leaves the same as the second: output, heap, static fields and ends of
--   threads.
-- * The execution data that is written has no session, and in the order of the classes the id, the name and the bits of each class of
--   which a probe was passed. Each bit says whether some case passed the probe, and no case passed what is no probe.
-- * The report that is written has a row for each changed class, with its id, its name, and the names of its superclass and of its
--   interfaces, by which a class without a name is shown, and the counters of a coverage. What this counts as covered was executed by
--   `before` in some case under its kept turns, or, instructions alone, is the goto, return or athrow that is next in a thread that
--   stopped; and exactly what was executed is covered where each thread of each case returned, and nothing was thrown.
-- * Each class file that is refused stands in the folder as it was read, unless a folder among the words brought it in and its path is that
--   of the execution data or of the report too; and its line, which says why, is on `err`. So does each accepted one as it was instrumented, with its line on `out`.
use Rattle.std.specs.Prelude.{◌≡◌, ◌≢◌, ◌⊎◌, ◌↔◌, ℕ, ◌+◌, Bool, true, false, List, [], ◌∷◌, ◌++◌, map}
use Rattle.std.specs.Prelude.{Option, Some, None, Contains, IsTrue, slice_get, slice_index_or}
use Rattle.std.specs.FinMap.{get}
use Rattle.std.specs.List.{AllByRecursion}
use Rattle.jc_paths.specs.Paths.{plain, in_folder}
use Rattle.jc_programs.specs.declared.program.Program.{Program}
use Rattle.jc_programs.specs.declared.program.Linked.{Linked}
use Rattle.jc_programs.specs.declared.program.ProbeInit.{ProbeInit}
use Rattle.jc_programs.specs.declared.run_plan.Case.{Case}
use Rattle.jc_programs.specs.declared.run_plan.RunPlan.{RunPlan}
use Rattle.jc_programs.specs.declared.run_end.Entry.{Entry}
use Rattle.jc_programs.specs.Turns.{turns_in}
use Rattle.jc_emit.specs.Marks.{Marks}
use Rattle.jc_twin_programs.specs.TwinProgram.{TwinProgram}
use Rattle.jc_exec.specs.Writing.{exec_text}
use Rattle.jc_cover.specs.declared.coverage.Coverage.{Coverage}
use Rattle.jc_cover.specs.Covered.{is_hit, TellsCovered}
use Rattle.jc_cover.specs.Counters.{counters_of}
use Rattle.jc_pool.specs.Lookup.{class_name_of}
use Rattle.jc_class.specs.ClassId.{class_id}
use Rattle.jc_class.specs.ClassText.{ClassText}
use Rattle.jc_class.specs.declared.class_file.ClassFile.{ClassFile}
use Rattle.jc_instrument.specs.Analysis.{super_name_of}
use Rattle.jc_report.specs.declared.row.Counted.{Counted}
use Rattle.jc_machine_model.specs.CaseEnds.{case_end}
use Rattle.jc_machine_model.specs.CaseText.{case_text, case_texts}
use Rattle.jc_machine_model.specs.Methods.{declares_init}
use Rattle.jc_machine_laws.specs.Frameless.{frameless}
use Rattle.jc_machine_model.specs.Run.{run, IsHit, hits_of}
use Rattle.jc_machine_model.specs.World.{Hit}
use Rattle.jc_twin_simulation.specs.Marking.{AreMarks}
use Rattle.jc_twin_simulation.specs.Same.{Same}
use Rattle.jc_twin_simulation.specs.Laws.{kept_of}
use Rattle.jc_twin_exact.specs.Reported.{IsReported}
use Rattle.jc_link_programs.specs.Linking.{IsProgramOf}
use Rattle.jc_command_work.specs.declared.status.Status.TheVariants as status
use Rattle.jc_command_work.specs.Ending.{Ends}
use Rattle.jc_command_work.specs.OneWay.{IsTold}
use Rattle.jc_command_work.specs.Step.{Word, Outside, Counts, Landed, Write, to_file, to_out, to_err, Told}
use Rattle.jc_command_classes.specs.Instrument.{Decision, refused_file, accepted_file}
use Rattle.jc_command_classes.specs.Report.{report_text}
use Rattle.jc_command_run.specs.RunStore.{hit_record, run_store}
use Rattle.jc_headline.specs.CoverWork.{Cover, LookedFile, all_file_writes, accepted_texts, cover_work}
use Rattle.jc_headline.specs.CoverRun.{CoverRun}

-- ---- premises

-- what a path holds after a write is what was written
abbrev pub as_written : Landed
as_written path bytes = bytes

-- As words name them that call `cover`, execution data and report go to two paths, and the file of a path that is named by itself,
-- and not by a folder, goes to neither.
pub record NamesApart (c : Cover) : Type 0 where
  pub results : c.exec ≢ c.csv
  pub files : (path : Word) → Contains c.files (plain path) → (in_folder c.dest path ≢ c.exec) × (in_folder c.dest path ≢ c.csv)

-- ---- files

-- the bytes that were written of the accepted files
abbrev pub written_bytes : Decision → List (List ℕ) → List (List ℕ)
written_bytes (refused_file why) more = more
written_bytes (accepted_file a) more = a.bytes ∷ more

abbrev pub all_written : List LookedFile → List (List ℕ)
all_written [] = []
all_written (l ∷ ls) = written_bytes l.decision (all_written ls)

-- a file holds these bytes
abbrev pub HoldsFile : Outside → Word → List ℕ → Type 0
HoldsFile w path bytes = Told w.contents (λ m. get m path ≡ Some bytes)

-- what is written for a file: its own bytes, where it is refused, or those of the instrumented class
abbrev pub stored : LookedFile → Decision → List ℕ
stored l (refused_file why) = l.bytes
stored l (accepted_file a) = a.bytes

-- the path is named by itself, or, where a folder brought it in, neither execution data nor report went to its path in the folder `dest`
abbrev pub IsKept : Cover → Word → Type 0
IsKept c path = Contains c.files (plain path) ⊎ ((in_folder c.dest path ≢ c.exec) × (in_folder c.dest path ≢ c.csv))

-- then this stands there
abbrev pub StandsThere : Cover → Outside → LookedFile → Type 0
StandsThere c new l = IsKept c l.file → HoldsFile new (in_folder c.dest l.file) (stored l l.decision)

-- what writes put on `out`, and on `err`
abbrev pub out_text : List Write → List ℕ
out_text [] = []
out_text (to_file path bytes ∷ writes) = out_text writes
out_text (to_out text ∷ writes) = text ++ out_text writes
out_text (to_err text ∷ writes) = out_text writes

abbrev pub err_text : List Write → List ℕ
err_text [] = []
err_text (to_file path bytes ∷ writes) = err_text writes
err_text (to_out text ∷ writes) = err_text writes
err_text (to_err text ∷ writes) = text ++ err_text writes

-- ---- hits

-- the bits of a class's record in the execution data
abbrev pub bits_with : List Hit → (class : ℕ) → Linked → Option ProbeInit → List Bool
bits_with hits class c None = []
bits_with hits class c (Some init) = (hit_record hits class c init).bits

abbrev pub bits_from : List Hit → (class : ℕ) → List Linked → List (List Bool)
bits_from hits class [] = []
bits_from hits class (c ∷ classes) = bits_with hits class c c.probes ∷ bits_from hits (class + 1) classes

-- those of each class, in order
abbrev pub bits_of : Program → RunPlan → List (List Bool)
bits_of program plan = bits_from (hits_of program plan) 0 program.classes

-- ---- the rows of the report

module _ (before after : Program) (marks : Entry → Marks) (plan : RunPlan) where
  -- The class at this place, of a file of these bytes, has this row: it says who the class is, as its file does (JVM Specification 4.1),
  -- and its counters are those of the coverage that tells which edges are covered by its bits, and what they count as covered ran.
  pub record IsRow (class : ℕ) (bytes : List ℕ) (c : Linked) (row : Counted) : Type 0 where
    pub id : row.id ≡ class_id bytes
    pub name : row.name ≡ c.name
    pub file : ClassFile
    pub text : ClassText bytes file
    pub super_name : row.super_name ≡ super_name_of file.pool file.super_class
    pub interfaces : map Some row.interfaces ≡ map (class_name_of file.pool) file.interfaces
    pub coverage : Coverage
    pub tells : TellsCovered c.bodies (slice_index_or (bits_of after plan) class []) coverage
    pub counters : row.counters ≡ counters_of c.bodies coverage
    pub reported : IsReported before after marks plan class c.bodies coverage

  -- a changed class has a row in front of those behind it
  abbrev pub RowsBy : Bool → (class : ℕ) → List ℕ → Linked → (List Counted → Type 0) → List Counted → Type 0
  RowsBy false class bytes c Behind rows = Behind rows
  RowsBy true class bytes c Behind rows =
      (row : Counted) × (behind : List Counted) × (rows ≡ row ∷ behind) × IsRow class bytes c row × Behind behind

  -- one for each changed class, which is one whose twin declares `$jacocoInit`, in the order of the files and of their classes
  abbrev pub AreRowsFrom : (class : ℕ) → (files : List (List ℕ)) → (classes twins : List Linked) → List Counted → Type 0
  AreRowsFrom class [] [] [] rows = rows ≡ []
  AreRowsFrom class (bytes ∷ files) (c ∷ classes) (n ∷ twins) rows =
      RowsBy (declares_init n) class bytes c (AreRowsFrom (class + 1) files classes twins) rows
  AreRowsFrom class _ _ _ rows = ⊥

  abbrev pub AreRows : (files : List (List ℕ)) → List Counted → Type 0
  AreRows files rows = AreRowsFrom 0 files before.classes after.classes rows

-- ---- the headline

pub record Headline (landed : Landed) (c : Cover) (old new : Outside) (r : CoverRun landed c old new) : Type 0 where
  -- the program of the accepted originals, and that of what was written of them
  pub before : Program
  pub originals : IsProgramOf (accepted_texts r.looked) before
  pub after : Program
  pub instrumented : IsProgramOf (all_written r.looked) after
  pub twins : TwinProgram before after
  pub marks : Entry → Marks
  pub are_marks : AreMarks before after marks
  -- what was read back is what was written, and what ran is its program
  pub read_back : r.written ≡ all_written r.looked
  pub program : r.program ≡ frameless after
  -- each case prints what the instrumented files give, which is the text that the originals give under the kept turns
  pub prints : (t : List ℕ) → old.out ≡ Some t
      → new.out ≡ Some (t ++ (out_text (all_file_writes c.dest r.looked) ++ case_texts after 1 r.plan.cases))
  pub same_text : (k : ℕ) (case : Case) → slice_get r.plan.cases k ≡ Some case
      → case_text after (1 + k) (case_end after case (turns_in case))
      ≡ case_text before (1 + k) (case_end before case (kept_of after marks case (turns_in case)))
  -- and it leaves what the originals leave under these turns
  pub leaves : (case : Case) → Contains r.plan.cases case
      → Same after marks (run before case (kept_of after marks case (turns_in case))) (run after case (turns_in case))
  -- the written data is the union of the probes passed
  pub written_data : HoldsFile new c.exec (exec_text (run_store after r.plan))
  pub passed : (class id : ℕ)
      → IsTrue (is_hit (slice_index_or (bits_of after r.plan) class []) id) ↔ IsHit after r.plan (record { class = class; id = id })
  -- what is reported was executed or next in a stopped thread, and exactly what was executed where all returned and nothing was thrown
  pub rows : List Counted
  pub reports : HoldsFile new c.csv (report_text c.name rows)
  pub ran : AreRows before after marks r.plan (accepted_texts r.looked) rows
  -- each file stands in the folder, a refused one as it was read; and each has its line, a refused one its reason
  pub stand : AllByRecursion (StandsThere c new) r.looked
  pub reasons : (t : List ℕ) → old.err ≡ Some t → new.err ≡ Some (t ++ err_text (all_file_writes c.dest r.looked))

-- Where contents are told, and paths are named as words name them that call `cover`, each run of `cover` that is done is one of which the
-- headline holds.
abbrev pub HeadlineOf : Landed → Type 0
HeadlineOf landed = (c : Cover) (old new : Outside) (f f' : Counts) → IsTold old → NamesApart c → Ends landed (cover_work c) old new f f' status.Done
    → (r : CoverRun landed c old new) × Headline landed c old new r
