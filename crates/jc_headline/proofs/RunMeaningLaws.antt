-- What a run of `cover` that is done means, where files read back as they were written.
use Rattle.std.proofs.Common.{◌≡◌, ◌≢◌, inl, inr, ℕ, List, [], ◌∷◌, ◌++◌, map, ◌+◌, slice_get, Option, None, Some, Contains, sym, ◌∙◌, ap, subst, append-nil}
use Rattle.std.specs.FinMap.{get, insert}
use Rattle.std.specs.List.{AllByRecursion}
use Rattle.jc_bytes.specs.ByteLists.{AreBytes}
use Rattle.jc_bytes.proofs.BooleanLaws.{stands_in}
use Rattle.jc_outside.specs.Outside.{FileMap}
use Rattle.jc_outside.proofs.HeldLaws.{get_there, get_here}
use Rattle.jc_programs.specs.declared.program.Program.{Program}
use Rattle.jc_programs.specs.declared.run_plan.Case.{Case}
use Rattle.jc_programs.specs.declared.run_end.Entry.{Entry}
use Rattle.jc_programs.specs.Entries.{AreEntries}
use Rattle.jc_programs.specs.Turns.{turns_in}
use Rattle.jc_emit.specs.Marks.{Marks}
use Rattle.jc_twin_programs.specs.TwinProgram.{TwinProgram}
use Rattle.jc_exec.specs.Store.{Store}
use Rattle.jc_exec.specs.Writing.{exec_text}
use Rattle.jc_link_programs.specs.Linking.{IsProgramOf}
use Rattle.jc_link_laws.specs.TwinFiles.{AreWrittenOf, IsShortFile}
use Rattle.jc_link_laws.proofs.TwinLinkLaws.{twin_program}
use Rattle.jc_machine_model.specs.CaseEnds.{case_end}
use Rattle.jc_machine_model.specs.CaseText.{case_text, case_texts}
use Rattle.jc_machine_model.specs.Run.{run}
use Rattle.jc_twin_simulation.specs.Marking.{AreMarks}
use Rattle.jc_twin_simulation.specs.Same.{Same}
use Rattle.jc_twin_simulation.specs.Laws.{kept_of}
use Rattle.jc_twin_simulation.proofs.BeginLaws.{entry_alike}
use Rattle.jc_twin_simulation.proofs.ProgramRunLaws.{have_marks, have_sides, runs_are_same}
use Rattle.jc_machine_laws.specs.Frameless.{frameless}
use Rattle.jc_machine_laws.proofs.FramelessTextLaws.{same_texts}
use Rattle.jc_twin.proofs.TextLaws.{same_text}
use Rattle.jc_paths.specs.Paths.{in_folder}
use Rattle.jc_command_work.specs.Step.{Word, Outside, to_file, to_out, Told}
use Rattle.jc_command_classes.specs.Report.{report_text}
use Rattle.jc_command_run.specs.RunStore.{run_store, threads_of, first_without}
use Rattle.jc_command_run.proofs.StoreLaws.{same_store, same_without}
use Rattle.jc_headline.specs.CoverWork.{Cover, LookedFile, all_file_writes, accepted, texts_in, targets}
use Rattle.jc_headline.specs.CoverRun.{AreRead, AreDistinct, CoverRun}
use Rattle.jc_headline.specs.Headline.{as_written, NamesApart, all_written, stored, HoldsFile, IsKept, StandsThere, out_text, err_text}
use Rattle.jc_headline.proofs.DistinctLaws.{distinct_targets, looked_files}
use Rattle.jc_headline.proofs.EntryLaws.{case_entries, entries_alike}
use Rattle.jc_headline.proofs.OriginalLaws.{all_written_of, all_short, original_program}
use Rattle.jc_headline.proofs.WriteLaws.{all_targets, contents_after, out_after, err_after, out-append, err-append, map_after, map_after-append, Stand, stand, same_back}

-- ---- what was read

pub files_short : (contents : Option FileMap) (paths : List Word) (read : List (List ℕ)) → AreRead contents paths read → AllByRecursion IsShortFile read
files_short contents [] [] are = tt
files_short contents [] (t ∷ ts) are = absurd are
files_short contents (p ∷ ps) [] are = absurd are
files_short contents (p ∷ ps) (t ∷ ts) are = ((are.0.file.are_bytes, are.0.file.short), files_short contents ps ts are.1)

bytes_files : (contents : Option FileMap) (paths : List Word) (read : List (List ℕ)) → AreRead contents paths read → AllByRecursion AreBytes read
bytes_files contents [] [] are = tt
bytes_files contents [] (t ∷ ts) are = absurd are
bytes_files contents (p ∷ ps) [] are = absurd are
bytes_files contents (p ∷ ps) (t ∷ ts) are = (are.0.file.are_bytes, bytes_files contents ps ts are.1)

-- ---- the run

module _ (c : Cover) (old new : Outside) (m : FileMap) (told : old.contents ≡ Some m) (r : CoverRun as_written c old new) where
  distinct : AreDistinct (all_targets c.dest r.looked)
  distinct = subst (λ (l : List Word). AreDistinct (map (in_folder c.dest) l)) (sym (looked_files r.paths r.read r.looked r.looked_at)) (distinct_targets c.dest r.paths r.distinct)

  -- the program of the files read back, with its frames
  pub twin : Program
  twin = r.links.0

  pub store_is : run_store r.program r.plan ≡ run_store twin r.plan
  unfolding twin
  store_is = ap (λ (p : Program). run_store p r.plan) r.links.2 ∙ same_store r.links.0 r.plan

  texts_are : case_texts r.program 1 r.plan.cases ≡ case_texts twin 1 r.plan.cases
  unfolding twin
  texts_are = ap (λ (p : Program). case_texts p 1 r.plan.cases) r.links.2 ∙ same_texts r.links.0 1 r.plan.cases

  exec_bytes : List ℕ
  exec_bytes = exec_text (run_store r.program r.plan)

  -- the map when the files stand in the folder, and at the end
  there : FileMap
  there = map_after m (all_file_writes c.dest r.looked)

  final : FileMap
  unfolding there exec_bytes
  final = insert (insert there c.exec exec_bytes) c.csv r.csv

  final_contents : new.contents ≡ Some final
  unfolding final there exec_bytes
  final_contents =
      let behind = to_file c.exec (exec_text (run_store r.program r.plan)) ∷ to_file c.csv r.csv ∷ to_out (case_texts r.program 1 r.plan.cases) ∷ [] in
      ap (λ (w : Outside). w.contents) r.stands ∙ contents_after old m (all_file_writes c.dest r.looked ++ behind) told
      ∙ ap (λ (n : FileMap). Some n) (map_after-append m (all_file_writes c.dest r.looked) behind)

  holds : (path bytes : List ℕ) → get final path ≡ Some bytes → HoldsFile new path bytes
  holds path bytes is = subst (λ (o : Option FileMap). Told o (λ n. get n path ≡ Some bytes)) (sym final_contents) is

  all_stand : Stand c.dest there r.looked
  unfolding there
  all_stand = stand c.dest m r.looked distinct

  pub back : r.written ≡ all_written r.looked
  unfolding there
  back = same_back c.dest there r.looked all_stand r.written
      (subst (λ (o : Option FileMap). AreRead o (targets c.dest r.looked) r.written) (contents_after old m (all_file_writes c.dest r.looked) told) r.read_back)

  pub program_is : r.program ≡ frameless twin
  unfolding twin
  program_is = r.links.2

  pub instrumented : IsProgramOf (all_written r.looked) twin
  unfolding twin
  instrumented = subst (λ (l : List (List ℕ)). IsProgramOf l r.links.0) back r.links.1

  -- a path that is neither the execution data's nor the report's stays behind the files
  kept : (path : Word) → path ≢ c.exec → path ≢ c.csv → get final path ≡ get there path
  unfolding final there exec_bytes
  kept path exec csv = get_there (insert there c.exec exec_bytes) c.csv r.csv path csv ∙ get_there there c.exec exec_bytes path exec

  -- a file whose path is named by itself is one of these
  goes_to_neither : NamesApart c → (path : Word) → IsKept c path → (in_folder c.dest path ≢ c.exec) × (in_folder c.dest path ≢ c.csv)
  goes_to_neither apart path (inl named) = apart.files path named
  goes_to_neither apart path (inr other) = other

  stand_at_end : NamesApart c → (ls : List LookedFile) → Stand c.dest there ls → AllByRecursion (StandsThere c new) ls
  stand_at_end apart [] stand = tt
  stand_at_end apart (l ∷ ls) stand = (
    λ is.
        let other = goes_to_neither apart l.file is in
        holds (in_folder c.dest l.file) (stored l l.decision) (kept (in_folder c.dest l.file) other.0 other.1 ∙ stand.0),
    stand_at_end apart ls stand.1,
  )

  pub each_stands : NamesApart c → AllByRecursion (StandsThere c new) r.looked
  each_stands apart = stand_at_end apart r.looked all_stand

  pub data_written : c.exec ≢ c.csv → HoldsFile new c.exec (exec_text (run_store twin r.plan))
  unfolding final there exec_bytes
  data_written other =
      subst (λ (s : Store). HoldsFile new c.exec (exec_text s)) store_is
      (holds c.exec (exec_text (run_store r.program r.plan)) (get_there (insert there c.exec exec_bytes) c.csv r.csv c.exec other ∙ get_here there c.exec exec_bytes))

  pub report_written : HoldsFile new c.csv (report_text c.name r.report.counted)
  unfolding final there exec_bytes
  report_written = subst (HoldsFile new c.csv) r.report.is (holds c.csv r.csv (get_here (insert there c.exec exec_bytes) c.csv r.csv))

  pub printed : (t : List ℕ) → old.out ≡ Some t → new.out ≡ Some (t ++ (out_text (all_file_writes c.dest r.looked) ++ case_texts twin 1 r.plan.cases))
  printed t is =
      let text = case_texts r.program 1 r.plan.cases in
      let behind = to_file c.exec (exec_text (run_store r.program r.plan)) ∷ to_file c.csv r.csv ∷ to_out text ∷ [] in
      ap (λ (w : Outside). w.out) r.stands ∙ out_after as_written old t (all_file_writes c.dest r.looked ++ behind) is
      ∙ ap (λ (l : List ℕ). Some (t ++ l)) (out-append (all_file_writes c.dest r.looked) behind ∙ ap (λ (l : List ℕ). out_text (all_file_writes c.dest r.looked) ++ l) (append-nil text ∙ texts_are))

  pub reasons_printed : (t : List ℕ) → old.err ≡ Some t → new.err ≡ Some (t ++ err_text (all_file_writes c.dest r.looked))
  reasons_printed t is =
      let behind = to_file c.exec (exec_text (run_store r.program r.plan)) ∷ to_file c.csv r.csv ∷ to_out (case_texts r.program 1 r.plan.cases) ∷ [] in
      ap (λ (w : Outside). w.err) r.stands ∙ err_after as_written old t (all_file_writes c.dest r.looked ++ behind) is
      ∙ ap (λ (l : List ℕ). Some (t ++ l)) (err-append (all_file_writes c.dest r.looked) behind ∙ append-nil (err_text (all_file_writes c.dest r.looked)))

  -- ---- the two programs

  short_read : AllByRecursion IsShortFile r.read
  short_read = files_short old.contents r.paths r.read r.files_read

  pub short : AllByRecursion IsShortFile (texts_in (accepted r.looked))
  short = all_short r.paths r.read r.looked r.looked_at short_read

  pub written_of : AreWrittenOf (texts_in (accepted r.looked)) (all_written r.looked)
  written_of = all_written_of r.paths r.read r.looked r.looked_at short_read

  pub are_written : AllByRecursion AreBytes (all_written r.looked)
  are_written = subst (λ (l : List (List ℕ)). AllByRecursion AreBytes l) back (bytes_files _ (targets c.dest r.looked) r.written r.read_back)

  found : (p : Program) × IsProgramOf (texts_in (accepted r.looked)) p
  found = original_program (texts_in (accepted r.looked)) (all_written r.looked) twin short are_written written_of instrumented

  pub original : Program
  original = found.0

  pub originals : IsProgramOf (texts_in (accepted r.looked)) original
  unfolding original
  originals = found.1

  pub twins : TwinProgram original twin
  twins = twin_program (texts_in (accepted r.looked)) (all_written r.looked) original twin short are_written written_of originals instrumented

  pub marks : Entry → Marks
  marks = (have_marks original twin twins).0

  pub are_marks : AreMarks original twin marks
  unfolding marks
  are_marks = (have_marks original twin twins).1

  pub entries : (case : Case) → Contains r.plan.cases case → (es : List Entry) × AreEntries original case.threads es
  unfolding twin
  entries case there =
      let none : first_without twin (threads_of r.plan) ≡ None = sym (same_without twin (threads_of r.plan))
      ∙ ap (λ (p : Program). first_without p (threads_of r.plan)) (sym r.links.2) ∙ r.entries in
      let es = case_entries twin r.plan.cases none case there in
      let s = have_sides original twin marks twins are_marks in
      (es.0, entries_alike original twin (entry_alike original twin s.0 s.1) case.threads es.0 es.1)

  pub leaves : (case : Case) → Contains r.plan.cases case
      → Same twin marks (run original case (kept_of twin marks case (turns_in case))) (run twin case (turns_in case))
  leaves case there = let es = entries case there in runs_are_same original twin marks twins are_marks case es.0 es.1 (turns_in case)

  pub same_texts_kept : (k : ℕ) (case : Case) → slice_get r.plan.cases k ≡ Some case
      → case_text twin (1 + k) (case_end twin case (turns_in case)) ≡ case_text original (1 + k) (case_end original case (kept_of twin marks case (turns_in case)))
  same_texts_kept k case at = same_text original twin marks twins _ _ (leaves case (stands_in r.plan.cases k case at)) (1 + k)
