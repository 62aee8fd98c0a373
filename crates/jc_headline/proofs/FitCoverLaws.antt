-- A cover that fits comes to its end, and the headline holds of what it leaves.
use Rattle.std.proofs.Common.{◌≡◌, ◌≢◌, ℕ, ◌+◌, List, [], ◌∷◌, map, Option, None, refl, sym, ◌∙◌, ap, subst, arith}
use Rattle.std.specs.Prelude.{slice_get}
use Rattle.std.specs.List.{AllByRecursion}
use Rattle.jc_bytes.specs.ByteLists.{AreBytes}
use Rattle.jc_outside.specs.Outside.{FileMap}
use Rattle.jc_paths.specs.Paths.{in_folder}
use Rattle.jc_programs.specs.declared.program.Program.{Program}
use Rattle.jc_twin_programs.specs.TwinProgram.{TwinProgram}
use Rattle.jc_exec.specs.Store.{Store}
use Rattle.jc_exec.specs.Writing.{exec_text}
use Rattle.jc_run_plans.specs.Plans.{IsPlanText}
use Rattle.jc_link_programs.specs.Linking.{IsProgramOf}
use Rattle.jc_link_laws.specs.TwinFiles.{AreWrittenOf, IsShortFile}
use Rattle.jc_link_laws.proofs.TwinLinkLaws.{twin_program}
use Rattle.jc_machine_laws.specs.Frameless.{frameless}
use Rattle.jc_machine_model.specs.CaseText.{case_texts}
use Rattle.jc_command_work.specs.declared.status.Status.{Status}
use Rattle.jc_command_work.specs.declared.status.Status.TheVariants as status
use Rattle.jc_command_work.specs.Step.{Word, Outside, Counts, Landed, Write, to_file, to_out, after, after_write}
use Rattle.jc_command_work.specs.Part.{done, gives, stops, deciding, reading, writing, reading_all}
use Rattle.jc_command_work.specs.Ending.{CameTo, Ends, NoneRose}
use Rattle.jc_command_work.specs.Folders.{files_of}
use Rattle.jc_command_work.specs.OneWay.{Work, IsWork}
use Rattle.jc_command_work.specs.Prefix.{after_writes}
use Rattle.jc_command_work.proofs.Behind.{came_then}
use Rattle.jc_command_work.proofs.Reaching.{was_decided}
use Rattle.jc_command_classes.specs.Report.{ReportedFile, AreItems, changed_of, first_of_each_id, first_clash, report_text}
use Rattle.jc_command_classes.specs.ReportSteps.{counted_classes}
use Rattle.jc_command_classes.proofs.CountedLaws.{are_counted}
use Rattle.jc_command_classes.proofs.ReportLaws.{some_items}
use Rattle.jc_command_run.specs.RunAnswers.{IsPlanEnd, IsRunProgram}
use Rattle.jc_command_run.specs.RunStore.{threads_of, run_store}
use Rattle.jc_command_run.proofs.StoreLaws.{same_store, same_without}
use Rattle.jc_headline.specs.CoverWork.{Cover, all_file_writes, accepted_texts, targets, IsLinkEnd, HaveEntries, IsEntryEnd, IsReportText, IsClashEnd, instrumenting, running, cover_work}
use Rattle.jc_headline.specs.CoverRun.{AreRead, AreDistinct, CoverRun}
use Rattle.jc_headline.specs.Headline.{as_written, NamesApart, all_written}
use Rattle.jc_headline.specs.Runs.{ToldRun, MakesItsWork}
use Rattle.jc_headline.proofs.CoverRunLaws.{report_part, look_part}
use Rattle.jc_headline.proofs.DistinctLaws.{distinct_targets, looked_files}
use Rattle.jc_headline.proofs.FactLaws.{facts_of}
use Rattle.jc_headline.proofs.HeadlineLaws.{headline}
use Rattle.jc_headline.proofs.OneCoverLaws.{file_texts}
use Rattle.jc_headline.proofs.OriginalLaws.{all_written_of, all_short}
use Rattle.jc_headline.proofs.PartLaws.{files_over}
use Rattle.jc_headline.proofs.RunMeaningLaws.{files_short}
use Rattle.jc_headline.proofs.WriteLaws.{all_targets, contents_after, map_after, stand}
use Rattle.jc_headline.specs.Named.{named_paths, AreNamed}
use Rattle.jc_headline.specs.FitCover.{IsFitCover, FitCoversHaveWork, FitCoversAreDone, HasHeadline}
use Rattle.jc_headline.proofs.AgainLaws.{linked_again, same_first}
use Rattle.jc_headline.proofs.CameLaws.{was_done, was_read, were_read, was_written, was_instrumented, were_files, writes-append}
use Rattle.jc_headline.proofs.FitReportLaws.{counts_of, none_clashes}
use Rattle.jc_headline.proofs.NamedLaws.{are_named}
use Rattle.jc_headline.proofs.StoredLaws.{bytes_written, short_files, read_back}

-- a run all of whose steps were made ends as its work does
abbrev pub EndsAsWork : Type 0
EndsAsWork = (landed : Landed) (c : Cover) (run : ToldRun landed (cover_work c)) → NoneRose run.old_counts run.new_counts → run.ended ≢ status.Memory → MakesItsWork run

module _ (c : Cover) (old : Outside) (fit : IsFitCover c old) where
  abbrev paths : List Word
  paths = named_paths fit.contents c.files

  -- the accepted originals, and what is written of them
  abbrev texts : List (List ℕ)
  texts = accepted_texts fit.looked

  abbrev written : List (List ℕ)
  written = all_written fit.looked

  -- ---- the files

  named : CameTo as_written (files_of c.files) old old (gives paths)
  named = were_files as_written old fit.contents fit.told c.files

  distinct : AreDistinct paths
  distinct = (files_over as_written old c.files paths named.steps named.comes named.fit).0.0

  read_short : AllByRecursion IsShortFile fit.read
  read_short = files_short old.contents paths fit.read fit.files_read

  short : AllByRecursion IsShortFile texts
  short = all_short paths fit.read fit.looked fit.looked_at read_short

  bytes : AllByRecursion AreBytes written
  bytes = bytes_written paths fit.read fit.looked fit.looked_at read_short

  written_short : AllByRecursion IsShortFile written
  written_short = short_files written bytes fit.short

  written_of : AreWrittenOf texts written
  written_of = all_written_of paths fit.read fit.looked fit.looked_at read_short

  -- ---- the programs

  found : (after : Program) × IsProgramOf written after
  found = linked_again texts written fit.before short bytes written_of fit.originals written_short fit.again

  twin : Program
  twin = found.0

  instrumented : IsProgramOf written twin
  unfolding twin
  instrumented = found.1

  twins : TwinProgram fit.before twin
  twins = twin_program texts written fit.before twin short bytes written_of fit.originals instrumented

  -- what runs
  abbrev program : Program
  program = frameless twin

  entries : HaveEntries program fit.plan tt
  entries = same_without twin (threads_of fit.plan) ∙ same_first fit.before twin twins (threads_of fit.plan) ∙ fit.entries

  -- ---- the report

  abbrev store : Store
  store = run_store program fit.plan

  some : (items : List ReportedFile) × AreItems texts items
  some = some_items texts (file_texts texts short)

  items : List ReportedFile
  items = some.0

  are_items : AreItems texts items
  unfolding items
  are_items = some.1

  fits : first_clash store.classes items ≡ None
  fits =
      ap (λ (s : Store). first_clash s.classes items) (same_store twin fit.plan)
      ∙ none_clashes twin fit.plan instrumented.ids 0 fit.before.classes twin.classes items (λ i n at. let e : 0 + i ≡ i = omega arith in ap (slice_get twin.classes) e ∙ at)
      (facts_of fit.before.names twin.names texts written fit.before.classes twin.classes items short bytes written_of fit.originals.classes instrumented.classes are_items)
      (counts_of fit.before.names twin.names texts written fit.before.classes twin.classes items short bytes written_of fit.originals.classes instrumented.classes are_items)

  csv : List ℕ
  csv = report_text c.name (counted_classes store.classes items)

  report : IsReportText c.name store texts csv
  unfolding csv
  report = record {
    items = items;
    are = are_items;
    fits = fits;
    counted = counted_classes store.classes items;
    are_counted = are_counted store.classes (first_of_each_id (changed_of items));
    is = refl;
  }

  -- ---- the outside

  -- where the files stand in the folder
  abbrev filled : Outside
  filled = after_writes as_written old (all_file_writes c.dest fit.looked)

  -- and at the end
  abbrev behind : List Write
  behind = to_file c.exec (exec_text store) ∷ to_file c.csv csv ∷ to_out (case_texts program 1 fit.plan.cases) ∷ []

  abbrev last : Outside
  last = after_writes as_written filled behind

  apart : AreDistinct (all_targets c.dest fit.looked)
  apart = subst (λ (l : List Word). AreDistinct (map (in_folder c.dest) l)) (sym (looked_files paths fit.read fit.looked fit.looked_at)) (distinct_targets c.dest paths distinct)

  back : AreRead filled.contents (targets c.dest fit.looked) written
  back =
      let m = map_after fit.contents (all_file_writes c.dest fit.looked) in
      subst (λ (o : Option FileMap). AreRead o (targets c.dest fit.looked) written) (sym (contents_after old fit.contents (all_file_writes c.dest fit.looked) fit.told))
      (read_back c.dest m fit.looked (stand c.dest fit.contents fit.looked apart) written_short)

  -- ---- the parts of the work

  came_report : CameTo as_written (report_part c fit.plan fit.looked program) filled last (stops done)
  came_report =
      let exec = to_file c.exec (exec_text store) in
      let out = to_out (case_texts program 1 fit.plan.cases) in
      let w = after_write as_written filled exec in
      let v = after_write as_written w (to_file c.csv csv) in
      came_then as_written (writing exec) _ filled tt w last (stops done) (was_written as_written filled exec)
      (came_then as_written (deciding (IsReportText c.name store texts) (IsClashEnd c.exec store texts)) _ w csv w last (stops done) (was_decided as_written _ _ w csv report)
      (came_then as_written (writing (to_file c.csv csv)) _ w tt v last (stops done) (was_written as_written w (to_file c.csv csv))
      (came_then as_written (writing out) _ v tt last last (stops done) (was_written as_written v out) (was_done as_written last))))

  came_run : CameTo as_written (running c fit.plan fit.looked) filled last (stops done)
  came_run =
      came_then as_written (reading_all (targets c.dest fit.looked)) _ filled written filled last (stops done) (were_read as_written filled (targets c.dest fit.looked) written back)
      (came_then as_written (deciding (IsRunProgram written) (IsLinkEnd fit.looked written)) _ filled program filled last (stops done)
      (was_decided as_written _ _ filled program (twin, instrumented, refl))
      (came_then as_written (deciding (HaveEntries program fit.plan) (IsEntryEnd c.plan program fit.plan)) _ filled tt filled last (stops done)
      (was_decided as_written _ _ filled tt entries) came_report))

  came_look : CameTo as_written (look_part c fit.plan_text paths fit.read) old last (stops done)
  came_look =
      came_then as_written (deciding (IsPlanText fit.plan_text) (IsPlanEnd c.plan fit.plan_text)) _ old fit.plan old last (stops done)
      (was_decided as_written _ _ old fit.plan fit.is_plan)
      (came_then as_written (instrumenting c.dest paths fit.read) _ old fit.looked filled last (stops done)
      (was_instrumented as_written old c.dest paths fit.read fit.looked fit.looked_at) came_run)

  came : CameTo as_written (cover_work c) old last (stops done)
  came =
      came_then as_written (reading c.plan) _ old fit.plan_text old last (stops done) (was_read as_written old c.plan fit.plan_text fit.plan_read)
      (came_then as_written (files_of c.files) _ old paths old last (stops done) named
      (came_then as_written (reading_all paths) _ old fit.read old last (stops done) (were_read as_written old paths fit.read fit.files_read) came_look))

  -- ---- the work, and what it leaves

  abbrev work : Work
  work = record { steps = came.steps; end = done }

  is_work : IsWork as_written (cover_work c) old work
  is_work = (came.comes, came.fit)

  abbrev run_of : (new : Outside) → new ≡ last → CoverRun as_written c old new
  run_of new is = record {
    plan_text = fit.plan_text;
    plan_read = fit.plan_read;
    paths = paths;
    named = subst (λ (o : Option FileMap). AreNamed o c.files paths) (sym fit.told) (are_named fit.contents c.files);
    distinct = distinct;
    read = fit.read;
    files_read = fit.files_read;
    plan = fit.plan;
    is_plan = fit.is_plan;
    looked = fit.looked;
    looked_at = fit.looked_at;
    written = written;
    read_back = back;
    program = program;
    links = (twin, instrumented, refl);
    entries = entries;
    csv = csv;
    report = report;
    stands = is ∙ sym (writes-append as_written old (all_file_writes c.dest fit.looked) behind);
  }

  holds : (new : Outside) → new ≡ last → NamesApart c → HasHeadline as_written c old new fit
  holds new is other = let r = run_of new is in (r, refl, refl, headline c old new fit.contents fit.told r other)

  is_done : EndsAsWork → (new : Outside) (f f' : Counts) (s : Status) → NamesApart c → Ends as_written (cover_work c) old new f f' s → NoneRose f f' → s ≢ status.Memory
      → (s ≡ status.Done) × HasHeadline as_written c old new fit
  is_done ends new f f' s other is none not =
      let run : ToldRun as_written (cover_work c) = record {
        old = old;
        new = new;
        old_counts = f;
        new_counts = f';
        ended = s;
        work = work;
        told = (fit.contents, fit.told);
        is_work = is_work;
        ends = is;
      } in
      let (same, (kept, stands)) = ends as_written c run none not in
      (same, holds new (stands ∙ sym came.stand) other)

-- ---- where files read back as they were written

module _ (landed : Landed) (same : (path bytes : List ℕ) → landed path bytes ≡ bytes) where
  as_is : landed ≡ as_written
  as_is = λ i path bytes. same path bytes i

  pub each_has_work : FitCoversHaveWork landed
  each_has_work = subst FitCoversHaveWork (sym as_is) (λ c old fit. (work c old fit, is_work c old fit, refl))

  pub each_is_done : EndsAsWork → FitCoversAreDone landed
  each_is_done ends = subst FitCoversAreDone (sym as_is) (λ c old new f f' s fit other is none not. is_done c old fit ends new f f' s other is none not)
