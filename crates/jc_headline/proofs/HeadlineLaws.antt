-- The headline.
use Rattle.std.proofs.Common.{◌≡◌, ℕ, ◌+◌, List, Some, map, sym, ◌∙◌, ap, subst, arith}
use Rattle.std.specs.Prelude.{slice_get}
use Rattle.jc_outside.specs.Outside.{FileMap}
use Rattle.jc_programs.specs.declared.program.Program.{Program}
use Rattle.jc_report.specs.declared.row.Counted.{Counted}
use Rattle.jc_command_work.specs.Step.{Outside, Landed}
use Rattle.jc_command_work.proofs.Prefix.{done_means}
use Rattle.jc_command_classes.specs.Report.{changed_of, first_of_each_id}
use Rattle.jc_command_classes.specs.ReportSteps.{counted_by}
use Rattle.jc_command_classes.proofs.CountedLaws.{all_counted}
use Rattle.jc_command_run.specs.RunStore.{run_store}
use Rattle.jc_headline.specs.CoverWork.{Cover, accepted, accepted_texts, texts_in, cover_work}
use Rattle.jc_headline.specs.CoverRun.{CoverRun}
use Rattle.jc_headline.specs.Headline.{as_written, NamesApart, all_written, AreRows, Headline, HeadlineOf}
use Rattle.jc_headline.proofs.CoverRunLaws.{cover_ran}
use Rattle.jc_headline.proofs.FactLaws.{AreFacts, facts_of}
use Rattle.jc_headline.proofs.PassedLaws.{passes}
use Rattle.jc_headline.proofs.RowLaws.{none_left_out, rows_there}
use Rattle.jc_headline.proofs.RunMeaningLaws.{twin, instrumented, program_is, back, same_texts_kept, each_stands, data_written, report_written, printed, reasons_printed, store_is, short, written_of, are_written, original, originals, twins, marks, are_marks, entries, leaves}

module _ (c : Cover) (old new : Outside) (m : FileMap) (told : old.contents ≡ Some m) (r : CoverRun as_written c old new) (apart : NamesApart c) where
  abbrev before : Program
  before = original c old new m told r

  abbrev after : Program
  after = twin c old new m told r

  facts : AreFacts before.classes after.classes r.report.items
  facts =
      facts_of before.names after.names (texts_in (accepted r.looked)) (all_written r.looked) before.classes after.classes r.report.items
      (short c old new m told r) (are_written c old new m told r) (written_of c old new m told r)
      (originals c old new m told r).classes (instrumented c old new m told r).classes r.report.are

  -- the rows are those of the changed classes
  rows_are : r.report.counted ≡ map (counted_by (run_store after r.plan).classes) (changed_of r.report.items)
  rows_are =
      all_counted (run_store r.program r.plan).classes (first_of_each_id (changed_of r.report.items)) r.report.counted r.report.are_counted
      ∙ ap (λ s. map (counted_by s.classes) (first_of_each_id (changed_of r.report.items))) (store_is c old new m told r)
      ∙ ap (map (counted_by (run_store after r.plan).classes)) (none_left_out before.classes after.classes r.report.items (instrumented c old new m told r).ids facts)

  ran : AreRows before after (marks c old new m told r) r.plan (accepted_texts r.looked) r.report.counted
  ran =
      subst (λ (rows : List Counted). AreRows before after (marks c old new m told r) r.plan (accepted_texts r.looked) rows) (sym rows_are)
      (rows_there before after (marks c old new m told r) r.plan (twins c old new m told r) (are_marks c old new m told r)
      (entries c old new m told r) (instrumented c old new m told r).ids 0 (accepted_texts r.looked) before.classes after.classes r.report.items
      (λ i l at. let e : 0 + i ≡ i = omega arith in ap (slice_get before.classes) e ∙ at)
      (λ i n at. let e : 0 + i ≡ i = omega arith in ap (slice_get after.classes) e ∙ at) facts r.report.are)

  pub headline : Headline as_written c old new r
  headline = record {
    before = before;
    originals = originals c old new m told r;
    after = after;
    instrumented = instrumented c old new m told r;
    twins = twins c old new m told r;
    marks = marks c old new m told r;
    are_marks = are_marks c old new m told r;
    read_back = back c old new m told r;
    program = program_is c old new m told r;
    prints = printed c old new m told r;
    same_text = same_texts_kept c old new m told r;
    leaves = leaves c old new m told r;
    written_data = data_written c old new m told r apart.results;
    passed = passes before after (marks c old new m told r) r.plan (twins c old new m told r) (are_marks c old new m told r) (entries c old new m told r);
    rows = r.report.counted;
    reports = report_written c old new m told r;
    ran = ran;
    stand = each_stands c old new m told r apart;
    reasons = reasons_printed c old new m told r;
  }

headline_of : HeadlineOf as_written
headline_of c old new f f' told apart ends =
    let run = cover_ran as_written c old new (done_means as_written (cover_work c) old new f f' ends).1 in
    (run, headline c old new told.0 told.1 run apart)

pub each_headline : (landed : Landed) → ((path bytes : List ℕ) → landed path bytes ≡ bytes) → HeadlineOf landed
each_headline landed same = let e : landed ≡ as_written = (λ i path bytes. same path bytes i) in subst HeadlineOf (sym e) headline_of
