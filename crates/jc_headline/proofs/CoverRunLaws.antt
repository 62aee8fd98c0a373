-- A run of `cover` that is done went through all its parts.
use Rattle.std.proofs.Common.{◌≡◌, ℕ, List, [], ◌∷◌, ◌++◌, refl, sym, ◌∙◌, ap, subst}
use Rattle.jc_programs.specs.declared.program.Program.{Program}
use Rattle.jc_programs.specs.declared.run_plan.RunPlan.{RunPlan}
use Rattle.jc_exec.specs.Writing.{exec_text}
use Rattle.jc_run_plans.specs.Plans.{IsPlanText}
use Rattle.jc_link_programs.specs.declared.link_refusal.LinkRefusal.{LinkRefusal}
use Rattle.jc_link_programs.specs.declared.link_refusal.LinkRefusal.TheVariants as refusals
use Rattle.jc_machine_model.specs.CaseText.{case_texts}
use Rattle.jc_command_work.specs.declared.status.Fault.{Fault}
use Rattle.jc_command_work.specs.Step.{Word, Outside, Landed, Write, to_file, to_out, Step, Fit, after, after_write, IsRead}
use Rattle.jc_command_work.specs.Part.{done, refused, stops, Command, ending, deciding, reading, writing, reading_all, ◌>>=◌, ◌>>◌}
use Rattle.jc_command_work.specs.Ending.{CameTo}
use Rattle.jc_command_work.specs.Folders.{files_of}
use Rattle.jc_command_work.specs.Prefix.{after_writes}
use Rattle.jc_command_run.specs.RunAnswers.{IsPlanEnd, IsRunProgram}
use Rattle.jc_command_run.specs.RunStore.{run_store}
use Rattle.jc_headline.specs.CoverWork.{Cover, LookedFile, all_file_writes, accepted, accepted_texts, texts_in, targets, EndsAmongAll, IsLinkEnd, HaveEntries, IsEntryEnd, IsReportText, IsClashEnd, instrumenting, running, cover_work}
use Rattle.jc_headline.specs.Named.{AreNamed}
use Rattle.jc_headline.specs.CoverRun.{AreRead, AreDistinct, CoverRun}
use Rattle.jc_headline.proofs.PartLaws.{IsDone, IsDoneIn, quiet_reading, quiet_writing, quiet_deciding, quiet_reading_all, quiet_files, quiet_instrumenting, both, through, deciding_over, reading_over, writing_over, reading_all_over, files_over, instrumenting_over}

-- ---- no refusal is done

pub not_refused : (fault : Fault) (line : List ℕ) → done ≡ refused fault line → ⊥
not_refused fault line is = subst IsDone is tt

pub no_link_end : (looked : List LookedFile) (written : List (List ℕ)) → IsLinkEnd looked written done → ⊥
no_link_end looked written end = by end.0 end.2
  where
    by : (r : LinkRefusal) → EndsAmongAll looked written r done → ⊥
    by (refusals.Class index why) is = not_refused _ _ is
    by (refusals.SameName first second) is = not_refused _ _ is.2
    by (refusals.SameId first second) is = not_refused _ _ is.2

-- ---- `cover`

module _ (c : Cover) where
  -- the writes behind the execution data
  abbrev pub last_part : RunPlan → Program → List ℕ → Command
  last_part plan program csv = do
    writing (to_file c.csv csv)
    writing (to_out (case_texts program 1 plan.cases))
    ending done

  abbrev pub report_part : RunPlan → List LookedFile → Program → Command
  report_part plan looked program = do
    writing (to_file c.exec (exec_text (run_store program plan)))
    csv ← deciding (IsReportText c.name (run_store program plan) (texts_in (accepted looked))) (IsClashEnd c.exec (run_store program plan) (texts_in (accepted looked)))
    last_part plan program csv

  abbrev pub entry_part : RunPlan → List LookedFile → Program → Command
  entry_part plan looked program = do
    deciding (HaveEntries program plan) (IsEntryEnd c.plan program plan)
    report_part plan looked program

  -- behind what was read back
  abbrev pub link_part : RunPlan → List LookedFile → List (List ℕ) → Command
  link_part plan looked written = do
    program ← deciding (IsRunProgram written) (IsLinkEnd looked written)
    entry_part plan looked program

  abbrev pub instrument_part : RunPlan → List Word → List (List ℕ) → Command
  instrument_part plan paths read = do
    looked ← instrumenting c.dest paths read
    running c plan looked

  abbrev pub look_part : List ℕ → List Word → List (List ℕ) → Command
  look_part plan_text paths read = do
    plan ← deciding (IsPlanText plan_text) (IsPlanEnd c.plan plan_text)
    instrument_part plan paths read

module _ (landed : Landed) (c : Cover) where
  -- the report, and then the text of the cases
  abbrev last_writes : RunPlan → Program → List ℕ → List Write
  last_writes plan program csv = to_file c.csv csv ∷ to_out (case_texts program 1 plan.cases) ∷ []

  -- what stands behind the writes of the files
  abbrev Leaves : RunPlan → Program → List ℕ → Outside → Outside → Type 0
  Leaves plan program csv w new = new ≡ after_writes landed w (to_file c.exec (exec_text (run_store program plan)) ∷ last_writes plan program csv)

  -- it stands with a report on the accepted ones of these files
  abbrev LeavesReport : RunPlan → List LookedFile → Program → Outside → Outside → Type 0
  LeavesReport plan looked program w new = (csv : List ℕ) × IsReportText c.name (run_store program plan) (accepted_texts looked) csv × Leaves plan program csv w new

  last_over : (plan : RunPlan) (program : Program) (text : List ℕ) (w : Outside) (steps : List Step) → IsDoneIn landed (last_part c plan program text) w steps
      → after landed w steps ≡ after_writes landed w (last_writes plan program text)
  last_over plan program text w steps (is, fits) =
      let csv = to_file c.csv text in
      let out = to_out (case_texts program 1 plan.cases) in
      let a = both landed (writing csv) _ w steps (stops done) (through (writing csv) _ steps (quiet_writing csv) is) fits in
      let made = writing_over landed w csv a.value a.front a.first in
      let b = both landed (writing out) _ (after_write landed w csv) a.behind (stops done)
      (through (writing out) _ a.behind (quiet_writing out) a.next) (subst (λ (v : Outside). Fit landed v a.behind) made a.fits') in
      let made' = writing_over landed (after_write landed w csv) out b.value b.front b.first in
      a.stands ∙ ap (λ (v : Outside). after landed v a.behind) made ∙ b.stands ∙ ap (λ (v : Outside). after landed v b.behind) made'
      ∙ no_more b.behind (after_write landed (after_write landed w csv) out) b.next
    where
      no_more : (steps : List Step) (v : Outside) → ending {X = ⊥} done steps (stops done) → after landed v steps ≡ v
      no_more [] v is = refl
      no_more (s ∷ ss) v is = absurd is

  module _ (plan : RunPlan) (looked : List LookedFile) (program : Program) (w : Outside) where
    report_over : (steps : List Step) → IsDoneIn landed (report_part c plan looked program) w steps
        → LeavesReport plan looked program w (after landed w steps)
    report_over steps (is, fits) =
        let store = run_store program plan in
        let exec = to_file c.exec (exec_text store) in
        let Is = IsReportText c.name store (texts_in (accepted looked)) in
        let Ends = IsClashEnd c.exec store (texts_in (accepted looked)) in
        let quiet = quiet_deciding Is Ends (λ end. not_refused _ _ end.2) in
        let a = both landed (writing exec) _ w steps (stops done) (through (writing exec) _ steps (quiet_writing exec) is) fits in
        let made = writing_over landed w exec a.value a.front a.first in
        let w' = after_write landed w exec in
        let b = both landed (deciding Is Ends) _ w' a.behind (stops done) (through (deciding Is Ends) _ a.behind quiet a.next) (subst (λ (v : Outside). Fit landed v a.behind) made a.fits') in
        let (so, left) = deciding_over landed w' Is Ends b.value b.front b.first in
        let last = last_over plan program b.value w' b.behind (b.next, subst (λ (v : Outside). Fit landed v b.behind) left b.fits') in
        (b.value, so, a.stands ∙ ap (λ (v : Outside). after landed v a.behind) made ∙ b.stands ∙ ap (λ (v : Outside). after landed v b.behind) left ∙ last)

    entry_over : (steps : List Step) → IsDoneIn landed (entry_part c plan looked program) w steps
        → HaveEntries program plan tt × LeavesReport plan looked program w (after landed w steps)
    entry_over steps (is, fits) =
        let Is = HaveEntries program plan in
        let Ends = IsEntryEnd c.plan program plan in
        let quiet = quiet_deciding Is Ends (λ end. not_refused _ _ end.2) in
        let b = both landed (deciding Is Ends) _ w steps (stops done) (through (deciding Is Ends) _ steps quiet is) fits in
        let (so, left) = deciding_over landed w Is Ends b.value b.front b.first in
        let (csv, report, stands) = report_over b.behind (b.next, subst (λ (v : Outside). Fit landed v b.behind) left b.fits') in
        (so, (csv, report, b.stands ∙ ap (λ (v : Outside). after landed v b.behind) left ∙ stands))

  -- what was read back, linked and reported
  record Ran (plan : RunPlan) (looked : List LookedFile) (w new : Outside) : Type 0 where
    written : List (List ℕ)
    read_back : AreRead w.contents (targets c.dest looked) written
    program : Program
    links : IsRunProgram written program
    entries : HaveEntries program plan tt
    csv : List ℕ
    report : IsReportText c.name (run_store program plan) (texts_in (accepted looked)) csv
    stands : Leaves plan program csv w new

  run_over : (plan : RunPlan) (looked : List LookedFile) (w : Outside) (steps : List Step) → IsDoneIn landed (running c plan looked) w steps → Ran plan looked w (after landed w steps)
  run_over plan looked w steps (is, fits) =
      let a = both landed (reading_all (targets c.dest looked)) _ w steps (stops done) (through (reading_all (targets c.dest looked)) _ steps (quiet_reading_all (targets c.dest looked)) is) fits in
      let (back, left) = reading_all_over landed w (targets c.dest looked) a.value a.front a.first a.fits in
      let Is = IsRunProgram a.value in
      let Ends = IsLinkEnd looked a.value in
      let quiet = quiet_deciding Is Ends (no_link_end looked a.value) in
      let b = both landed (deciding Is Ends) _ w a.behind (stops done) (through (deciding Is Ends) _ a.behind quiet a.next) (subst (λ (v : Outside). Fit landed v a.behind) left a.fits') in
      let (links, left') = deciding_over landed w Is Ends b.value b.front b.first in
      let (entries, more) = entry_over plan looked b.value w b.behind (b.next, subst (λ (v : Outside). Fit landed v b.behind) left' b.fits') in
      record {
        written = a.value;
        read_back = back;
        program = b.value;
        links = links;
        entries = entries;
        csv = more.0;
        report = more.1;
        stands = a.stands ∙ ap (λ (v : Outside). after landed v a.behind) left ∙ b.stands ∙ ap (λ (v : Outside). after landed v b.behind) left' ∙ more.2;
      }

  after_writes-append : (w : Outside) (xs ys : List Write) → after_writes landed w (xs ++ ys) ≡ after_writes landed (after_writes landed w xs) ys
  after_writes-append w [] ys = refl
  after_writes-append w (x ∷ xs) ys = after_writes-append (after_write landed w x) xs ys

  abbrev Run : Outside → Outside → Type 0
  Run old new = CoverRun landed c old new

  moved : (old new new' : Outside) → new' ≡ new → Run old new → Run old new'
  moved old new new' same run = subst (λ (w : Outside). Run old w) (sym same) run

  module _ (old : Outside) (plan_text : List ℕ) (plan_read : IsRead old.contents c.plan plan_text) where
    module _ (paths : List Word) (distinct : AreDistinct paths) (named : AreNamed old.contents c.files paths) where
      instrument_over : (read : List (List ℕ)) → AreRead old.contents paths read → (plan : RunPlan) → IsPlanText plan_text plan → (steps : List Step)
          → IsDoneIn landed (instrument_part c plan paths read) old steps → Run old (after landed old steps)
      instrument_over read files_read plan is_plan steps (is, fits) =
          let part = instrumenting c.dest paths read in
          let h = both landed part (λ looked. running c plan looked) old steps (stops done) (through part (λ looked. running c plan looked) steps (quiet_instrumenting c.dest paths read) is) fits in
          let (looked_at, made) = instrumenting_over landed old c.dest paths read h.value h.front h.first h.fits in
          let w = after_writes landed old (all_file_writes c.dest h.value) in
          let ran = run_over plan h.value w h.behind (h.next, subst (λ (v : Outside). Fit landed v h.behind) made h.fits') in
          let behind = to_file c.exec (exec_text (run_store ran.program plan)) ∷ last_writes plan ran.program ran.csv in
          moved old (after_writes landed w behind) (after landed old steps) (h.stands ∙ ap (λ (v : Outside). after landed v h.behind) made ∙ ran.stands)
          (record {
            plan_text = plan_text;
            plan_read = plan_read;
            paths = paths;
            named = named;
            distinct = distinct;
            read = read;
            files_read = files_read;
            plan = plan;
            is_plan = is_plan;
            looked = h.value;
            looked_at = looked_at;
            written = ran.written;
            read_back = ran.read_back;
            program = ran.program;
            links = ran.links;
            entries = ran.entries;
            csv = ran.csv;
            report = ran.report;
            stands = sym (after_writes-append old (all_file_writes c.dest h.value) behind);
          })

      look_over : (read : List (List ℕ)) → AreRead old.contents paths read → (steps : List Step) → IsDoneIn landed (look_part c plan_text paths read) old steps
          → Run old (after landed old steps)
      look_over read files_read steps (is, fits) =
          let Is = IsPlanText plan_text in
          let Ends = IsPlanEnd c.plan plan_text in
          let rest = λ (plan : RunPlan). instrument_part c plan paths read in
          let e = both landed (deciding Is Ends) rest old steps (stops done) (through (deciding Is Ends) rest steps (quiet_deciding Is Ends (λ end. not_refused _ _ end.2)) is) fits in
          let (is_plan, left) = deciding_over landed old Is Ends e.value e.front e.first in
          moved old (after landed old e.behind) (after landed old steps) (e.stands ∙ ap (λ (v : Outside). after landed v e.behind) left)
          (instrument_over read files_read e.value is_plan e.behind (e.next, subst (λ (v : Outside). Fit landed v e.behind) left e.fits'))

      read_over : (steps : List Step) → IsDoneIn landed (reading_all paths >>= (λ read. look_part c plan_text paths read)) old steps → Run old (after landed old steps)
      read_over steps (is, fits) =
          let rest = λ (read : List (List ℕ)). look_part c plan_text paths read in
          let d = both landed (reading_all paths) rest old steps (stops done) (through (reading_all paths) rest steps (quiet_reading_all paths) is) fits in
          let (files_read, left) = reading_all_over landed old paths d.value d.front d.first d.fits in
          moved old (after landed old d.behind) (after landed old steps) (d.stands ∙ ap (λ (v : Outside). after landed v d.behind) left)
          (look_over d.value files_read d.behind (d.next, subst (λ (v : Outside). Fit landed v d.behind) left d.fits'))

    list_over : (steps : List Step) → IsDoneIn landed (files_of c.files >>= (λ paths. reading_all paths >>= (λ read. look_part c plan_text paths read))) old steps
        → Run old (after landed old steps)
    list_over steps (is, fits) =
        let rest = λ (paths : List Word). reading_all paths >>= (λ read. look_part c plan_text paths read) in
        let b = both landed (files_of c.files) rest old steps (stops done) (through (files_of c.files) rest steps (quiet_files c.files) is) fits in
        let ((distinct, named), left) = files_over landed old c.files b.value b.front b.first b.fits in
        moved old (after landed old b.behind) (after landed old steps) (b.stands ∙ ap (λ (v : Outside). after landed v b.behind) left)
        (read_over b.value distinct named b.behind (b.next, subst (λ (v : Outside). Fit landed v b.behind) left b.fits'))

  -- for every `landed`, what ran is what was read back
  pub cover_ran : (old new : Outside) → CameTo landed (cover_work c) old new (stops done) → CoverRun landed c old new
  cover_ran old new came =
      let rest = λ (plan_text : List ℕ). files_of c.files >>= (λ paths. reading_all paths >>= (λ read. look_part c plan_text paths read)) in
      let a = both landed (reading c.plan) rest old came.steps (stops done) (through (reading c.plan) rest came.steps (quiet_reading c.plan) came.comes) came.fit in
      let (plan_read, left) = reading_over landed old c.plan a.value a.front a.first a.fits in
      moved old (after landed old a.behind) new (came.stand ∙ a.stands ∙ ap (λ (v : Outside). after landed v a.behind) left)
      (list_over old a.value plan_read a.behind (a.next, subst (λ (v : Outside). Fit landed v a.behind) left a.fits'))
