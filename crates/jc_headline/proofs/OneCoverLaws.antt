-- Words and contents have one work of `cover`: each of its decisions has one answer.
use Rattle.std.proofs.Common.{◌≡◌, ◌⊎◌, inl, inr, ℕ, List, [], ◌∷◌, length, Option, None, Some, refl, sym, ◌∙◌, ap, ap₂, subst, arith}
use Rattle.std.specs.List.{AllByRecursion}
use Rattle.std.specs.Option.{option_map}
use Rattle.std.proofs.lemmas.List.{take_all}
use Rattle.std.proofs.lemmas.Option.{none-some, same_Some}
use Rattle.jc_programs.specs.declared.program.Program.{Program}
use Rattle.jc_programs.specs.declared.program.ProbeInit.{ProbeInit}
use Rattle.jc_programs.specs.declared.run_plan.RunPlan.{RunPlan}
use Rattle.jc_programs.specs.declared.run_plan.ThreadLine.{ThreadLine}
use Rattle.jc_exec.specs.Store.{Store}
use Rattle.jc_exec.specs.Writing.{exec_text}
use Rattle.jc_exec.specs.declared.refusal.ExecRefusal.{ExecRefusal}
use Rattle.jc_run_plans.specs.Plans.{IsPlanText, FirstUnfit}
use Rattle.jc_link_programs.specs.Linking.{IsProgramOf, IsLinkRefusal, refused, one_name, one_id}
use Rattle.jc_link_programs.specs.declared.link_refusal.LinkRefusal.{LinkRefusal}
use Rattle.jc_link_programs.specs.declared.link_refusal.LinkRefusal.TheVariants as refusals
use Rattle.jc_link_programs.proofs.OneRefusalLaws.{one_refusal, program_or_refusal, same_program}
use Rattle.jc_link_programs.proofs.AnswerLaws.{class_at}
use Rattle.jc_link_laws.specs.TwinFiles.{IsShortFile}
use Rattle.jc_link_laws.proofs.SomeProgramLaws.{program_or_reason}
use Rattle.jc_machine_laws.specs.Frameless.{frameless}
use Rattle.jc_machine_model.specs.CaseText.{case_texts}
use Rattle.jc_command_work.specs.declared.status.Fault.TheVariants as fault
use Rattle.jc_command_work.specs.Step.{Word, Landed, IsFile, AreTexts, to_file, to_out}
use Rattle.jc_command_work.specs.Part.{End, done, refused as refused_end, never, deciding, making, reading, writing, reading_all, writing_all, ◌>>=◌}
use Rattle.jc_command_work.specs.Answered.{refusal_of}
use Rattle.jc_command_work.specs.Folders.{files_of}
use Rattle.jc_command_work.specs.OneWay.{OneDecision, HasOne}
use Rattle.jc_command_work.proofs.AnsweredLaws.{texts_read, has_files, all_files, decides}
use Rattle.jc_command_work.proofs.OneWork.{one_giving, one_ending, one_deciding, one_writing, one_reading, has_then, has_then_if, has_reading_all, has_writing_all}
use Rattle.jc_command_classes.specs.Instrument.{Decision}
use Rattle.jc_command_classes.specs.Report.{ReportedFile, AreItems, first_clash, changed_of, first_of_each_id, report_text}
use Rattle.jc_command_classes.specs.ReportSteps.{counted_classes}
use Rattle.jc_command_classes.proofs.CountedLaws.{are_counted, all_counted}
use Rattle.jc_command_classes.proofs.ReportLaws.{one_items, some_items, one_clash, no_clash_in_front}
use Rattle.jc_command_classes.proofs.InstrumentLaws.{one_decision, some_decision}
use Rattle.jc_command_run.specs.PairTexts.{same_name_text, same_id_text}
use Rattle.jc_command_run.specs.RunAnswers.{IsPlanEnd, IsRunProgram}
use Rattle.jc_command_run.specs.RunStore.{threads_of, first_without, run_store}
use Rattle.jc_command_run.proofs.StoreLaws.{same_frameless}
use Rattle.jc_command_run.proofs.RunLaws.{one_id as one_with_id, one_name as one_named}
use Rattle.jc_headline.specs.CoverWork.{Cover, LookedFile, AreLooked, all_file_writes, accepted, texts_in, targets, place_of, path_of, EndsAmongAll, IsLinkEnd, HaveEntries, IsEntryEnd, IsReportText, IsClashEnd, instrumenting, running, cover_work}
use Rattle.jc_headline.proofs.CoverRunLaws.{last_part, report_part, entry_part, link_part, look_part}
use Rattle.jc_headline.proofs.OriginalLaws.{all_short}
use Rattle.jc_headline.proofs.PartLaws.{instrumenting_over}

-- ---- a decision

-- ---- class files

abbrev looked_file : Word → List ℕ → Decision → LookedFile
looked_file f t d = record { file = f; bytes = t; decision = d }

one_looked : (paths : List Word) (read : List (List ℕ)) (a b : List LookedFile) → AreLooked paths read a → AreLooked paths read b → a ≡ b
one_looked [] [] a b p q = p ∙ sym q
one_looked [] (t ∷ ts) a b p q = absurd p
one_looked (f ∷ fs) [] a b p q = absurd p
one_looked (f ∷ fs) (t ∷ ts) a b (d, rest, is, parts, more) (d', rest', is', parts', more') =
    parts ∙ ap₂ (λ (x : Decision) (ls : List LookedFile). looked_file f t x ∷ ls) (one_decision t d d' is is') (one_looked fs ts rest rest' more more') ∙ sym parts'

some_looked : (paths : List Word) (read : List (List ℕ)) → AreTexts paths read → (ls : List LookedFile) × AreLooked paths read ls
some_looked [] [] are = ([], refl)
some_looked [] (t ∷ ts) are = absurd are
some_looked (f ∷ fs) [] are = absurd are
some_looked (f ∷ fs) (t ∷ ts) are =
    let d = some_decision t are.0 in
    let more = some_looked fs ts are.1 in
    (looked_file f t d.0 ∷ more.0, (d.0, more.0, d.1, refl, more.1))

looks : (paths : List Word) (read : List (List ℕ)) → AreTexts paths read → OneDecision (AreLooked paths read) never
looks paths read are = decides (AreLooked paths read) never (one_looked paths read) (λ e f none other. absurd none) (λ x e is none. none) (inl (some_looked paths read are))

short_texts : (ts : List (List ℕ)) → AllByRecursion IsFile ts → AllByRecursion IsShortFile ts
short_texts [] files = tt
short_texts (t ∷ ts) files = ((files.0.are_bytes, files.0.short), short_texts ts files.1)

pub file_texts : (ts : List (List ℕ)) → AllByRecursion IsShortFile ts → AllByRecursion IsFile ts
file_texts [] short = tt
file_texts (t ∷ ts) short = (record { are_bytes = short.0.0; short = short.0.1 }, file_texts ts short.1)

-- ---- run plans

-- each text is a run plan or has a first line that doesn't fit
pub record PlansAreOne : Type 0 where
  pub each : (text : List ℕ) → ((plan : RunPlan) × IsPlanText text plan) ⊎ ((line : ℕ) × FirstUnfit text line)
  pub apart : (text : List ℕ) (plan : RunPlan) (line : ℕ) → IsPlanText text plan → FirstUnfit text line → ⊥
  pub one_plan : (text : List ℕ) (p q : RunPlan) → IsPlanText text p → IsPlanText text q → p ≡ q
  pub one_line : (text : List ℕ) (m n : ℕ) → FirstUnfit text m → FirstUnfit text n → m ≡ n

plans : PlansAreOne → (path : Word) (text : List ℕ) → OneDecision (IsPlanText text) (IsPlanEnd path text)
plans laws path text =
    decides (IsPlanText text) (IsPlanEnd path text) (laws.one_plan text)
    (λ e f ends ends'. ends.2 ∙ ap (λ (n : ℕ). refusal_of path (fault.Plan n)) (laws.one_line text ends.0 ends'.0 ends.1 ends'.1) ∙ sym ends'.2)
    (λ p e is ends. laws.apart text p ends.0 is ends.1) (by (laws.each text))
  where
    by : ((plan : RunPlan) × IsPlanText text plan) ⊎ ((line : ℕ) × FirstUnfit text line) → ((plan : RunPlan) × IsPlanText text plan) ⊎ ((e : End) × IsPlanEnd path text e)
    by (inl p) = inl p
    by (inr l) = inr (refusal_of path (fault.Plan l.0), (l.0, l.1, refl))

-- ---- programs

module _ (looked : List LookedFile) (written : List (List ℕ)) where
  one_end_as : (r : LinkRefusal) (e f : End) → EndsAmongAll looked written r e → EndsAmongAll looked written r f → e ≡ f
  one_end_as (refusals.Class index why) e f p q = p ∙ sym q
  one_end_as (refusals.SameName first second) e f p q =
      p.2 ∙ ap (λ (n : List ℕ). refused_end (fault.SameName (place_of looked first) (place_of looked second))
      (same_name_text (path_of looked first) (path_of looked second) n)) (one_named written first p.0 q.0 p.1 q.1)
      ∙ sym q.2
  one_end_as (refusals.SameId first second) e f p q =
      p.2 ∙ ap (λ (n : ℕ). refused_end (fault.SameId (place_of looked first) (place_of looked second))
      (same_id_text (path_of looked first) (path_of looked second) n)) (one_with_id written first p.0 q.0 p.1 q.1)
      ∙ sym q.2

  some_end : (r : LinkRefusal) → IsLinkRefusal written r → (e : End) × EndsAmongAll looked written r e
  some_end _ (refused {index = i} {refusal = why} f) = (refusal_of (path_of looked i) (fault.Class (place_of looked i) why), refl)
  some_end _ (one_name {first = a} {second = b} names classes are pair) =
      let h = pair.there in
      let o = class_at names written classes are a h.a h.first_is in
      (_, (h.a.name, record { names = names; bytes = o.0; linked = h.a; stands = o.1; is = o.2; named = refl }, refl))
  some_end _ (one_id {first = a} {second = b} names classes are none pair) = by pair.there.a.probes refl pair.there.first_key
    where
      by : (p : Option ProbeInit) → pair.there.a.probes ≡ p → option_map (λ (i : ProbeInit). i.id) p ≡ Some pair.there.shared
          → (e : End) × EndsAmongAll looked written (refusals.SameId a b) e
      by None is key = absurd (none-some pair.there.shared key)
      by (Some init) is key =
          let o = class_at names written classes are a pair.there.a pair.there.first_is in
          (_, (init.id, record { names = names; bytes = o.0; linked = pair.there.a; init = init; stands = o.1; is = o.2; probes = is; id_is = refl }, refl))

  links : AllByRecursion IsShortFile written → OneDecision (IsRunProgram written) (IsLinkEnd looked written)
  links short =
      decides (IsRunProgram written) (IsLinkEnd looked written)
      (λ x y is is'. is.2 ∙ same_frameless is.0 is'.0 (same_program written is.0 is'.0 is.1 is'.1) ∙ sym is'.2)
      (λ e f ends ends'. one_end_as ends'.0 e f (subst (λ (r : LinkRefusal). EndsAmongAll looked written r e) (one_refusal written ends.0 ends'.0 ends.1 ends'.1) ends.2) ends'.2)
      (λ x e is ends. program_or_refusal written is.0 ends.0 is.1 ends.1) (by (program_or_reason written short))
    where
      by : ((p : Program) × IsProgramOf written p) ⊎ ((r : LinkRefusal) × IsLinkRefusal written r) → ((p : Program) × IsRunProgram written p) ⊎ ((e : End) × IsLinkEnd looked written e)
      by (inl p) = inl (frameless p.0, (p.0, p.1, refl))
      by (inr r) = let e = some_end r.0 r.1 in inr (e.0, (r.0, r.1, e.1))

-- ---- entries

begins : (path : Word) (program : Program) (plan : RunPlan) → OneDecision (HaveEntries program plan) (IsEntryEnd path program plan)
begins path program plan =
    decides (HaveEntries program plan) (IsEntryEnd path program plan) (λ x y is is'. refl)
    (λ e f ends ends'. ends.2 ∙ ap (λ (t : ThreadLine). refusal_of path (fault.NoEntry t.line)) (same_Some ends.0 ends'.0 (sym ends.1 ∙ ends'.1)) ∙ sym ends'.2)
    (λ x e is ends. none-some ends.0 (sym is ∙ ends.1)) (by (first_without program (threads_of plan)) refl)
  where
    by : (o : Option ThreadLine) → first_without program (threads_of plan) ≡ o → ((x : Unit {0}) × HaveEntries program plan x) ⊎ ((e : End) × IsEntryEnd path program plan e)
    by None is = inl (tt, is)
    by (Some t) is = inr (refusal_of path (fault.NoEntry t.line), (t, is, refl))

-- ---- the report

module _ (name exec : Word) (store : Store) (texts : List (List ℕ)) where
  one_text : (a b : List ℕ) → IsReportText name store texts a → IsReportText name store texts b → a ≡ b
  one_text a b p q =
      let items = one_items texts p.items q.items p.are q.are in
      p.is ∙ ap (report_text name) (all_counted store.classes (first_of_each_id (changed_of p.items)) p.counted p.are_counted
      ∙ ap (counted_classes store.classes) items
      ∙ sym (all_counted store.classes (first_of_each_id (changed_of q.items)) q.counted q.are_counted))
      ∙ sym q.is

  reports : AllByRecursion IsFile texts → OneDecision (IsReportText name store texts) (IsClashEnd exec store texts)
  reports files =
      decides (IsReportText name store texts) (IsClashEnd exec store texts) one_text
      (λ e f p q. p.2 ∙ ap (λ (r : ExecRefusal). refusal_of exec (fault.Exec 0 r)) (one_clash store.classes texts p.1.0 q.1.0 p.1.1 q.1.1 p.0 q.0 p.1.2 q.1.2 p.1.3 q.1.3) ∙ sym q.2)
      (λ x e is ends. no_clash_in_front store.classes texts ends.1.0 is.items ends.1.1 ends.0 is.are ends.1.2 is.fits ends.1.3)
      (let items = some_items texts files in by items.0 items.1 (first_clash store.classes items.0) refl)
    where
      by : (xs : List ReportedFile) → AreItems texts xs → (o : Option ExecRefusal) → first_clash store.classes xs ≡ o
          → ((x : List ℕ) × IsReportText name store texts x) ⊎ ((e : End) × IsClashEnd exec store texts e)
      by xs are None is = inl (
        report_text name (counted_classes store.classes xs),
        record {
          items = xs;
          are = are;
          fits = is;
          counted = counted_classes store.classes xs;
          are_counted = are_counted store.classes (first_of_each_id (changed_of xs));
          is = refl;
        },
      )
      by xs are (Some r) is =
          let all = take_all (length texts) texts (omega arith) in
          inr (refusal_of exec (fault.Exec 0 r), (r, (length texts, xs, subst (λ (ts : List (List ℕ)). AreItems ts xs) (sym all) are, is), refl))

-- ---- the work

module _ (laws : PlansAreOne) (landed : Landed) (c : Cover) where
  has_last : (plan : RunPlan) (program : Program) (csv : List ℕ) → HasOne landed (last_part c plan program csv)
  has_last plan program csv =
      has_then landed (writing (to_file c.csv csv)) _ (λ w told. one_writing landed w (to_file c.csv csv))
      (λ _. has_then landed (writing (to_out (case_texts program 1 plan.cases))) _ (λ w told. one_writing landed w (to_out (case_texts program 1 plan.cases))) (λ _ w told. one_ending landed w done))

  has_report : (plan : RunPlan) (looked : List LookedFile) (program : Program) → AllByRecursion IsFile (texts_in (accepted looked)) → HasOne landed (report_part c plan looked program)
  has_report plan looked program files =
      let store = run_store program plan in
      let exec = to_file c.exec (exec_text store) in
      has_then landed (writing exec) _ (λ w told. one_writing landed w exec)
      (λ _. has_then landed (deciding (IsReportText c.name store (texts_in (accepted looked))) (IsClashEnd c.exec store (texts_in (accepted looked)))) _
      (λ w told. one_deciding landed w _ _ (reports c.name c.exec store (texts_in (accepted looked)) files)) (λ csv. has_last plan program csv))

  has_entry : (plan : RunPlan) (looked : List LookedFile) (program : Program) → AllByRecursion IsFile (texts_in (accepted looked)) → HasOne landed (entry_part c plan looked program)
  has_entry plan looked program files =
      has_then landed (deciding (HaveEntries program plan) (IsEntryEnd c.plan program plan)) _ (λ w told. one_deciding landed
      w _ _ (begins c.plan program plan)) (λ _. has_report plan looked program files)

  has_link : (plan : RunPlan) (looked : List LookedFile) (written : List (List ℕ)) → AllByRecursion IsFile (texts_in (accepted looked)) → AllByRecursion IsShortFile written
      → HasOne landed (link_part c plan looked written)
  has_link plan looked written files short =
      has_then landed (deciding (IsRunProgram written) (IsLinkEnd looked written)) _ (λ w told. one_deciding landed w _ _ (links looked written short)) (λ program. has_entry plan looked program files)

  has_run : (plan : RunPlan) (looked : List LookedFile) → AllByRecursion IsFile (texts_in (accepted looked)) → HasOne landed (running c plan looked)
  has_run plan looked files =
      has_then_if landed (reading_all (targets c.dest looked)) (λ written. link_part c plan looked written)
      (has_reading_all landed (targets c.dest looked))
      (λ w steps written over fits. has_link plan looked written files
      (short_texts written (all_files (targets c.dest looked) written (texts_read landed w (targets c.dest looked) steps written over fits))))

  has_instrumenting : (paths : List Word) (read : List (List ℕ)) → AreTexts paths read → HasOne landed (instrumenting c.dest paths read)
  has_instrumenting paths read are =
      has_then landed (making (AreLooked paths read)) _ (λ w told. one_deciding landed w (AreLooked paths read) never (looks paths read are))
      (λ looked. has_then landed (writing_all (all_file_writes c.dest looked)) _ (has_writing_all landed (all_file_writes c.dest looked)) (λ _ w told. one_giving landed w looked))

  has_looked : (paths : List Word) (read : List (List ℕ)) (plan : RunPlan) → AreTexts paths read → HasOne landed (instrumenting c.dest paths read >>= (λ looked. running c plan looked))
  has_looked paths read plan are =
      has_then_if landed (instrumenting c.dest paths read) (λ looked. running c plan looked) (has_instrumenting paths read are)
      (λ w steps looked over fits.
      has_run plan looked (file_texts (texts_in (accepted looked))
      (all_short paths read looked (instrumenting_over landed w c.dest paths read looked steps over fits).0 (short_texts read (all_files paths read are)))))

  has_look : (text : List ℕ) (paths : List Word) (read : List (List ℕ)) → AreTexts paths read → HasOne landed (look_part c text paths read)
  has_look text paths read are =
      has_then landed (deciding (IsPlanText text) (IsPlanEnd c.plan text)) (λ plan. instrumenting c.dest paths read >>= (λ looked. running c plan looked))
      (λ w told. one_deciding landed w _ _ (plans laws c.plan text)) (λ plan. has_looked paths read plan are)

  has_read : (text : List ℕ) (paths : List Word) → HasOne landed (reading_all paths >>= (λ read. look_part c text paths read))
  has_read text paths =
      has_then_if landed (reading_all paths) (λ read. look_part c text paths read) (has_reading_all landed paths)
      (λ w steps read over fits. has_look text paths read (texts_read landed w paths steps read over fits))

  pub has_cover : HasOne landed (cover_work c)
  has_cover =
      has_then landed (reading c.plan) (λ text. files_of c.files >>= (λ paths. reading_all paths >>= (λ read. look_part c text paths read)))
      (λ w told. one_reading landed w c.plan told)
      (λ text. has_then landed (files_of c.files) (λ paths. reading_all paths >>= (λ read. look_part c text paths read)) (has_files landed c.files) (λ paths. has_read text paths))
