-- A sample is done.
use Rattle.std.proofs.Common.{◌≡◌, ◌⊎◌, inl, inr, ℕ, zero, suc, ◌+◌, ◌*◌, ◌≤◌, Bool, true, false, List, [], ◌∷◌, length, Option, Some, None, refl, sym, ◌∙◌, ap, subst, arith}
use Rattle.std.specs.Prelude.{slice_get}
use Rattle.std.specs.Option.{option_or}
use Rattle.std.proofs.lemmas.Option.{none-some}
use Rattle.jc_bytes.specs.ByteLists.{AreBytes}
use Rattle.jc_bytes.specs.declared.refusal.Refusal.{Refusal}
use Rattle.jc_methods.specs.WellMade.{most_slots}
use Rattle.jc_methods.specs.declared.analysed.Analysed.{Analysed}
use Rattle.jc_programs.specs.declared.program.Program.{Program}
use Rattle.jc_twin_programs.specs.TwinProgram.{TwinProgram}
use Rattle.jc_class.specs.ClassText.{ClassText}
use Rattle.jc_class.specs.declared.class_file.ClassFile.{ClassFile}
use Rattle.jc_class.specs.declared.class_file.Member.{Member}
use Rattle.jc_class.proofs.FirstBadLaws.{apart, one_class_of}
use Rattle.jc_body.specs.Coded.{IsCoded}
use Rattle.jc_body.specs.declared.coded.Coded.{Coded}
use Rattle.jc_body.proofs.CodedLaws.{one_coded}
use Rattle.jc_exec.specs.declared.hits.ClassHits.{ClassHits}
use Rattle.jc_exec.specs.declared.refusal.ExecRefusal.{ExecRefusal}
use Rattle.jc_exec.specs.Store.{Store}
use Rattle.jc_instrument.specs.Analysis.{IsAnalysis}
use Rattle.jc_instrument.specs.Causes.{IsFirstCause}
use Rattle.jc_instrument.specs.InstrumentedFile.{IsInstrumentedFile, Becomes}
use Rattle.jc_instrument.specs.LeftAlone.{is_left_alone}
use Rattle.jc_instrument.specs.declared.whole.Instrumented.{Instrumented}
use Rattle.jc_instrument.proofs.CauseLaws.{first_or_none}
use Rattle.jc_link_programs.specs.Linking.{IsProgramOf, IsLinkRefusal, LinkReason, link_causes}
use Rattle.jc_link_programs.specs.declared.link_refusal.LinkRefusal.{LinkRefusal}
use Rattle.jc_link_programs.proofs.OneRefusalLaws.{program_or_refusal}
use Rattle.jc_link_laws.specs.SecondLinking.{IsSecondRefusal}
use Rattle.jc_link_laws.specs.TwinFiles.{AreWrittenOf, IsShortFile}
use Rattle.jc_link_laws.proofs.SomeProgramLaws.{program_or_reason}
use Rattle.jc_link_laws.proofs.TwinLinkLaws.{twin_program}
use Rattle.jc_link_laws.proofs.WrittenFileLaws.{written_of}
use Rattle.jc_machine_laws.specs.Frameless.{frameless as without_frames}
use Rattle.jc_command_work.specs.Step.{Step, to_out}
use Rattle.jc_command_work.specs.Part.{End, done, gives, stops, Part, ending, deciding, writing, ◌>>=◌}
use Rattle.jc_command_work.specs.Causes.{EndsIn}
use Rattle.jc_command_work.proofs.CauseLaws.{ends_then, ends_giving, ends_deciding, ends_ending, ends_writing_all}
use Rattle.jc_command_classes.specs.Report.{ReportedFile, changed_class, is_changed, frameless, record_of, clash_with}
use Rattle.jc_command_run.specs.RunAnswers.{IsRunProgram}
use Rattle.jc_command_run.specs.RunStore.{threads_of, first_without, run_store}
use Rattle.jc_command_run.proofs.StoreLaws.{same_store, same_without}
use Rattle.jc_headline.specs.FewSlots.{DifferInId, UsesFewSlots}
use Rattle.jc_headline.proofs.AgainLaws.{linked_again, same_first}
use Rattle.jc_headline.proofs.FactLaws.{facts_of}
use Rattle.jc_headline.proofs.FewSlotsLaws as slots
use Rattle.jc_headline.proofs.FitReportLaws.{counts_of, none_clashes}
use Rattle.jc_command_sample.specs.SampleFile.{sample_file}
use Rattle.jc_command_sample.specs.SamplePlan.{sample_plan}
use Rattle.jc_command_sample.specs.SampleWork.{IsRefusedEnd, IsReadable, IsLongEnd, IsUnlinkedEnd, HaveEntries, IsEntryEnd, AreCounters, IsClashEnd, sample_text, linking, counting, running, sample_line, sample_work}
use Rattle.jc_command_sample.proofs.BytesLaws.{sample_bytes, sample_short}
use Rattle.jc_command_sample.proofs.OneFileLaws.{alone_refused, refuses_alone}
use Rattle.jc_command_sample_laws.specs.SampleClass.{sample_method, sample_class_file}
use Rattle.jc_command_sample_laws.proofs.SampleTextLaws.{sample_is_text}
use Rattle.jc_command_sample_laws.proofs.SampleBodyLaws.{sample_coded, is_coded}
use Rattle.jc_command_sample_laws.proofs.SampleExactLaws.{method_below, not_alone}
use Rattle.jc_command_sample_laws.proofs.SampleEntriesLaws.{entries}
use Rattle.jc_command_sample_laws.proofs.NoCauseLaws.{never_version, no_code_cause, not_refused}
use Rattle.jc_command_sample_laws.proofs.WrittenSampleLaws.{has_pool_room, file_short}

-- ---- parts

-- what is decided is so
decided : {X : Type 0} (Is : X → Type 0) (Ends : End → Type 0) (steps : List Step) (x : X) → deciding Is Ends steps (gives x) → Is x
decided Is Ends [] x is = is
decided Is Ends (s ∷ steps) x is = absurd is

-- the second part, where the first one gives this
ends_if : {X Y : Type 0} (Is : End → Type 0) (p : Part X) (q : X → Part Y) → EndsIn Is p → ((steps : List Step) (x : X) → p steps (gives x) → EndsIn Is (q x)) → EndsIn Is (p >>= q)
ends_if Is p q first second steps end (inl within) = first steps end within
ends_if Is p q first second steps end (inr h) = second h.front h.value h.over h.behind end h.goes_on

-- a part that gives this behind another one
given_behind : {X Y : Type 0} (p : Part X) (Is : Y → Type 0) (Ends : End → Type 0) (steps : List Step) (y : Y) → (p >>= (λ _. deciding Is Ends)) steps (gives y) → Is y
given_behind p Is Ends steps y (inl within) = absurd within
given_behind p Is Ends steps y (inr h) = decided Is Ends h.behind y h.goes_on

same_clash : (a : Analysed) (o : Option ClassHits) → clash_with (frameless a) o ≡ clash_with a o
same_clash a None = refl
same_clash a (Some r) = refl

no_first : (o : Option ExecRefusal) → option_or o None ≡ None → o ≡ None
no_first None e = refl
no_first (Some r) e = e

module _ (n : ℕ) (some : 1 ≤ n) (within : n ≤ 1000) where
  abbrev bytes : List ℕ
  bytes = sample_file n

  abbrev c : ClassFile
  c = sample_class_file n

  is_text : ClassText bytes c
  is_text = sample_is_text n some within

  short : IsShortFile bytes
  short = (sample_bytes n within, sample_short n within)

  -- ---- the class is linked

  no_link_reason : (why : Refusal) → LinkReason bytes (Some why) → ⊥
  no_link_reason why (inl bad) = apart bytes c why.place is_text bad.1
  no_link_reason why (inr first) =
      first_or_none (link_causes c) why (never_version n, no_code_cause n some within)
      (subst (λ (x : ClassFile). IsFirstCause (link_causes x) why) (one_class_of bytes first.0 c first.1 is_text) first.2)

  before : (p : Program) × IsProgramOf (bytes ∷ []) p
  before = by (program_or_reason (bytes ∷ []) (short, tt))
    where
      by : ((p : Program) × IsProgramOf (bytes ∷ []) p) ⊎ ((r : LinkRefusal) × IsLinkRefusal (bytes ∷ []) r) → (p : Program) × IsProgramOf (bytes ∷ []) p
      by (inl p) = p
      by (inr r) = let alone = alone_refused bytes r.0 r.1 in absurd (no_link_reason alone.0 alone.1)

  -- ---- what is written of it is linked

  few_slots : UsesFewSlots bytes
  few_slots x text number method at coded is =
      let same = one_class_of bytes x c text is_text in
      let found = method_below n within number method (subst (λ (f : ClassFile). slice_get f.methods number ≡ Some method) same at) in
      let less = found.0 in
      let one = one_coded c.pool (sample_method number) coded (sample_coded number)
      (subst (λ (m : Member). IsCoded c.pool m coded) (sym found.1) (subst (λ (f : ClassFile). IsCoded f.pool method coded) same is)) (is_coded n number (omega (arith, less, within))) in
      subst (λ (d : Coded). 65535 * (d.items.max_locals + d.items.max_stack + 4) ≤ most_slots) (sym one) (omega arith)

  differ : DifferInId (bytes ∷ [])
  differ first zero a b less p q changed too same = omega (arith, less)
  differ first (suc second) a b less p q changed too same = none-some b q

  module _ (a : Instrumented) (is : IsInstrumentedFile bytes a) where
    new_are : AreBytes a.bytes
    new_are = by (is_left_alone is.file) is.becomes
      where
        by : (t : Bool) → Becomes t bytes is.file a → AreBytes a.bytes
        by true given = subst AreBytes (sym given.same) short.0
        by false probed = probed.are_bytes

    new_short : IsShortFile a.bytes
    new_short = (new_are, file_short n some within a is)

    written : AreWrittenOf (bytes ∷ []) (a.bytes ∷ [])
    written = (written_of bytes a short.0 short.1 is, tt)

    again : (r : LinkRefusal) → IsSecondRefusal (bytes ∷ []) (a.bytes ∷ []) r → ⊥
    again = slots.not_refused (bytes ∷ []) (a.bytes ∷ []) (few_slots, tt) differ

    after : (q : Program) × IsProgramOf (a.bytes ∷ []) q
    after = linked_again (bytes ∷ []) (a.bytes ∷ []) before.0 (short, tt) (new_are, tt) written before.1 (new_short, tt) again

    not_unlinked : (why : Refusal) → LinkReason a.bytes (Some why) → ⊥
    not_unlinked why reason = program_or_refusal (a.bytes ∷ []) after.0 _ after.1 (refuses_alone a.bytes why reason)

    -- ---- it runs

    module _ (program : Program) (runs : IsRunProgram (a.bytes ∷ []) program) where
      p : Program
      p = runs.0

      is_p : IsProgramOf (a.bytes ∷ []) p
      unfolding p
      is_p = runs.1

      frameless_is : program ≡ without_frames p
      unfolding p
      frameless_is = runs.2

      twins : TwinProgram before.0 p
      twins = twin_program (bytes ∷ []) (a.bytes ∷ []) before.0 p (short, tt) (new_are, tt) written before.1 is_p

      have_entries : first_without program (threads_of (sample_plan n)) ≡ None
      have_entries =
          ap (λ (x : Program). first_without x (threads_of (sample_plan n))) frameless_is
          ∙ same_without p (threads_of (sample_plan n))
          ∙ same_first before.0 p twins (threads_of (sample_plan n))
          ∙ entries n some within before.0 before.1

      -- no record clashes with the class
      module _ (class : Analysed) (analysed : IsAnalysis bytes class) where
        changes : is_left_alone analysed.file ≡ false
        changes = ap is_left_alone (one_class_of bytes analysed.file c analysed.text is_text) ∙ not_alone n some

        abbrev items : List ReportedFile
        items = changed_class (frameless class) ∷ []

        fits_in : clash_with (frameless class) (record_of (run_store p (sample_plan n)).classes class.id) ≡ None
        fits_in =
            no_first (clash_with (frameless class) (record_of (run_store p (sample_plan n)).classes class.id))
            (none_clashes p (sample_plan n) is_p.ids 0 (before.0).classes p.classes items (λ i x at. (let e : 0 + i ≡ i = omega arith in ap (slice_get p.classes) e ∙ at))
            (facts_of (before.0).names p.names (bytes ∷ []) (a.bytes ∷ []) (before.0).classes p.classes items (short, tt) (new_are, tt) written (before.1).classes is_p.classes
            (is_changed class analysed changes, tt))
            (counts_of (before.0).names p.names (bytes ∷ []) (a.bytes ∷ []) (before.0).classes p.classes items (short, tt) (new_are, tt) written (before.1).classes is_p.classes
            (is_changed class analysed changes, tt)))

        fits : clash_with class (record_of (run_store program (sample_plan n)).classes class.id) ≡ None
        fits =
            ap (λ (s : Store). clash_with class (record_of s.classes class.id)) (ap (λ (x : Program). run_store x (sample_plan n)) frameless_is ∙ same_store p (sample_plan n))
            ∙ sym (same_clash class (record_of (run_store p (sample_plan n)).classes class.id)) ∙ fits_in

  -- ---- the work

  abbrev IsDone : End → Type 0
  IsDone end = end ≡ done

  linking_ends : (a : Instrumented) → IsInstrumentedFile bytes a → EndsIn IsDone (linking a.bytes)
  linking_ends a is =
      ends_then IsDone (deciding (IsReadable a.bytes) (IsLongEnd a.bytes)) (λ _. deciding (IsRunProgram (a.bytes ∷ [])) (IsUnlinkedEnd a.bytes))
      (ends_deciding IsDone (IsReadable a.bytes) (IsLongEnd a.bytes) (λ end long. absurd (let most = file_short n some within a is in let more = long.0 in omega (arith, most, more))))
      (λ _. ends_deciding IsDone (IsRunProgram (a.bytes ∷ [])) (IsUnlinkedEnd a.bytes) (λ end e. absurd (not_unlinked a is e.0 e.1)))

  running_ends : (a : Instrumented) → IsInstrumentedFile bytes a → (program : Program) → IsRunProgram (a.bytes ∷ []) program → (probes : ℕ) → EndsIn IsDone (running n probes program)
  running_ends a is program runs probes =
      ends_then IsDone (deciding (HaveEntries program (sample_plan n)) (IsEntryEnd program (sample_plan n))) _
      (ends_deciding IsDone (HaveEntries program (sample_plan n)) (IsEntryEnd program (sample_plan n)) (λ end e. absurd (none-some e.0 (sym (have_entries a is program runs) ∙ e.1))))
      (λ _. ends_then IsDone (counting n (run_store program (sample_plan n))) _
      (ends_deciding IsDone (AreCounters bytes (run_store program (sample_plan n))) (IsClashEnd bytes (run_store program (sample_plan n)))
      (λ end e. absurd (none-some e.1 (sym (fits a is program runs e.0 e.2) ∙ e.3))))
      (λ counters. ends_giving IsDone (sample_text n probes (length (sample_plan n).cases) counters)))

  line_ends : EndsIn IsDone (sample_line n)
  line_ends =
      ends_if IsDone (deciding (IsInstrumentedFile bytes) (IsRefusedEnd bytes)) (λ a. linking a.bytes >>= (λ program. running n a.probes program))
      (ends_deciding IsDone (IsInstrumentedFile bytes) (IsRefusedEnd bytes) (λ end e. absurd (not_refused n some within (has_pool_room n some within) e.0 e.1)))
      (λ steps a given.
      let is = decided (IsInstrumentedFile bytes) (IsRefusedEnd bytes) steps a given in
      ends_if IsDone (linking a.bytes) (λ program. running n a.probes program) (linking_ends a is)
      (λ more program linked.
      running_ends a is program
      (given_behind (deciding (IsReadable a.bytes) (IsLongEnd a.bytes)) (IsRunProgram (a.bytes ∷ [])) (IsUnlinkedEnd a.bytes) more program linked) a.probes))

  pub sample_ends : (steps : List Step) (end : End) → sample_work n steps (stops end) → end ≡ done
  sample_ends =
      ends_then IsDone (sample_line n) (λ line. writing (to_out line) >>= (λ _. ending done)) line_ends
      (λ line. ends_then IsDone (writing (to_out line)) (λ _. ending done) (λ steps end is. ends_writing_all IsDone (to_out line ∷ []) steps end (inl is)) (λ _. ends_ending IsDone done refl))
