-- A sample has one work: each of its decisions has one answer.
use Rattle.std.proofs.Common.{◌≡◌, ◌⊎◌, inl, inr, ℕ, ◌<◌, ◌≤◌, List, [], ◌∷◌, length, Bool, true, false, Option, None, Some, refl, sym, ◌∙◌, ap, subst, arith}
use Rattle.std.proofs.lemmas.Bool.{cases_lt}
use Rattle.std.proofs.lemmas.Option.{none-some, same_Some}
use Rattle.jc_bytes.specs.ByteLists.{AreBytes}
use Rattle.jc_bytes.specs.Reader.{most_read}
use Rattle.jc_bytes.specs.declared.refusal.Refusal.{Refusal}
use Rattle.jc_programs.specs.declared.program.Program.{Program}
use Rattle.jc_programs.specs.declared.run_plan.RunPlan.{RunPlan}
use Rattle.jc_programs.specs.declared.run_plan.ThreadLine.{ThreadLine}
use Rattle.jc_exec.specs.Store.{Store}
use Rattle.jc_class.specs.ClassText.{not_a_class}
use Rattle.jc_instrument.specs.InstrumentedFile.{IsInstrumentedFile, Becomes}
use Rattle.jc_instrument.specs.LeftAlone.{is_left_alone}
use Rattle.jc_instrument.specs.Refused.{Reason}
use Rattle.jc_instrument.specs.declared.whole.Instrumented.{Instrumented}
use Rattle.jc_instrument.proofs.OneTwinLaws.{one_file, file_or_reason}
use Rattle.jc_instrument.proofs.RoomCauseLaws.{one_reason}
use Rattle.jc_instrument_laws.proofs.EachFileLaws.{each_file}
use Rattle.jc_link_programs.specs.Linking.{IsProgramOf, IsLinkRefusal}
use Rattle.jc_link_programs.specs.declared.link_refusal.LinkRefusal.{LinkRefusal}
use Rattle.jc_link_programs.proofs.OneRefusalLaws.{one_link_reason, program_or_refusal, same_program}
use Rattle.jc_link_laws.proofs.SomeProgramLaws.{program_or_reason}
use Rattle.jc_machine_laws.specs.Frameless.{frameless}
use Rattle.jc_command_work.specs.declared.status.Fault.TheVariants as fault
use Rattle.jc_command_work.specs.Step.{Landed, Step, IsFile, Fit, Outside, to_out}
use Rattle.jc_command_work.specs.Part.{End, done, gives, Part, ending, deciding, writing, ◌>>=◌}
use Rattle.jc_command_work.specs.Answered.{refusal_of}
use Rattle.jc_command_work.specs.OneWay.{OneDecision, HasOne}
use Rattle.jc_command_work.proofs.OneWork.{one_giving, one_ending, one_deciding, one_writing, has_then, has_then_if}
use Rattle.jc_command_work.proofs.AnsweredLaws.{decides}
use Rattle.jc_command_run.specs.RunAnswers.{IsRunProgram}
use Rattle.jc_command_run.specs.RunStore.{threads_of, first_without, run_store}
use Rattle.jc_command_run.proofs.StoreLaws.{same_frameless}
use Rattle.jc_command_sample.specs.SampleFile.{sample_file}
use Rattle.jc_command_sample.specs.SamplePlan.{sample_plan}
use Rattle.jc_command_sample.specs.SampleWork.{sample_path, IsRefusedEnd, IsReadable, IsLongEnd, IsUnlinkedEnd, HaveEntries, IsEntryEnd, AreCounters, IsClashEnd, sample_text, linking, counting, running, sample_line, sample_work}
use Rattle.jc_command_sample.proofs.BytesLaws.{sample_bytes, sample_short}
use Rattle.jc_command_sample.proofs.CounterLaws.{one_counters, one_clash, counters_or_clash, some_counters}
use Rattle.jc_command_sample.proofs.OneFileLaws.{alone_refused, refuses_alone}

-- ---- a decision

-- ---- the class

named : (why other : Refusal) (e f : End) → why ≡ other → e ≡ refusal_of sample_path (fault.Class 0 why) → f ≡ refusal_of sample_path (fault.Class 0 other) → e ≡ f
named why other e f same p q = p ∙ ap (λ (r : Refusal). refusal_of sample_path (fault.Class 0 r)) same ∙ sym q

instruments : (bytes : List ℕ) → IsFile bytes → OneDecision (IsInstrumentedFile bytes) (IsRefusedEnd bytes)
instruments bytes file =
    decides (IsInstrumentedFile bytes) (IsRefusedEnd bytes) (one_file bytes)
    (λ e f p q. named p.0 q.0 e f (same_Some p.0 q.0 (one_reason bytes (Some p.0) (Some q.0) p.1 q.1)) p.2 q.2)
    (λ a e is ends. file_or_reason bytes a ends.0 is ends.1) (by (each_file bytes file.are_bytes file.short))
  where
    by : ((a : Instrumented) × IsInstrumentedFile bytes a) ⊎ ((r : Refusal) × Reason bytes (Some r)) → ((a : Instrumented) × IsInstrumentedFile bytes a) ⊎ ((e : End) × IsRefusedEnd bytes e)
    by (inl a) = inl a
    by (inr r) = inr (refusal_of sample_path (fault.Class 0 r.0), (r.0, r.1, refl))

-- what comes of bytes is bytes
written_bytes : (bytes : List ℕ) → AreBytes bytes → (a : Instrumented) → IsInstrumentedFile bytes a → AreBytes a.bytes
written_bytes bytes are a is = by (is_left_alone is.file) is.becomes
  where
    by : (t : Bool) → Becomes t bytes is.file a → AreBytes a.bytes
    by true given = subst AreBytes (sym given.same) are
    by false probed = probed.are_bytes

-- ---- the program

reads : (bytes : List ℕ) → OneDecision (IsReadable bytes) (IsLongEnd bytes)
reads bytes =
    decides (IsReadable bytes) (IsLongEnd bytes) (λ x y is is'. refl) (λ e f p q. p.1 ∙ sym q.1) (λ x e is ends. (let more = ends.0 in omega (arith, is, more)))
    (by (cases_lt most_read (length bytes)))
  where
    by : (most_read < length bytes) ⊎ (length bytes ≤ most_read) → ((x : Unit {0}) × IsReadable bytes x) ⊎ ((e : End) × IsLongEnd bytes e)
    by (inl more) = inr (refusal_of sample_path (fault.Class 0 (not_a_class most_read)), (more, refl))
    by (inr few) = inl (tt, few)

links : (bytes : List ℕ) → AreBytes bytes → length bytes ≤ most_read → OneDecision (IsRunProgram (bytes ∷ [])) (IsUnlinkedEnd bytes)
links bytes are short =
    decides (IsRunProgram (bytes ∷ [])) (IsUnlinkedEnd bytes)
    (λ x y p q. p.2 ∙ same_frameless p.0 q.0 (same_program (bytes ∷ []) p.0 q.0 p.1 q.1) ∙ sym q.2)
    (λ e f p q. named p.0 q.0 e f (same_Some p.0 q.0 (one_link_reason bytes (Some p.0) (Some q.0) p.1 q.1)) p.2 q.2)
    (λ x e p ends. program_or_refusal (bytes ∷ []) p.0 _ p.1 (refuses_alone bytes ends.0 ends.1))
    (by (program_or_reason (bytes ∷ []) ((are, short), tt)))
  where
    by : ((p : Program) × IsProgramOf (bytes ∷ []) p) ⊎ ((r : LinkRefusal) × IsLinkRefusal (bytes ∷ []) r) → ((p : Program) × IsRunProgram (bytes ∷ []) p) ⊎ ((e : End) × IsUnlinkedEnd bytes e)
    by (inl p) = inl (frameless p.0, (p.0, p.1, refl))
    by (inr r) = let alone = alone_refused bytes r.0 r.1 in inr (refusal_of sample_path (fault.Class 0 alone.0), (alone.0, alone.1, refl))

-- ---- the run

begins : (program : Program) (plan : RunPlan) → OneDecision (HaveEntries program plan) (IsEntryEnd program plan)
begins program plan =
    decides (HaveEntries program plan) (IsEntryEnd program plan) (λ x y is is'. refl)
    (λ e f p q. p.2 ∙ ap (λ (t : ThreadLine). refusal_of sample_path (fault.NoEntry t.line)) (same_Some p.0 q.0 (sym p.1 ∙ q.1)) ∙ sym q.2)
    (λ x e is ends. none-some ends.0 (sym is ∙ ends.1)) (by (first_without program (threads_of plan)) refl)
  where
    by : (o : Option ThreadLine) → first_without program (threads_of plan) ≡ o → ((x : Unit {0}) × HaveEntries program plan x) ⊎ ((e : End) × IsEntryEnd program plan e)
    by None is = inl (tt, is)
    by (Some t) is = inr (refusal_of sample_path (fault.NoEntry t.line), (t, is, refl))

counts : (bytes : List ℕ) (store : Store) → IsFile bytes → (a : Instrumented) → IsInstrumentedFile bytes a → OneDecision (AreCounters bytes store) (IsClashEnd bytes store)
counts bytes store file a is =
    decides (AreCounters bytes store) (IsClashEnd bytes store) (one_counters store bytes) (one_clash store bytes) (counters_or_clash store bytes) (some_counters store bytes file a is)

-- ---- the work

-- what comes behind the instrumented class
abbrev line_of : (methods : ℕ) → Instrumented → Part (List ℕ)
line_of n class = do
  program ← linking class.bytes
  running n class.probes program

module _ (landed : Landed) (n : ℕ) (within : n ≤ 1000) where
  file : IsFile (sample_file n)
  file = record { are_bytes = sample_bytes n within; short = sample_short n within }

  has_running : (probes : ℕ) (program : Program) (a : Instrumented) → IsInstrumentedFile (sample_file n) a → HasOne landed (running n probes program)
  has_running probes program a is =
      has_then landed (deciding (HaveEntries program (sample_plan n)) (IsEntryEnd program (sample_plan n))) _ (λ w told. one_deciding landed w _ _ (begins program (sample_plan n)))
      (λ _. has_then landed (counting n (run_store program (sample_plan n))) _ (λ w told. one_deciding landed w _ _ (counts (sample_file n) (run_store program (sample_plan n)) file a is))
      (λ counters w told. one_giving landed w (sample_text n probes (length (sample_plan n).cases) counters)))

  has_linking : (a : Instrumented) → IsInstrumentedFile (sample_file n) a → HasOne landed (linking a.bytes)
  has_linking a is =
      has_then_if landed (deciding (IsReadable a.bytes) (IsLongEnd a.bytes)) (λ _. deciding (IsRunProgram (a.bytes ∷ [])) (IsUnlinkedEnd a.bytes))
      (λ w told. one_deciding landed w _ _ (reads a.bytes)) behind
    where
      behind : (w : Outside) (steps : List Step) (x : Unit {0}) → deciding (IsReadable a.bytes) (IsLongEnd a.bytes) steps (gives x) → Fit landed w steps
          → HasOne landed (deciding (IsRunProgram (a.bytes ∷ [])) (IsUnlinkedEnd a.bytes))
      behind w [] x short fits v told = one_deciding landed v _ _ (links a.bytes (written_bytes (sample_file n) (sample_bytes n within) a is) short)
      behind w (s ∷ ss) x none fits v told = absurd none

  has_line : HasOne landed (sample_line n)
  has_line =
      has_then_if landed (deciding (IsInstrumentedFile (sample_file n)) (IsRefusedEnd (sample_file n))) (line_of n) (λ w told. one_deciding landed w _ _ (instruments (sample_file n) file)) behind
    where
      behind : (w : Outside) (steps : List Step) (a : Instrumented) → deciding (IsInstrumentedFile (sample_file n)) (IsRefusedEnd (sample_file n)) steps (gives a) → Fit landed w steps
          → HasOne landed (line_of n a)
      behind w [] a is fits = has_then landed (linking a.bytes) (λ program. running n a.probes program) (has_linking a is) (λ program. has_running a.probes program a is)
      behind w (s ∷ ss) a none fits = absurd none

  pub has_sample : HasOne landed (sample_work n)
  has_sample =
      has_then landed (sample_line n) (λ line. writing (to_out line) >>= (λ _. ending done)) has_line
      (λ line. has_then landed (writing (to_out line)) (λ _. ending done) (λ w told. one_writing landed w (to_out line)) (λ _ w told. one_ending landed w done))
