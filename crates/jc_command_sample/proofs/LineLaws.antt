-- What the steps of a sample decide, one behind the other.
use Rattle.std.proofs.Common.{◌≡◌, inl, ℕ, ◌≤◌, List, [], ◌∷◌, length, Option, None, Some, Result, Ok, Err, option_map, refl, sym, ◌∙◌, ap, subst}
use Rattle.jc_bytes.specs.Reader.{most_read}
use Rattle.jc_bytes.specs.declared.refusal.Refusal.{Refusal}
use Rattle.jc_programs.specs.declared.program.Program.{Program}
use Rattle.jc_programs.specs.declared.run_plan.RunPlan.{RunPlan}
use Rattle.jc_programs.specs.declared.run_plan.ThreadLine.{ThreadLine}
use Rattle.jc_cover.specs.declared.coverage.Counters.{Counters}
use Rattle.jc_exec.specs.Store.{Store}
use Rattle.jc_instrument.specs.InstrumentedFile.{IsInstrumentedFile}
use Rattle.jc_instrument.specs.declared.whole.Instrumented.{Instrumented}
use Rattle.jc_link_programs.specs.Linking.{IsProgramOf, LinkReason}
use Rattle.jc_machine_laws.specs.Frameless.{frameless}
use Rattle.jc_command_work.specs.declared.status.Fault.TheVariants as fault
use Rattle.jc_command_work.specs.declared.stop.Stop.{Stop}
use Rattle.jc_command_work.specs.Part.{End, gives, stops, Part, giving, deciding, ◌>>=◌}
use Rattle.jc_command_work.specs.Answered.{refusal_of}
use Rattle.jc_command_work.specs.Seen.{stop_seen}
use Rattle.jc_command_work.proofs.Behind.{over_then}
use Rattle.jc_command_run.specs.Beginnings.{line_of}
use Rattle.jc_command_run.specs.RunAnswers.{IsRunProgram}
use Rattle.jc_command_run.specs.RunStore.{threads_of, first_without, run_store}
use Rattle.jc_command_run.proofs.StoreLaws.{same_store, same_without}
use Rattle.jc_command_sample.specs.SampleFile.{sample_file}
use Rattle.jc_command_sample.specs.SamplePlan.{sample_plan}
use Rattle.jc_command_sample.specs.SampleWork.{sample_path, IsRefusedEnd, IsReadable, IsLongEnd, IsUnlinkedEnd, HaveEntries, IsEntryEnd, AreCounters, IsClashEnd, sample_text, linking, counting, running, sample_line}
use Rattle.jc_command_sample.specs.Seen.{EndsAtOnce, Decides}

-- ---- one part behind the other

module _ {X Y : Type 0} (p : Part X) (q : X → Part Y) where
  -- the first ends the command
  pub first_ends : (o : Option End) → EndsAtOnce p o → EndsAtOnce (p >>= q) o
  first_ends None ends = tt
  first_ends (Some end) ends = inl ends

  -- the first is over, and the second ends the command
  pub later_ends : (x : X) (o : Option End) → p [] (gives x) → EndsAtOnce (q x) o → EndsAtOnce (p >>= q) o
  later_ends x None is ends = tt
  later_ends x (Some end) is ends = over_then p q x [] [] (stops end) is ends

  -- the first is over, and the second decides
  pub then_decides : {A : Type 0} (value : A → Y) (x : X) (r : Result A Stop) → p [] (gives x) → Decides (q x) value r → Decides (p >>= q) value r
  then_decides value x (Ok a) is so = over_then p q x [] [] (gives (value a)) is so
  then_decides value x (Err stop) is so = later_ends x (stop_seen stop) is so

-- ---- linking

module _ (bytes : List ℕ) where
  pub is_linked : length bytes ≤ most_read → (p : Program) → IsProgramOf (bytes ∷ []) p → linking bytes [] (gives (frameless p))
  is_linked short p of =
      over_then (deciding (IsReadable bytes) (IsLongEnd bytes)) (λ _. deciding (IsRunProgram (bytes ∷ [])) (IsUnlinkedEnd bytes)) tt [] [] (gives (frameless p)) short (p, of, refl)

  pub isn't_linked : length bytes ≤ most_read → (why : Refusal) → LinkReason bytes (Some why) → EndsAtOnce (linking bytes) (Some (refusal_of sample_path (fault.Class 0 why)))
  isn't_linked short why reason =
      over_then (deciding (IsReadable bytes) (IsLongEnd bytes)) (λ _. deciding (IsRunProgram (bytes ∷ [])) (IsUnlinkedEnd bytes)) tt [] []
      (stops (refusal_of sample_path (fault.Class 0 why))) short (why, reason, refl)

-- ---- entries

module _ (p : Program) (plan : RunPlan) where
  none_lacks : (o : Option ThreadLine) → o ≡ first_without p (threads_of plan) → None ≡ option_map line_of o → HaveEntries (frameless p) plan tt
  none_lacks None is none = same_without p (threads_of plan) ∙ sym is
  none_lacks (Some t) is none = absurd cc

  some_lacks : (line : ℕ) (o : Option ThreadLine) → o ≡ first_without p (threads_of plan) → Some line ≡ option_map line_of o
      → IsEntryEnd (frameless p) plan (refusal_of sample_path (fault.NoEntry line))
  some_lacks line None is some = absurd cc
  some_lacks line (Some t) is some =
      let number : line ≡ t.line = cc in
      (t, same_without p (threads_of plan) ∙ sym is, ap (λ (k : ℕ). refusal_of sample_path (fault.NoEntry k)) number)

  pub have_entries : None ≡ option_map line_of (first_without p (threads_of plan)) → HaveEntries (frameless p) plan tt
  have_entries none = none_lacks (first_without p (threads_of plan)) refl none

  pub lacks_entry : (line : ℕ) → Some line ≡ option_map line_of (first_without p (threads_of plan)) → IsEntryEnd (frameless p) plan (refusal_of sample_path (fault.NoEntry line))
  lacks_entry line some = some_lacks line (first_without p (threads_of plan)) refl some

  -- the program with its frames has them too
  pub entries_of : HaveEntries (frameless p) plan tt → first_without p (threads_of plan) ≡ None
  entries_of have = sym (same_without p (threads_of plan)) ∙ have

  -- ---- counters

  pub counted_so : (n : ℕ) (bytes : List ℕ) (store : Store) (r : Result Counters Stop) → plan ≡ sample_plan n → bytes ≡ sample_file n → store ≡ run_store p plan
      → Decides (deciding (AreCounters bytes store) (IsClashEnd bytes store)) (λ (c : Counters). c) r
      → Decides (counting n (run_store (frameless p) (sample_plan n))) (λ (c : Counters). c) r
  counted_so n bytes store r same file stored so =
      let run : store ≡ run_store (frameless p) (sample_plan n) = stored ∙ ap (run_store p) same ∙ sym (same_store p (sample_plan n)) in
      subst (λ (s : Store). Decides (counting n s) (λ (c : Counters). c) r) run
      (subst (λ (b : List ℕ). Decides (deciding (AreCounters b store) (IsClashEnd b store)) (λ (c : Counters). c) r) file so)

-- ---- the run

module _ (n probes : ℕ) (program : Program) where
  pub entries_end : (o : Option End) → EndsAtOnce (deciding (HaveEntries program (sample_plan n)) (IsEntryEnd program (sample_plan n))) o → EndsAtOnce (running n probes program) o
  entries_end o ends = first_ends (deciding (HaveEntries program (sample_plan n)) (IsEntryEnd program (sample_plan n))) _ o ends

  module _ (have : HaveEntries program (sample_plan n) tt) where
    pub counting_ends : (o : Option End) → EndsAtOnce (counting n (run_store program (sample_plan n))) o → EndsAtOnce (running n probes program) o
    counting_ends o ends =
        later_ends (deciding (HaveEntries program (sample_plan n)) (IsEntryEnd program (sample_plan n))) _ tt o have
        (first_ends (counting n (run_store program (sample_plan n))) (λ counters. giving (sample_text n probes (length (sample_plan n).cases) counters)) o ends)

    pub runs : (counters : Counters) (text : List ℕ) → counting n (run_store program (sample_plan n)) [] (gives counters)
        → text ≡ sample_text n probes (length (sample_plan n).cases) counters → running n probes program [] (gives text)
    runs counters text counted is =
        let given : giving (sample_text n probes (length (sample_plan n).cases) counters) [] (gives text) = ap (λ (t : List ℕ). gives t) is in
        over_then (deciding (HaveEntries program (sample_plan n)) (IsEntryEnd program (sample_plan n)))
        (λ _. counting n (run_store program (sample_plan n)) >>= (λ c. giving (sample_text n probes (length (sample_plan n).cases) c)))
        tt [] [] (gives text) have
        (over_then (counting n (run_store program (sample_plan n))) (λ c. giving (sample_text n probes (length (sample_plan n).cases) c)) counters [] [] (gives text) counted given)

-- ---- the whole

module _ (n : ℕ) (bytes : List ℕ) (same : bytes ≡ sample_file n) where
  rest : Instrumented → Part (List ℕ)
  rest class = linking class.bytes >>= (λ program. running n class.probes program)

  pub class_ends : (o : Option End) → EndsAtOnce (deciding (IsInstrumentedFile bytes) (IsRefusedEnd bytes)) o → EndsAtOnce (sample_line n) o
  unfolding rest
  class_ends o ends =
      first_ends (deciding (IsInstrumentedFile (sample_file n)) (IsRefusedEnd (sample_file n))) rest o
      (subst (λ (b : List ℕ). EndsAtOnce (deciding (IsInstrumentedFile b) (IsRefusedEnd b)) o) same ends)

  module _ (class : Instrumented) (is : IsInstrumentedFile bytes class) where
    made : IsInstrumentedFile (sample_file n) class
    made = subst (λ (b : List ℕ). IsInstrumentedFile b class) same is

    pub linking_ends : (o : Option End) → EndsAtOnce (linking class.bytes) o → EndsAtOnce (sample_line n) o
    unfolding rest
    linking_ends o ends =
        later_ends (deciding (IsInstrumentedFile (sample_file n)) (IsRefusedEnd (sample_file n))) rest class o made
        (first_ends (linking class.bytes) (λ program. running n class.probes program) o ends)

    pub line_decided : {A : Type 0} (value : A → List ℕ) (program : Program) (r : Result A Stop) → linking class.bytes [] (gives program) → Decides (running n class.probes program) value r
        → Decides (sample_line n) value r
    unfolding rest
    line_decided value program r linked so =
        then_decides (deciding (IsInstrumentedFile (sample_file n)) (IsRefusedEnd (sample_file n))) rest value class r made
        (then_decides (linking class.bytes) (λ program. running n class.probes program) value program r linked so)
