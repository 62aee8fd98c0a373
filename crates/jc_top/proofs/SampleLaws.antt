-- The work of a sample: it decides without a step, writes one line, and is done.
use Rattle.std.proofs.Common.{◌≡◌, ◌⊎◌, ℕ, length, List, [], ◌∷◌, inl, inr, refl, sym, subst}
use Rattle.jc_programs.specs.declared.program.Program.{Program}
use Rattle.jc_cover.specs.declared.coverage.Counters.{Counters}
use Rattle.jc_exec.specs.Store.{Store}
use Rattle.jc_instrument.specs.InstrumentedFile.{IsInstrumentedFile}
use Rattle.jc_instrument.specs.declared.whole.Instrumented.{Instrumented}
use Rattle.jc_command_run.specs.RunAnswers.{IsRunProgram}
use Rattle.jc_command_run.specs.RunStore.{run_store}
use Rattle.jc_command_work.specs.declared.status.Fault.{Fault}
use Rattle.jc_command_work.specs.Step.{Write, to_out, Step}
use Rattle.jc_command_work.specs.Part.{End, done, refused, stops, Part, Command, giving, deciding, writing, ending, ◌>>=◌}
use Rattle.jc_command_work.specs.OneWay.{writes_of}
use Rattle.jc_command_work.specs.Causes.{EndsIn}
use Rattle.jc_command_work.proofs.CauseLaws.{ends_then, ends_giving, ends_deciding, ends_ending, ends_writing_all}
use Rattle.jc_command_work.proofs.NoWrites.{WritesNone, none_deciding, none_giving, none_then}
use Rattle.jc_command_sample.specs.SampleFile.{sample_file}
use Rattle.jc_command_sample.specs.SamplePlan.{sample_plan}
use Rattle.jc_command_sample.specs.SampleWork.{IsRefusedEnd, IsReadable, IsLongEnd, IsUnlinkedEnd, HaveEntries, IsEntryEnd, AreCounters, IsClashEnd, sample_text, linking, counting, running, sample_line, sample_work}
use Rattle.jc_top.proofs.FirstWriteLaws.{WantsReads, WritesLast, reads_deciding, reads_giving, reads_then, last_then, last_one}

ends_one : (Is : End → Type 0) (write : Write) → EndsIn Is (writing write)
ends_one Is write steps end is = ends_writing_all Is (write ∷ []) steps end (inl is)

-- ---- no step

module _ (n : ℕ) where
  none_linking : (bytes : List ℕ) → WritesNone (linking bytes)
  none_linking bytes =
      none_then (deciding (IsReadable bytes) (IsLongEnd bytes)) (λ _. deciding (IsRunProgram (bytes ∷ [])) (IsUnlinkedEnd bytes))
      (none_deciding (IsReadable bytes) (IsLongEnd bytes)) (λ _. none_deciding (IsRunProgram (bytes ∷ [])) (IsUnlinkedEnd bytes))

  reads_linking : (bytes : List ℕ) → WantsReads (linking bytes)
  reads_linking bytes =
      reads_then (deciding (IsReadable bytes) (IsLongEnd bytes)) (λ _. deciding (IsRunProgram (bytes ∷ [])) (IsUnlinkedEnd bytes))
      (reads_deciding (IsReadable bytes) (IsLongEnd bytes)) (λ _. reads_deciding (IsRunProgram (bytes ∷ [])) (IsUnlinkedEnd bytes))

  module _ (probes : ℕ) (program : Program) where
    counted : Counters → Part (List ℕ)
    counted counters = giving (sample_text n probes (length (sample_plan n).cases) counters)

    store : Store
    store = run_store program (sample_plan n)

    none_running : WritesNone (running n probes program)
    unfolding counted store
    none_running =
        none_then (deciding (HaveEntries program (sample_plan n)) (IsEntryEnd program (sample_plan n))) (λ _. counting n store >>= counted)
        (none_deciding (HaveEntries program (sample_plan n)) (IsEntryEnd program (sample_plan n)))
        (λ _. none_then (counting n store) counted (none_deciding (AreCounters (sample_file n) store) (IsClashEnd (sample_file n) store)) (λ counters. none_giving _))

    reads_running : WantsReads (running n probes program)
    unfolding counted store
    reads_running =
        reads_then (deciding (HaveEntries program (sample_plan n)) (IsEntryEnd program (sample_plan n))) (λ _. counting n store >>= counted)
        (reads_deciding (HaveEntries program (sample_plan n)) (IsEntryEnd program (sample_plan n)))
        (λ _. reads_then (counting n store) counted (reads_deciding (AreCounters (sample_file n) store) (IsClashEnd (sample_file n) store)) (λ counters. reads_giving _))

  abbrev behind_class : Instrumented → Part (List ℕ)
  behind_class class = linking class.bytes >>= (λ program. running n class.probes program)

  none_line : WritesNone (sample_line n)
  none_line =
      none_then (deciding (IsInstrumentedFile (sample_file n)) (IsRefusedEnd (sample_file n))) behind_class (none_deciding (IsInstrumentedFile (sample_file n)) (IsRefusedEnd (sample_file n)))
      (λ class. none_then (linking class.bytes) (λ program. running n class.probes program) (none_linking class.bytes) (λ program. none_running class.probes program))

  reads_line : WantsReads (sample_line n)
  reads_line =
      reads_then (deciding (IsInstrumentedFile (sample_file n)) (IsRefusedEnd (sample_file n))) behind_class (reads_deciding (IsInstrumentedFile (sample_file n)) (IsRefusedEnd (sample_file n)))
      (λ class. reads_then (linking class.bytes) (λ program. running n class.probes program) (reads_linking class.bytes) (λ program. reads_running class.probes program))

  abbrev telling : List ℕ → Command
  telling line = writing (to_out line) >>= (λ _. ending done)

  pub last_sample : WritesLast (sample_work n)
  last_sample = last_then (sample_line n) telling none_line reads_line (λ line front over. last_one (to_out line))

  -- it is done, or has written nothing
  pub sample_or_nothing : (steps : List Step) (end : End) → sample_work n steps (stops end) → (end ≡ done) ⊎ (writes_of steps ≡ [])
  sample_or_nothing steps end (inl within) = inr (none_line steps (stops end) within)
  sample_or_nothing steps end (inr h) =
      inl (ends_then (λ e. e ≡ done) (writing (to_out h.value)) (λ _. ending done) (ends_one (λ e. e ≡ done) (to_out h.value)) (λ _. ends_ending (λ e. e ≡ done) done refl) h.behind end h.goes_on)

-- ---- ends

module _ (Is : End → Type 0) (done_is : Is done) (refused_is : (fault : Fault) (line : List ℕ) → Is (refused fault line)) (n : ℕ) where
  refused_so : (fault : Fault) (line : List ℕ) (end : End) → end ≡ refused fault line → Is end
  refused_so fault line end is = subst Is (sym is) (refused_is fault line)

  ends_linking : (bytes : List ℕ) → EndsIn Is (linking bytes)
  ends_linking bytes =
      ends_then Is (deciding (IsReadable bytes) (IsLongEnd bytes)) (λ _. deciding (IsRunProgram (bytes ∷ [])) (IsUnlinkedEnd bytes))
      (ends_deciding Is (IsReadable bytes) (IsLongEnd bytes) (λ end is. refused_so _ _ end is.1))
      (λ _. ends_deciding Is (IsRunProgram (bytes ∷ [])) (IsUnlinkedEnd bytes) (λ end is. refused_so _ _ end is.2))

  ends_running : (probes : ℕ) (program : Program) → EndsIn Is (running n probes program)
  ends_running probes program =
      let store = run_store program (sample_plan n) in
      ends_then Is (deciding (HaveEntries program (sample_plan n)) (IsEntryEnd program (sample_plan n))) _
      (ends_deciding Is (HaveEntries program (sample_plan n)) (IsEntryEnd program (sample_plan n)) (λ end is. refused_so _ _ end is.2))
      (λ _. ends_then Is (counting n store) _ (ends_deciding Is (AreCounters (sample_file n) store) (IsClashEnd (sample_file n) store)
      (λ end is. refused_so _ _ end is.4)) (λ counters. ends_giving Is _))

  pub ends_sample : EndsIn Is (sample_work n)
  ends_sample =
      ends_then Is (sample_line n) (λ line. writing (to_out line) >>= (λ _. ending done))
      (ends_then Is (deciding (IsInstrumentedFile (sample_file n)) (IsRefusedEnd (sample_file n))) _
      (ends_deciding Is (IsInstrumentedFile (sample_file n)) (IsRefusedEnd (sample_file n)) (λ end is. refused_so _ _ end is.2))
      (λ class. ends_then Is (linking class.bytes) _ (ends_linking class.bytes) (λ program. ends_running class.probes program)))
      (λ line. ends_then Is (writing (to_out line)) (λ _. ending done) (ends_one Is (to_out line)) (λ _. ends_ending Is done done_is))
