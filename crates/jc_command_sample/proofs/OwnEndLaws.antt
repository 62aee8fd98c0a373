-- The ends to which a sample comes by itself, and that one which isn't done has written nothing.
use Rattle.std.proofs.Common.{◌≡◌, ◌≢◌, ℕ, List, [], ◌∷◌, ◌++◌, length, inl, inr, refl, sym, ◌∙◌, ap, subst}
use Rattle.jc_programs.specs.declared.program.Program.{Program}
use Rattle.jc_instrument.specs.InstrumentedFile.{IsInstrumentedFile}
use Rattle.jc_command_work.specs.declared.status.Fault.{Fault}
use Rattle.jc_command_work.specs.Step.{Step, Write, to_out, to_write, has_read, has_no, has_listed, has_written}
use Rattle.jc_command_work.specs.Part.{End, done, refused, Outcome, wants, gives, stops, Part, giving, ending, deciding, writing, ◌>>=◌}
use Rattle.jc_command_work.specs.Causes.{IsOwnEnd, HasOwnEnds}
use Rattle.jc_command_work.proofs.CauseLaws.{ends_then, ends_giving, ends_deciding, ends_ending, ends_writing_all}
use Rattle.jc_command_work.proofs.OneWork.{gives_or_stops, not_over, same_end}
use Rattle.jc_command_run.specs.RunAnswers.{IsRunProgram}
use Rattle.jc_command_run.specs.RunStore.{run_store}
use Rattle.jc_command_sample.specs.SampleFile.{sample_file}
use Rattle.jc_command_sample.specs.SamplePlan.{sample_plan}
use Rattle.jc_command_sample.specs.SampleWork.{IsRefusedEnd, IsReadable, IsLongEnd, IsUnlinkedEnd, HaveEntries, IsEntryEnd, sample_text, linking, counting, running, sample_line, sample_work}

-- ---- its own ends

own_refused : (fault : Fault) (line : List ℕ) (end : End) → end ≡ refused fault line → IsOwnEnd end
own_refused fault line end is = subst IsOwnEnd (sym is) tt

own_writing : (write : Write) → HasOwnEnds (writing write)
own_writing write steps end is = ends_writing_all IsOwnEnd (write ∷ []) steps end (inl is)

own_linking : (bytes : List ℕ) → HasOwnEnds (linking bytes)
own_linking bytes =
    ends_then IsOwnEnd (deciding (IsReadable bytes) (IsLongEnd bytes)) _ (ends_deciding IsOwnEnd _ _ (λ end is. own_refused _ _ end is.1))
    (λ _. ends_deciding IsOwnEnd (IsRunProgram (bytes ∷ [])) (IsUnlinkedEnd bytes) (λ end is. own_refused _ _ end is.2))

module _ (n : ℕ) where
  own_running : (probes : ℕ) (program : Program) → HasOwnEnds (running n probes program)
  own_running probes program =
      ends_then IsOwnEnd (deciding (HaveEntries program (sample_plan n)) (IsEntryEnd program (sample_plan n))) _ (ends_deciding IsOwnEnd _ _ (λ end is. own_refused _ _ end is.2))
      (λ _. ends_then IsOwnEnd (counting n (run_store program (sample_plan n))) _ (ends_deciding IsOwnEnd _ _ (λ end is. own_refused _ _ end is.4))
      (λ counters. ends_giving IsOwnEnd (sample_text n probes (length (sample_plan n).cases) counters)))

  own_line : HasOwnEnds (sample_line n)
  own_line =
      ends_then IsOwnEnd (deciding (IsInstrumentedFile (sample_file n)) (IsRefusedEnd (sample_file n))) (λ class. linking class.bytes >>= (λ program. running n class.probes program))
      (ends_deciding IsOwnEnd _ _ (λ end is. own_refused _ _ end is.2))
      (λ class. ends_then IsOwnEnd (linking class.bytes) (λ program. running n class.probes program) (own_linking class.bytes) (λ program. own_running class.probes program))

  pub own_sample : HasOwnEnds (sample_work n)
  own_sample =
      ends_then IsOwnEnd (sample_line n) (λ line. writing (to_out line) >>= (λ _. ending done)) own_line
      (λ line. ends_then IsOwnEnd (writing (to_out line)) (λ _. ending done) (own_writing (to_out line)) (λ _. ends_ending IsOwnEnd done tt))

-- ---- parts that make no step

abbrev MakesNoStep : {X : Type 0} → Part X → Type 0
MakesNoStep {X} part = (steps : List Step) (o : Outcome X) → part steps o → steps ≡ []

deciding_stays : {X : Type 0} (Is : X → Type 0) (Ends : End → Type 0) → MakesNoStep (deciding Is Ends)
deciding_stays Is Ends [] o is = refl
deciding_stays Is Ends (s ∷ ss) o is = absurd is

giving_stays : {X : Type 0} (x : X) → MakesNoStep (giving x)
giving_stays x [] o is = refl
giving_stays x (s ∷ ss) o is = absurd is

then_stays : {X Y : Type 0} (p : Part X) (q : X → Part Y) → MakesNoStep p → ((x : X) → MakesNoStep (q x)) → MakesNoStep (p >>= q)
then_stays p q first next steps (wants call) (inl within) = first steps (wants call) within
then_stays p q first next steps (stops end) (inl within) = first steps (stops end) within
then_stays p q first next steps (gives y) (inl within) = absurd within
then_stays p q first next steps o (inr h) =
    h.parts ∙ ap (λ (l : List Step). l ++ h.behind) (first h.front (gives h.value) h.over) ∙ next h.value h.behind o h.goes_on

linking_stays : (bytes : List ℕ) → MakesNoStep (linking bytes)
linking_stays bytes =
    then_stays (deciding (IsReadable bytes) (IsLongEnd bytes)) _ (deciding_stays _ _) (λ _. deciding_stays (IsRunProgram (bytes ∷ [])) (IsUnlinkedEnd bytes))

module _ (n : ℕ) where
  running_stays : (probes : ℕ) (program : Program) → MakesNoStep (running n probes program)
  running_stays probes program =
      then_stays (deciding (HaveEntries program (sample_plan n)) (IsEntryEnd program (sample_plan n))) _ (deciding_stays _ _)
      (λ _. then_stays (counting n (run_store program (sample_plan n))) _ (deciding_stays _ _) (λ counters. giving_stays (sample_text n probes (length (sample_plan n).cases) counters)))

  line_stays : MakesNoStep (sample_line n)
  line_stays =
      then_stays (deciding (IsInstrumentedFile (sample_file n)) (IsRefusedEnd (sample_file n))) (λ class. linking class.bytes >>= (λ program. running n class.probes program)) (deciding_stays _ _)
      (λ class. then_stays (linking class.bytes) (λ program. running n class.probes program) (linking_stays class.bytes) (λ program. running_stays class.probes program))

-- ---- a sample that isn't done

never_stops : (write : Write) (steps : List Step) (end : End) → writing write steps (stops end) → ⊥
never_stops write [] end is = not_over (stops end) (to_write write) tt is
never_stops write (has_written v ∷ []) end is = gives_or_stops tt end (sym is.1)
never_stops write (has_written v ∷ s ∷ ss) end is = is
never_stops write (has_read p b ∷ ss) end is = is
never_stops write (has_no p ∷ ss) end is = is
never_stops write (has_listed f ps ∷ ss) end is = is

-- behind its line it is done
written_is_done : (line : List ℕ) (steps : List Step) (end : End) → (writing (to_out line) >>= (λ _. ending {X = ⊥} done)) steps (stops end) → end ≡ done
written_is_done line steps end (inl within) = absurd (never_stops (to_out line) steps end within)
written_is_done line steps end (inr h) = ends h.behind h.goes_on
  where
    ends : (behind : List Step) → ending {X = ⊥} done behind (stops end) → end ≡ done
    ends [] is = same_end ⊥ end done (stops end) refl is
    ends (s ∷ ss) is = absurd is

pub wrote_nothing : (n : ℕ) (steps : List Step) (end : End) → sample_work n steps (stops end) → end ≢ done → steps ≡ []
wrote_nothing n steps end (inl within) not_done = line_stays n steps (stops end) within
wrote_nothing n steps end (inr h) not_done = absurd (not_done (written_is_done h.value h.behind end h.goes_on))
