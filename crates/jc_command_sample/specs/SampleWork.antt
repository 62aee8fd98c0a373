-- What `cover` does for a sample: a class of so many methods is instrumented, linked, run and counted, and its line is written.
use Rattle.std.specs.Prelude.{◌≡◌, ℕ, ◌<◌, ◌≤◌, List, [], ◌∷◌, ◌++◌, length, codes, Some, None}
use Rattle.std.specs.Fmt.{decimal}
use Rattle.jc_bytes.specs.Reader.{most_read}
use Rattle.jc_bytes.specs.declared.refusal.Refusal.{Refusal}
use Rattle.jc_methods.specs.declared.analysed.Analysed.{Analysed}
use Rattle.jc_programs.specs.declared.program.Program.{Program}
use Rattle.jc_programs.specs.declared.run_plan.RunPlan.{RunPlan}
use Rattle.jc_programs.specs.declared.run_plan.ThreadLine.{ThreadLine}
use Rattle.jc_exec.specs.Store.{Store}
use Rattle.jc_exec.specs.declared.refusal.ExecRefusal.{ExecRefusal}
use Rattle.jc_instrument.specs.Analysis.{IsAnalysis}
use Rattle.jc_instrument.specs.InstrumentedFile.{IsInstrumentedFile}
use Rattle.jc_instrument.specs.Refused.{Reason}
use Rattle.jc_class.specs.ClassText.{not_a_class}
use Rattle.jc_cover.specs.Counters.{counters_of}
use Rattle.jc_cover.specs.Covered.{hits_or_none, TellsCovered}
use Rattle.jc_cover.specs.declared.coverage.Count.{Count}
use Rattle.jc_cover.specs.declared.coverage.Counters.{Counters}
use Rattle.jc_cover.specs.declared.coverage.Coverage.{Coverage}
use Rattle.jc_link_programs.specs.Linking.{LinkReason}
use Rattle.jc_command_work.specs.declared.status.Fault.TheVariants as fault
use Rattle.jc_command_work.specs.Step.{Word, to_out}
use Rattle.jc_command_work.specs.Part.{End, done, Part, Command, giving, ending, deciding, writing, ◌>>=◌, ◌>>◌}
use Rattle.jc_command_work.specs.Answered.{refusal_of}
use Rattle.jc_command_classes.specs.Report.{record_of, hits_of, clash_with}
use Rattle.jc_command_run.specs.RunAnswers.{IsRunProgram}
use Rattle.jc_command_run.specs.RunStore.{threads_of, first_without, run_store}
use Rattle.jc_command_sample.specs.SampleFile.{sample_file}
use Rattle.jc_command_sample.specs.SamplePlan.{sample_plan}

-- ---- ends

-- the file that messages name
abbrev pub sample_path : Word
sample_path = codes "Sample.class"

-- the class isn't instrumented
abbrev pub IsRefusedEnd : List ℕ → End → Type 0
IsRefusedEnd bytes end = (why : Refusal) × Reason bytes (Some why) × (end ≡ refusal_of sample_path (fault.Class 0 why))

-- the bytes may be those of a file
abbrev pub IsReadable : List ℕ → Unit {0} → Type 0
IsReadable bytes _ = length bytes ≤ most_read

-- they are too many: the class file is refused where reading would end
abbrev pub IsLongEnd : List ℕ → End → Type 0
IsLongEnd bytes end = (most_read < length bytes) × (end ≡ refusal_of sample_path (fault.Class 0 (not_a_class most_read)))

-- the class isn't linked
abbrev pub IsUnlinkedEnd : List ℕ → End → Type 0
IsUnlinkedEnd bytes end = (why : Refusal) × LinkReason bytes (Some why) × (end ≡ refusal_of sample_path (fault.Class 0 why))

-- each thread has a method to begin with
abbrev pub HaveEntries : Program → RunPlan → Unit {0} → Type 0
HaveEntries program plan _ = first_without program (threads_of plan) ≡ None

-- a thread has none: the first is named, by its line
abbrev pub IsEntryEnd : Program → RunPlan → End → Type 0
IsEntryEnd program plan end =
    (thread : ThreadLine) × (first_without program (threads_of plan) ≡ Some thread) × (end ≡ refusal_of sample_path (fault.NoEntry thread.line))

-- ---- counters

-- The counters of the class of a file by the hits of its record in the execution data, which doesn't clash with it: they are those of the
-- coverage that tells which edges chains of edges cover.
pub record AreCounters (bytes : List ℕ) (store : Store) (counters : Counters) : Type 0 where
  pub class : Analysed
  pub analysed : IsAnalysis bytes class
  pub fits : clash_with class (record_of store.classes class.id) ≡ None
  pub coverage : Coverage
  pub tells : TellsCovered class.bodies (hits_or_none (hits_of store.classes class)) coverage
  pub counted : counters ≡ counters_of class.bodies coverage

-- the record of the class clashes with it
abbrev pub IsClashEnd : List ℕ → Store → End → Type 0
IsClashEnd bytes store end =
    (class : Analysed) × (why : ExecRefusal) × IsAnalysis bytes class × (clash_with class (record_of store.classes class.id) ≡ Some why)
    × (end ≡ refusal_of sample_path (fault.Exec 0 why))

-- ---- the line

-- how many methods, probes and cases there are
abbrev pub sizes_text : (methods probes cases : ℕ) → List ℕ
sizes_text methods probes cases =
    codes "sample " ++ (decimal methods ++ (codes ": " ++ (decimal probes ++ (codes " probes, " ++ (decimal cases ++ codes " cases, ")))))

-- how many instructions are covered, and how many are missed
abbrev pub instructions_text : Count → List ℕ
instructions_text c = decimal c.covered ++ (codes " covered and " ++ (decimal c.missed ++ codes " missed instructions, "))

-- the same of branches
abbrev pub branches_text : Count → List ℕ
branches_text c = decimal c.covered ++ (codes " covered and " ++ (decimal c.missed ++ codes " missed branches\n"))

unfoldable pub sample_text : (methods probes cases : ℕ) → Counters → List ℕ
sample_text methods probes cases c = sizes_text methods probes cases ++ (instructions_text c.instruction ++ branches_text c.branch)

-- ---- the work

-- the program of the instrumented class
abbrev pub linking : List ℕ → Part Program
linking bytes = do
  deciding (IsReadable bytes) (IsLongEnd bytes)
  deciding (IsRunProgram (bytes ∷ [])) (IsUnlinkedEnd bytes)

-- the counters are those of the class before probes were put in
abbrev pub counting : (methods : ℕ) → Store → Part Counters
counting n store = deciding (AreCounters (sample_file n) store) (IsClashEnd (sample_file n) store)

-- what the cases hit, and the line of it
abbrev pub running : (methods probes : ℕ) → Program → Part (List ℕ)
running n probes program = do
  deciding (HaveEntries program (sample_plan n)) (IsEntryEnd program (sample_plan n))
  counters ← counting n (run_store program (sample_plan n))
  giving (sample_text n probes (length (sample_plan n).cases) counters)

-- the line of a sample with so many methods
abbrev pub sample_line : (methods : ℕ) → Part (List ℕ)
sample_line n = do
  class ← deciding (IsInstrumentedFile (sample_file n)) (IsRefusedEnd (sample_file n))
  program ← linking class.bytes
  running n class.probes program

abbrev pub sample_work : (methods : ℕ) → Command
sample_work n = do
  line ← sample_line n
  writing (to_out line)
  ending done
