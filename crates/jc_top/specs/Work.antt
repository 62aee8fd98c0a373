-- The work of words: that of the command that they call.
use Rattle.std.specs.Prelude.{◌≡◌, ⊤, ℕ, List, [], ◌∷◌, ◌++◌, Option, None, Some, map}
use Rattle.jc_paths.specs.Paths.{FileText, in_folder}
use Rattle.jc_command_words.specs.Commands.{Mode, plainly, dumping, monitored, Called, instrument, run, merge, report, exec_info, class_info, cover, cover_sample, refs, lines, check, Means, NoForm}
use Rattle.jc_command_work.specs.Step.{Word}
use Rattle.jc_command_work.specs.Part.{End, misused, Outcome, Command, deciding, reading, ◌>>=◌}
use Rattle.jc_command_work.specs.Folders.{files_of}
use Rattle.jc_command_work.specs.Answered.{Answer, answered, preparing}
use Rattle.jc_command_work.specs.Closing.{closing}
use Rattle.jc_rules.specs.declared.rule.Rule.{Rule}
use Rattle.jc_command_exec.specs.Merge.{MergeAnswers}
use Rattle.jc_command_exec.specs.ExecInfo.{InfoAnswers}
use Rattle.jc_command_classes.specs.ClassInfo.{ListAnswers}
use Rattle.jc_command_classes.specs.Report.{ReportAnswers}
use Rattle.jc_command_classes.specs.Instrument.{InstrumentAnswers}
use Rattle.jc_command_run.specs.RunAnswers.{RunAnswers}
use Rattle.jc_command_monitored.specs.MonitoredAnswers.{MonitoredAnswers}
use Rattle.jc_command_dumped.specs.DumpedAnswers.{AnswersBy, DumpedAnswers, Dumping, Taken, dump_paths}
use Rattle.jc_command_refs.specs.RefsAnswers.{RefsFiles}
use Rattle.jc_command_rules.specs.LinesAnswers.{LinesAnswers}
use Rattle.jc_command_rules.specs.CheckAnswers.{Verdict, CheckAnswers}
use Rattle.jc_headline.specs.CoverWork.{cover_work}
use Rattle.jc_command_sample.specs.SampleWork.{sample_work}

-- the files that the words name are read, and what they answer is written
abbrev pub on_files : List FileText → (List Word → List (List ℕ) → Answer → Type 0) → Command
on_files files Answers = do
  paths ← files_of files
  answered paths (Answers paths)

-- a report by these texts of execution data
abbrev pub reporting : (csv name : Word) → Option Word → List (List ℕ) → List FileText → Command
reporting csv name exec texts files = on_files files (λ paths read. ReportAnswers csv name exec paths (texts ++ read))

-- the lines of classes by these texts of execution data
abbrev pub lining : Option Word → List (List ℕ) → List FileText → Command
lining exec texts files = on_files files (λ paths read. LinesAnswers exec paths (texts ++ read))

-- the inputs are read, rules are judged, and what is to be said is written; the command ends by whether they hold
abbrev pub judged : List Word → (List (List ℕ) → Outcome Verdict → Type 0) → Command
judged inputs Answers = do
  verdict ← preparing inputs Answers
  closing verdict.writes verdict.holds

abbrev pub judging_files : List FileText → (List Word → List (List ℕ) → Outcome Verdict → Type 0) → Command
judging_files files Answers = do
  paths ← files_of files
  judged paths (Answers paths)

-- rules on classes by these texts of execution data
abbrev pub checking : List Rule → Option Word → List (List ℕ) → List FileText → Command
checking rules exec texts files = judging_files files (λ paths read. CheckAnswers rules exec paths (texts ++ read))

-- what `run --dumps` makes of a run plan's text and class files
abbrev pub DumpsAnswers : Type 1
DumpsAnswers = Dumping → List Word → List (List ℕ) → Answer → Type 0

-- what `run` makes of them, by how the cases are run
abbrev pub run_answers : DumpsAnswers → (plan destfile : Word) → Mode → List ℕ → List Word → List (List ℕ) → Answer → Type 0
run_answers Dumps plan destfile (plainly workers) text paths read = RunAnswers plan destfile paths (text ∷ read)
run_answers Dumps plan destfile (dumping dir every workers) text paths read =
    Dumps (record { plan = plan; exec = destfile; dumps = dump_paths dir; every = every; workers = workers }) paths (text ∷ read)
run_answers Dumps plan destfile monitored text paths read = MonitoredAnswers plan destfile paths (text ∷ read)

abbrev pub work_with : DumpsAnswers → Called → Command
work_with Dumps (instrument dest files) = on_files files (λ paths. InstrumentAnswers (map (in_folder dest) paths) paths)
work_with Dumps (run plan destfile mode files) = do
  text ← reading plan
  on_files files (run_answers Dumps plan destfile mode text)
work_with Dumps (merge destfile inputs) = answered inputs (MergeAnswers destfile inputs)
work_with Dumps (report csv name None files) = reporting csv name None [] files
work_with Dumps (report csv name (Some exec) files) = do
  text ← reading exec
  reporting csv name (Some exec) (text ∷ []) files
work_with Dumps (exec_info inputs) = answered inputs (InfoAnswers inputs)
work_with Dumps (class_info files) = on_files files ListAnswers
work_with Dumps (cover dest plan destfile csv workers name files) =
    cover_work (record { dest = dest; plan = plan; exec = destfile; csv = csv; name = name; files = files })
work_with Dumps (cover_sample methods) = sample_work methods
work_with Dumps (refs files) = on_files files RefsFiles
work_with Dumps (lines None files) = lining None [] files
work_with Dumps (lines (Some exec) files) = do
  text ← reading exec
  lining (Some exec) (text ∷ []) files
work_with Dumps (check rules None files) = checking rules None [] files
work_with Dumps (check rules (Some exec) files) = do
  text ← reading exec
  checking rules (Some exec) (text ∷ []) files

-- the words are of no stated form, and the command ends as misused
abbrev pub IsUsage : List Word → End → Type 0
IsUsage words end = NoForm words × (end ≡ misused)

abbrev pub the_work_with : DumpsAnswers → List Word → Command
the_work_with Dumps words = do
  command ← deciding (Means words) (IsUsage words)
  work_with Dumps command

-- what a command asks for, where these dumps are taken
abbrev pub work_of : Taken → Called → Command
work_of taken = work_with (DumpedAnswers taken)

-- the files are read, and the cases of a run plan's text run on them
abbrev pub run_on : Taken → (plan destfile : Word) → Mode → List ℕ → List Word → Command
run_on taken plan destfile mode text paths = answered paths (run_answers (DumpedAnswers taken) plan destfile mode text paths)

-- no dumps
abbrev pub nothing_taken : Taken
nothing_taken = record { dumps = []; rest = [] }

-- all that the words ask for
abbrev pub the_work : Taken → List Word → Command
the_work taken = the_work_with (DumpedAnswers taken)

-- the same, whatever the dumps are
abbrev pub any_work : Taken → List Word → Command
any_work taken = the_work_with (AnswersBy taken)

-- the words don't ask for dumps
abbrev pub AsksNoDumps : Called → Type 0
AsksNoDumps (run plan destfile (dumping dir every workers) files) = ⊥
AsksNoDumps command = ⊤

abbrev pub AskNoDumps : List Word → Type 0
AskNoDumps words = (command : Called) → Means words command → AsksNoDumps command
