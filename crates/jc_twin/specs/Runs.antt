-- What is said of the runs of a program, of its twin, and of one case.
use Rattle.std.specs.Prelude.{◌≡◌, ℕ, ◌≤◌, List}
use Rattle.jc_programs.specs.declared.program.Program.{Program}
use Rattle.jc_programs.specs.declared.run_plan.Case.{Case}
use Rattle.jc_programs.specs.declared.run_end.Entry.{Entry}
use Rattle.jc_programs.specs.Entries.{AreEntries}
use Rattle.jc_emit.specs.Marks.{Marks}
use Rattle.jc_twin_programs.specs.TwinProgram.{TwinProgram}
use Rattle.jc_machine_model.specs.Begin.{begin_case}
use Rattle.jc_machine_model.specs.CaseEnds.{case_end_in, case_end}
use Rattle.jc_machine_model.specs.CaseText.{case_text}
use Rattle.jc_machine_model.specs.Run.{run}
use Rattle.jc_machine_model.specs.World.{World}
use Rattle.jc_twin_simulation.specs.Marking.{AreMarks}
use Rattle.jc_twin_simulation.specs.Kept.{row}
use Rattle.jc_twin_simulation.specs.Same.{Same}
use Rattle.jc_twin_simulation.specs.Laws.{kept_of, IsKeptBySpread, AllByConstant}

-- where the one program is the twin of the other, and the threads of the case have entries; `marks` says of each instruction of
-- the twin what it is, which the two programs tell
abbrev pub ForTwins : (before after : Program) → Case → ((Entry → Marks) → Type 0) → Type 0
ForTwins before after case Law = (marks : Entry → Marks) → TwinProgram before after → AreMarks before after marks
    → (entries : List Entry) → AreEntries before case.threads entries → Law marks

-- the run of the twin leaves what the run of the original under its kept turns leaves
abbrev pub SameRun : (before after : Program) → Case → Type 0
SameRun before after case = ForTwins before after case
    (λ marks. (turns : List ℕ) → Same after marks (run before case (kept_of after marks case turns)) (run after case turns))

-- worlds that look the same print the same, with what stands in front of it
abbrev pub PrintTheSame : (before after : Program) → Type 0
PrintTheSame before after = (marks : Entry → Marks) → TwinProgram before after → (w w' : World) → Same after marks w w' → (k : ℕ)
    → case_text after k (case_end_in after w') ≡ case_text before k (case_end_in before w)

-- the text of the case that the twin prints is the text that the original prints under its kept turns
abbrev pub SameText : (before after : Program) → Case → Type 0
SameText before after case = ForTwins before after case (λ marks. (k : ℕ) (turns : List ℕ)
    → case_text after k (case_end after case turns) ≡ case_text before k (case_end before case (kept_of after marks case turns)))

-- each list of turns of the original is the kept part of one of the twin, which is at most 18 times as long
abbrev pub EachSchedule : (before after : Program) → Case → Type 0
EachSchedule before after case = ForTwins before after case (λ marks. (turns : List ℕ) → IsKeptBySpread before after marks case turns)

-- a thread of the twin takes at most 17 probe turns in a row
abbrev pub FewProbeTurns : (before after : Program) → Case → Type 0
FewProbeTurns before after case = ForTwins before after case
    (λ marks. (t : ℕ) (turns : List ℕ) → row after marks (begin_case after case) t turns 0 ≤ 17)

-- at most 9, where each class that has probes in the twin gets its array by a constant
abbrev pub FewerProbeTurns : (before after : Program) → Case → Type 0
FewerProbeTurns before after case = ForTwins before after case
    (λ marks. AllByConstant before after → (t : ℕ) (turns : List ℕ) → row after marks (begin_case after case) t turns 0 ≤ 9)
