-- The laws of programs and their twins.
use Rattle.std.specs.Prelude.{◌≡◌, ℕ, ◌*◌, ◌≤◌, List, length, Some, slice_get}
use Rattle.jc_methods.specs.ProbeMembers.{fetch_of}
use Rattle.jc_methods.specs.declared.probe_members.Fetch.TheVariants as fetches
use Rattle.jc_methods.specs.declared.body.Body.{Body}
use Rattle.jc_programs.specs.declared.program.Program.{Program}
use Rattle.jc_programs.specs.declared.program.Linked.{Linked}
use Rattle.jc_programs.specs.declared.run_plan.Case.{Case}
use Rattle.jc_programs.specs.declared.run_end.Entry.{Entry}
use Rattle.jc_programs.specs.Entries.{AreEntries}
use Rattle.jc_emit.specs.Marks.{Marks}
use Rattle.jc_twin_programs.specs.TwinProgram.{IsChangedPair, TwinProgram}
use Rattle.jc_machine_model.specs.World.{World}
use Rattle.jc_machine_model.specs.Step.{step}
use Rattle.jc_machine_model.specs.Begin.{begin_case}
use Rattle.jc_machine_model.specs.Run.{run}
use Rattle.jc_twin_simulation.specs.Marking.{AreMarks}
use Rattle.jc_twin_simulation.specs.Kept.{is_kept, kept, row, step_if}
use Rattle.jc_twin_simulation.specs.Spread.{IsSpread}
use Rattle.jc_twin_simulation.specs.Same.{Same}
use Rattle.jc_twin_simulation.specs.Sides.{Side, AreSides, AreMarksOf}
use Rattle.jc_twin_simulation.specs.Beside.{Beside}

-- ---- marks

-- each program and its twin have marks
abbrev pub HaveMarks : Type 0
HaveMarks = (p p' : Program) → TwinProgram p p' → (marks : Entry → Marks) × AreMarks p p' marks

-- of each method that is there they have one
abbrev pub HaveOneMarks : Type 0
HaveOneMarks = (p p' : Program) → TwinProgram p p' → (marks others : Entry → Marks) → AreMarks p p' marks → AreMarks p p' others
    → (method : Entry) (class : Linked) (b : Body) → slice_get p.classes method.class ≡ Some class → slice_get class.bodies method.method ≡ Some b
    → marks method ≡ others method

-- ---- one turn

-- the methods of each program beside those of its twin are there
abbrev pub HaveSides : Type 0
HaveSides = (p p' : Program) (marks : Entry → Marks) → TwinProgram p p' → AreMarks p p' marks
    → (sides : Entry → Side) × AreSides p p' sides × AreMarksOf p p' marks sides

-- of each program and its twin, with the methods of the one beside those of the other
abbrev pub ForSides : ((p p' : Program) → (Entry → Marks) → (Entry → Side) → Type 0) → Type 0
ForSides Law = (p p' : Program) (marks : Entry → Marks) (sides : Entry → Side) → TwinProgram p p' → AreSides p p' sides
    → AreMarksOf p p' marks sides → Law p p' marks sides

-- the worlds in which a case begins stand beside each other
abbrev pub CasesBeginBeside : Type 0
CasesBeginBeside = ForSides (λ p p' marks sides. (case : Case) (entries : List Entry) → AreEntries p case.threads entries
    → Beside p p' sides (begin_case p case) (begin_case p' case))

-- A turn that is kept is one of both worlds, and another one is a turn of the twin's world alone: they still stand beside each other.
abbrev pub TurnsStayBeside : Type 0
TurnsStayBeside = ForSides (λ p p' marks sides. (w w' : World) (t : ℕ) → Beside p p' sides w w'
    → Beside p p' sides (step_if (is_kept p' marks w' t) p w t) (step p' w' t))

-- worlds that stand beside each other look the same
abbrev pub BesideIsSame : Type 0
BesideIsSame = ForSides (λ p p' marks sides. (w w' : World) → Beside p p' sides w w' → Same p' marks w w')

-- ---- runs

-- of each program and its twin, and of each case whose threads have entries
abbrev pub ForCases : ((p p' : Program) → (Entry → Marks) → Case → Type 0) → Type 0
ForCases Law = (p p' : Program) (marks : Entry → Marks) → TwinProgram p p' → AreMarks p p' marks
    → (case : Case) (entries : List Entry) → AreEntries p case.threads entries → Law p p' marks case

-- the turns of a run of the twin that are kept
abbrev pub kept_of : Program → (Entry → Marks) → Case → List ℕ → List ℕ
kept_of p' marks case turns = kept p' marks (begin_case p' case) turns

-- A run of the twin leaves the same as the run of the original under its kept turns.
abbrev pub RunsAreSame : Type 0
RunsAreSame = ForCases (λ p p' marks case. (turns : List ℕ) → Same p' marks (run p case (kept_of p' marks case turns)) (run p' case turns))

-- a schedule of the original as one of the twin
abbrev pub IsSpreadOf : Program → (Entry → Marks) → Case → (q turns : List ℕ) → Type 0
IsSpreadOf p' marks case q turns = IsSpread p' marks (begin_case p' case) q turns

-- Each schedule of the original is one of the twin, spread: the kept turns of the twin's run give the run of the original. So no
-- schedule is lost. The twin's is at most 18 times as long.
pub record IsKeptBySpread (p p' : Program) (marks : Entry → Marks) (case : Case) (q : List ℕ) : Type 0 where
  pub turns : List ℕ
  pub spread : IsSpreadOf p' marks case q turns
  pub same : (others : List ℕ) → IsSpreadOf p' marks case q others → run p case (kept_of p' marks case others) ≡ run p case q
  pub short : (others : List ℕ) → IsSpreadOf p' marks case q others → length others ≤ 18 * length q

abbrev pub SchedulesAreKept : Type 0
SchedulesAreKept = ForCases (λ p p' marks case. (q : List ℕ) → IsKeptBySpread p p' marks case q)

-- a thread takes at most 17 probe turns in a row, wherever the run is cut
abbrev pub ProbeTurnsAreFew : Type 0
ProbeTurnsAreFew = ForCases (λ p p' marks case. (t : ℕ) (turns : List ℕ) → row p' marks (begin_case p' case) t turns 0 ≤ 17)

-- each class that has probes in the twin gets its array by a constant, as classes of its version do
abbrev pub AllByConstant : (p p' : Program) → Type 0
AllByConstant p p' = (place : ℕ) (class new : Linked) → slice_get p.classes place ≡ Some class → slice_get p'.classes place ≡ Some new
    → IsChangedPair p.names p'.names class new → fetch_of class.version ≡ fetches.Constant

-- then it takes at most 9
abbrev pub ProbeTurnsAreFewer : Type 0
ProbeTurnsAreFewer = ForCases (λ p p' marks case. AllByConstant p p'
    → (t : ℕ) (turns : List ℕ) → row p' marks (begin_case p' case) t turns 0 ≤ 9)
