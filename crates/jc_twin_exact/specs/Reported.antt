-- What a report may say of programs that ran: of the instructions and branches that its counters count as covered.
use Rattle.std.specs.Prelude.{◌≡◌, ◌⊎◌, ℕ, ◌≤◌, ◌↔◌, Bool, List, [], ◌∷◌, ◌++◌, length, Some, IsTrue, slice_get, slice_index_or, Contains}
use Rattle.std.specs.List.{flat_map}
use Rattle.jc_methods.specs.declared.insn.Insn.{Insn}
use Rattle.jc_methods.specs.declared.body.Body.{Body}
use Rattle.jc_programs.specs.declared.program.Program.{Program}
use Rattle.jc_programs.specs.declared.program.Linked.{Linked}
use Rattle.jc_programs.specs.declared.run_plan.Case.{Case}
use Rattle.jc_programs.specs.declared.run_plan.RunPlan.{RunPlan}
use Rattle.jc_programs.specs.declared.run_end.Entry.{Entry}
use Rattle.jc_programs.specs.Members.{class_at}
use Rattle.jc_programs.specs.Turns.{turns_in}
use Rattle.jc_plan.specs.declared.branch.Branch.{Branch}
use Rattle.jc_plan.specs.Edges.{branches_of}
use Rattle.jc_plan.specs.ClassEdges.{ProgramEdge}
use Rattle.jc_emit.specs.Marks.{Marks}
use Rattle.jc_twin_programs.specs.TwinProgram.{TwinProgram}
use Rattle.jc_cover.specs.declared.coverage.Coverage.{Coverage}
use Rattle.jc_cover.specs.Covered.{HasShape, values_of, value_at, TellsCovered}
use Rattle.jc_cover.specs.Counters.{is_covered, counters_of}
use Rattle.jc_machine_model.specs.World.{Frame, running}
use Rattle.jc_machine_model.specs.Run.{run, IsHit}
use Rattle.jc_machine_model.specs.Taken.{taken, edges_stood}
use Rattle.jc_twin_simulation.specs.Marking.{AreMarks}
use Rattle.jc_twin_simulation.specs.Laws.{kept_of}
use Rattle.jc_twin_exact.specs.Exact.{IsChangedAt, HaveEntries, EndsWell, TellHits}

-- a branch of an instruction, by the places of its class and of its body
abbrev pub branch_edge : (class body : ℕ) → Branch → ProgramEdge
branch_edge class body x = record { class = class; body = body; branch = x }

module _ (before after : Program) (marks : Entry → Marks) (plan : RunPlan) where
  -- the turns of the original, in the case under its own schedule
  abbrev pub kept_in : Case → List ℕ
  kept_in case = kept_of after marks case (turns_in case)

  -- some case took the edge
  abbrev pub WasTaken : ProgramEdge → Type 0
  WasTaken e = (case : Case) × Contains plan.cases case × Contains (taken before case (kept_in case)) e

  -- it is the one edge of a goto, a return or athrow that is next in a thread of some case, which stopped there
  abbrev pub IsNext : ProgramEdge → Type 0
  IsNext e = (case : Case) × Contains plan.cases case × Contains (flat_map (edges_stood before) (run before case (kept_in case)).threads) e

  -- the instruction took a branch
  abbrev pub WasExecuted : (class body place : ℕ) → Type 0
  WasExecuted class body place = (x : Branch) × (x.at ≡ place) × WasTaken (branch_edge class body x)

  -- it is a goto, a return or athrow that is next in a thread that stopped
  abbrev pub IsNextInsn : (class body place : ℕ) → Type 0
  IsNextInsn class body place = (x : Branch) × (x.at ≡ place) × IsNext (branch_edge class body x)

  -- some case gave the instruction a turn
  pub record HadTurn (class body place : ℕ) : Type 0 where
    pub case : Case
    pub listed : Contains plan.cases case
    -- the turns before it, the thread, and the turns behind it
    pub front : List ℕ
    pub thread : ℕ
    pub back : List ℕ
    pub turns : kept_in case ≡ front ++ thread ∷ back
    pub frame : Frame
    pub waiting : List Frame
    pub runs : slice_get (run before case front).threads thread ≡ Some (running frame waiting)
    pub method : frame.method ≡ record { class = class; method = body }
    pub at : frame.place ≡ place

  -- in each case each thread returned, and nothing was raised
  abbrev pub AllEndWell : Type 0
  AllEndWell = (case : Case) → Contains plan.cases case → EndsWell after case (turns_in case)

  -- the coverage has a value for each branch, true exactly where the branch was taken
  pub record TellsTaken (class : ℕ) (bodies : List Body) (coverage : Coverage) : Type 0 where
    pub shape : HasShape bodies coverage
    pub values : (n i k : ℕ) (b : Body) (insn : Insn) (x : Branch) → slice_get bodies n ≡ Some b → slice_get b.code i ≡ Some insn
        → slice_get (branches_of i insn) k ≡ Some x
        → (value : Bool) × (value_at coverage n i k ≡ Some value) × (IsTrue value ↔ WasTaken (branch_edge class n x))

  -- What the counters of a class say that are made of this coverage. They count the instructions of methods that count, and the
  -- branches of those that have two or more; one is counted as covered where its value is true, or one of its values.
  pub record IsReported (class : ℕ) (bodies : List Body) (coverage : Coverage) : Type 0 where
    -- a covered instruction was executed, or is next in a stopped thread
    pub insns : (n i : ℕ) (b : Body) (insn : Insn) (values : List Bool) → slice_get bodies n ≡ Some b → slice_get b.code i ≡ Some insn
        → values_of coverage n i ≡ Some values → IsTrue (is_covered values) → WasExecuted class n i ⊎ IsNextInsn class n i
    -- a covered branch of an instruction with two or more was taken
    pub branches : (n i k : ℕ) (b : Body) (insn : Insn) (x : Branch) (value : Bool) → slice_get bodies n ≡ Some b → slice_get b.code i ≡ Some insn
        → slice_get (branches_of i insn) k ≡ Some x → 2 ≤ length (branches_of i insn) → value_at coverage n i k ≡ Some value → IsTrue value
        → WasTaken (branch_edge class n x)
    -- where all cases ended well, exactly these are covered
    pub exact_insns : AllEndWell → (n i : ℕ) (b : Body) (insn : Insn) (values : List Bool) → slice_get bodies n ≡ Some b
        → slice_get b.code i ≡ Some insn → values_of coverage n i ≡ Some values → IsTrue (is_covered values) ↔ WasExecuted class n i
    pub exact_branches : AllEndWell → (n i k : ℕ) (b : Body) (insn : Insn) (x : Branch) (value : Bool) → slice_get bodies n ≡ Some b
        → slice_get b.code i ≡ Some insn → slice_get (branches_of i insn) k ≡ Some x → value_at coverage n i k ≡ Some value
        → IsTrue value ↔ WasTaken (branch_edge class n x)
    -- and each instruction that had a turn was executed
    pub had_turn : AllEndWell → (n i : ℕ) → HadTurn class n i → WasExecuted class n i
    -- so the counters are those of what was taken
    pub counters : AllEndWell → (other : Coverage) → TellsTaken class bodies other → counters_of bodies coverage ≡ counters_of bodies other

-- of every program and its twin, every run plan whose threads have entries, the hits of the run plan, and each class with probes
abbrev pub ReportedEdges : (before after : Program) → RunPlan → Type 0
ReportedEdges before after plan =
    (marks : Entry → Marks) → TwinProgram before after → AreMarks before after marks → HaveEntries before plan
    → (hits : List (List Bool)) → TellHits (IsHit after plan) hits
    → (class : ℕ) (c : Linked) → class_at before class ≡ Some c → IsChangedAt after class
    → (coverage : Coverage) → TellsCovered c.bodies (slice_index_or hits class []) coverage → IsReported before after marks plan class c.bodies coverage
