-- What covered edges say of edges that were taken: of a program, its twin, the cases of a run plan, and turns for each.
use Rattle.std.specs.Prelude.{◌≡◌, ⊤, ℕ, ◌↔◌, Bool, true, false, List, [], Some, IsTrue, slice_get, slice_index_or, Contains}
use Rattle.std.specs.List.{AllByRecursion}
use Rattle.jc_programs.specs.declared.program.Program.{Program}
use Rattle.jc_programs.specs.declared.program.Linked.{Linked}
use Rattle.jc_programs.specs.declared.run_plan.Case.{Case}
use Rattle.jc_programs.specs.declared.run_plan.RunPlan.{RunPlan}
use Rattle.jc_programs.specs.declared.run_end.Entry.{Entry}
use Rattle.jc_programs.specs.Members.{class_at}
use Rattle.jc_programs.specs.Entries.{AreEntries}
use Rattle.jc_plan.specs.ClassEdges.{ProgramEdge}
use Rattle.jc_emit.specs.Marks.{Marks}
use Rattle.jc_twin_programs.specs.TwinProgram.{TwinProgram}
use Rattle.jc_cover.specs.Covered.{is_hit, IsProgramCovered}
use Rattle.jc_machine_model.specs.World.{Thread, returned, Hit}
use Rattle.jc_machine_model.specs.Methods.{declares_init}
use Rattle.jc_machine_model.specs.Run.{run}
use Rattle.jc_machine_model.specs.Taken.{taken, reached}
use Rattle.jc_twin_simulation.specs.Marking.{AreMarks}
use Rattle.jc_twin_simulation.specs.Laws.{kept_of}

-- ---- how cases end

-- the thread returned
abbrev pub HasReturned : Thread → Type 0
HasReturned (returned v) = ⊤
HasReturned _ = ⊥

abbrev pub HaveReturned : List Thread → Type 0
HaveReturned threads = AllByRecursion HasReturned threads

-- ---- classes

-- the twin's class at this place has probes: it declares `$jacocoInit`
abbrev pub IsChangedAt : Program → ℕ → Type 0
IsChangedAt after k = (c : Linked) × (class_at after k ≡ Some c) × (declares_init c ≡ true)

-- ---- what cases did

-- the threads of each case have entries
abbrev pub HaveEntries : Program → RunPlan → Type 0
HaveEntries before plan = (case : Case) → Contains plan.cases case → (entries : List Entry) × AreEntries before case.threads entries

-- what is so of some case of the run plan and its turns, which are told by the number of the case
pub record OfSomeCase (plan : RunPlan) (turns : ℕ → List ℕ) (Fact : Case → List ℕ → Type 0) : Type 0 where
  pub number : ℕ
  pub case : Case
  pub listed : slice_get plan.cases number ≡ Some case
  pub holds : Fact case (turns number)

-- what is so of each
abbrev pub OfEachCase : RunPlan → (ℕ → List ℕ) → (Case → List ℕ → Type 0) → Type 0
OfEachCase plan turns Fact = (number : ℕ) (case : Case) → slice_get plan.cases number ≡ Some case → Fact case (turns number)

module _ (before after : Program) (marks : Entry → Marks) where
  -- the original took the edge, under the kept turns
  abbrev pub Took : ProgramEdge → Case → List ℕ → Type 0
  Took e case turns = Contains (taken before case (kept_of after marks case turns)) e

  -- the same, or a thread stands at the instruction of the edge, which is a goto, a return or athrow
  abbrev pub Reached : ProgramEdge → Case → List ℕ → Type 0
  Reached e case turns = Contains (reached before case (kept_of after marks case turns)) e

-- the twin hit the probe
abbrev pub HasHit : Program → Hit → Case → List ℕ → Type 0
HasHit after hit case turns = Contains (run after case turns).hits hit

-- each thread returned, and no turn raised, whether it was caught or not
pub record EndsWell (after : Program) (case : Case) (turns : List ℕ) : Type 0 where
  pub returned : HaveReturned (run after case turns).threads
  pub calm : (run after case turns).shared.raised ≡ false

-- the lists, one for each class, tell which probes were hit
abbrev pub TellHits : (Hit → Type 0) → List (List Bool) → Type 0
TellHits IsHit hits = (class id : ℕ) → IsTrue (is_hit (slice_index_or hits class []) id) ↔ IsHit (record { class = class; id = id })

-- ---- the law

-- In classes with probes each covered edge was reached; and where each case ended well, the covered edges are those that were taken.
pub record IsExact (before after : Program) (marks : Entry → Marks) (plan : RunPlan) (turns : ℕ → List ℕ) (hits : List (List Bool)) : Type 0 where
  pub reached : (e : ProgramEdge) → IsChangedAt after e.class → IsProgramCovered before hits e → OfSomeCase plan turns (Reached before after marks e)
  pub taken : OfEachCase plan turns (EndsWell after) → (e : ProgramEdge) → IsChangedAt after e.class
      → IsProgramCovered before hits e ↔ OfSomeCase plan turns (Took before after marks e)

-- of every program and its twin, every run plan whose threads have entries, and turns for each case
abbrev pub ExactEdges : (before after : Program) → RunPlan → Type 0
ExactEdges before after plan =
    (marks : Entry → Marks) → TwinProgram before after → AreMarks before after marks → HaveEntries before plan
    → (turns : ℕ → List ℕ) (hits : List (List Bool)) → TellHits (λ hit. OfSomeCase plan turns (HasHit after hit)) hits
    → IsExact before after marks plan turns hits
