-- Walks through the bodies of a class, along edges and into exception handlers.
use Rattle.std.specs.Prelude.{◌≡◌, ⊤, ℕ, ◌<◌, ◌≤◌, ◌↔◌, Bool, List, [], ◌∷◌, ◌++◌, length, Option, Some, None, option_map}
use Rattle.std.specs.Prelude.{slice_get, Contains, IsTrue}
use Rattle.std.specs.List.{flat_map}
use Rattle.jc_methods.specs.Flow.{flow_of}
use Rattle.jc_methods.specs.declared.insn.Insn.{Insn}
use Rattle.jc_methods.specs.declared.insn.Flow.{Flow}
use Rattle.jc_methods.specs.declared.insn.Flow.TheVariants as flows
use Rattle.jc_methods.specs.declared.body.Body.{Body}
use Rattle.jc_methods.specs.declared.body.Handler.{Handler}
use Rattle.jc_plan.specs.declared.branch.Branch.{Branch}
use Rattle.jc_plan.specs.Edges.{exit, branches_of, branches}
use Rattle.jc_plan.specs.Leading.{LeadsTo}
use Rattle.jc_plan.specs.ClassEdges.{ClassEdge}
use Rattle.jc_cover.specs.Covered.{is_hit, IsCovered}
use Rattle.jc_cover.specs.Followed.{IsIdOf}

-- ---- walks

-- a walk, from where it stands
pub data Walk : Type 0 where
  -- it is cut
  cut : Walk
  -- it ends by a return
  returns : Walk
  -- it ends by a throw out of the body
  throws : Walk
  -- it takes an edge and goes on where that leads
  takes : (x : Branch) → (to : ℕ) → (rest : Walk) → Walk
  -- it is thrown and goes on at the handler of an exception row
  caught : (row : Handler) → (rest : Walk) → Walk

abbrev pub flow_at : List Insn → ℕ → Option Flow
flow_at code i = option_map flow_of (slice_get code i)

-- A walk goes on along an edge from where it stands, or is thrown at any instruction and goes on at the handler of some
-- row that guards it. It ends by a return or by a throw out of the body, or is cut anywhere.
abbrev pub IsWalkFrom : Body → ℕ → Walk → Type 0
IsWalkFrom b i cut = i < length b.code
IsWalkFrom b i returns = flow_at b.code i ≡ Some flows.Returns
IsWalkFrom b i throws = i < length b.code
IsWalkFrom b i (takes x to rest) = Contains (branches b.code) x × (x.at ≡ i) × LeadsTo x to × IsWalkFrom b to rest
IsWalkFrom b i (caught row rest) =
    (i < length b.code) × Contains b.handlers row × (row.start ≤ i) × (i < row.end) × IsWalkFrom b row.target rest

-- a walk of the body begins at its first instruction
abbrev pub IsWalk : Body → Walk → Type 0
IsWalk b w = IsWalkFrom b 0 w

-- ---- how it ended

abbrev pub EndedByReturn : Walk → Type 0
EndedByReturn cut = ⊥
EndedByReturn returns = ⊤
EndedByReturn throws = ⊥
EndedByReturn (takes x to rest) = EndedByReturn rest
EndedByReturn (caught row rest) = EndedByReturn rest

-- it was thrown nowhere
abbrev pub NeverThrown : Walk → Type 0
NeverThrown cut = ⊤
NeverThrown returns = ⊤
NeverThrown throws = ⊥
NeverThrown (takes x to rest) = NeverThrown rest
NeverThrown (caught row rest) = ⊥

-- ---- its edges

-- thrown at `athrow`, it takes the exit edge
abbrev pub thrown_by : Option Flow → ℕ → List Branch
thrown_by (Some flows.Throws) i = exit i ∷ []
thrown_by _ i = []

abbrev pub thrown_edges : Body → ℕ → List Branch
thrown_edges b i = thrown_by (flow_at b.code i) i

-- the edges that it took
abbrev pub taken : Body → ℕ → Walk → List Branch
taken b i cut = []
taken b i returns = exit i ∷ []
taken b i throws = thrown_edges b i
taken b i (takes x to rest) = x ∷ taken b to rest
taken b i (caught row rest) = thrown_edges b i ++ taken b row.target rest

-- the instructions at which it stood
abbrev pub stood : ℕ → Walk → List ℕ
stood i cut = i ∷ []
stood i returns = i ∷ []
stood i throws = i ∷ []
stood i (takes x to rest) = i ∷ stood to rest
stood i (caught row rest) = i ∷ stood row.target rest

-- the one edge of a goto, a return or athrow
abbrev pub lone_by : Flow → List Branch → List Branch
lone_by flows.Jumps edges = edges
lone_by flows.Returns edges = edges
lone_by flows.Throws edges = edges
lone_by _ edges = []

abbrev pub lone_of : ℕ → Option Insn → List Branch
lone_of i None = []
lone_of i (Some insn) = lone_by (flow_of insn) (branches_of i insn)

abbrev pub lone_edges : Body → ℕ → List Branch
lone_edges b i = lone_of i (slice_get b.code i)

-- the edges that it took, and the one edge of each goto, return and athrow at which it stood
abbrev pub reached : Body → ℕ → Walk → List Branch
reached b i w = taken b i w ++ flat_map (lone_edges b) (stood i w)

-- ---- in a class

-- a walk of the body with this number
pub record ClassWalk : Type 0 where
  pub body : ℕ
  pub walk : Walk

module _ (bodies : List Body) where
  abbrev pub IsClassWalk : ClassWalk → Type 0
  IsClassWalk w = (b : Body) × (slice_get bodies w.body ≡ Some b) × IsWalk b w.walk

  abbrev pub AreWalks : List ClassWalk → Type 0
  AreWalks walks = (w : ClassWalk) → Contains walks w → IsClassWalk w

  -- one of the walks took the edge
  pub record IsTaken (walks : List ClassWalk) (e : ClassEdge) : Type 0 where
    pub by : ClassWalk
    pub listed : Contains walks by
    pub same_body : by.body ≡ e.body
    pub body : Body
    pub stands : slice_get bodies e.body ≡ Some body
    pub took : Contains (taken body 0 by.walk) e.branch

  -- it is a reached edge of one of the walks
  pub record IsReached (walks : List ClassWalk) (e : ClassEdge) : Type 0 where
    pub by : ClassWalk
    pub listed : Contains walks by
    pub same_body : by.body ≡ e.body
    pub body : Body
    pub stands : slice_get bodies e.body ≡ Some body
    pub reaches : Contains (reached body 0 by.walk) e.branch

  -- ---- the law

  -- where each hit is the id of a reached edge of one of the walks, each covered edge is a reached edge of one
  abbrev pub ChainsAreSound : Type 0
  ChainsAreSound =
      (walks : List ClassWalk) (hits : List Bool) → AreWalks walks
      → ((id : ℕ) → IsTrue (is_hit hits id) → IsIdOf bodies (IsReached walks) id)
      → (e : ClassEdge) → IsCovered bodies hits e → IsReached walks e

  -- where all walks ended by a return and none was thrown, and the hits are exactly the ids of the edges that they took,
  -- the covered edges are exactly those that they took
  abbrev pub ChainsAreExact : Type 0
  ChainsAreExact =
      (walks : List ClassWalk) (hits : List Bool) → AreWalks walks
      → ((w : ClassWalk) → Contains walks w → EndedByReturn w.walk × NeverThrown w.walk)
      → ((id : ℕ) → IsTrue (is_hit hits id) ↔ IsIdOf bodies (IsTaken walks) id)
      → (e : ClassEdge) → IsCovered bodies hits e ↔ IsTaken walks e
