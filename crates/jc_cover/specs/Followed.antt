-- What covered edges say of edges that were taken, whoever took them: one walk, a run, or many of them.
use Rattle.std.specs.Prelude.{◌≡◌, ℕ, ◌<◌, ◌↔◌, Bool, false, List, Some, Contains, IsTrue, slice_get}
use Rattle.jc_methods.specs.declared.body.Body.{Body}
use Rattle.jc_methods.specs.declared.body.Handler.{Handler}
use Rattle.jc_plan.specs.declared.branch.Branch.{Branch}
use Rattle.jc_plan.specs.Edges.{branches}
use Rattle.jc_plan.specs.Leading.{LeadsTo}
use Rattle.jc_plan.specs.Probed.{is_probed, id_of}
use Rattle.jc_plan.specs.ClassEdges.{ClassEdge, edge_in, IsClassEdge, HasId}
use Rattle.jc_cover.specs.Covered.{is_hit, IsCovered}

-- the instruction is the first one, or a handler, or a taken edge leads to it
pub data CameTo (b : Body) (Took : Branch → Type 0) (i : ℕ) : Type 0 where
  began : i ≡ 0 → CameTo b Took i
  caught : (row : Handler) → Contains b.handlers row → row.target ≡ i → CameTo b Took i
  led : (x : Branch) → Contains (branches b.code) x → LeadsTo x i → Took x → CameTo b Took i

-- Something came to the instruction of each reached edge, and each taken edge is reached.
pub record AreEntered (b : Body) (Took Reached : Branch → Type 0) : Type 0 where
  pub came : (x : Branch) → Contains (branches b.code) x → Reached x → CameTo b Took x.at
  pub reached : (x : Branch) → Took x → Reached x

-- Behind each taken edge without a probe another one was taken, where it leads. The number falls, as that of the turns
-- that are left does.
pub record AreFollowed (b : Body) (Took : Branch → ℕ → Type 0) : Type 0 where
  pub listed : (x : Branch) (left : ℕ) → Took x left → Contains (branches b.code) x
  pub next : (x : Branch) (left : ℕ) → Took x left → is_probed b x ≡ false
      → (y : Branch) × (later : ℕ) × (later < left) × LeadsTo x y.at × Took y later

-- each edge of the body whose probe is hit is reached
abbrev pub AreHitReached : Body → ℕ → List Bool → (Branch → Type 0) → Type 0
AreHitReached b first hits Reached =
    (x : Branch) → Contains (branches b.code) x → IsTrue (is_probed b x) → IsTrue (is_hit hits (id_of b first x)) → Reached x

-- the probe of each taken edge that has one is hit
abbrev pub AreTakenHit : Body → ℕ → List Bool → (Branch → ℕ → Type 0) → Type 0
AreTakenHit b first hits Took = (x : Branch) (left : ℕ) → Took x left → IsTrue (is_probed b x) → IsTrue (is_hit hits (id_of b first x))

-- the edge is one of those that were taken when so much was left
abbrev pub IsAmong : (ℕ → List Branch) → Branch → ℕ → Type 0
IsAmong took x left = Contains (took left) x

-- ---- in a class, by the numbers of its bodies

-- the edges of the body with this number, of those of the class
abbrev pub in_body : ℕ → (ClassEdge → Type 0) → Branch → Type 0
in_body n Fact x = Fact (edge_in n x)

abbrev pub AreEnteredInClass : List Body → (ClassEdge → Type 0) → (ClassEdge → Type 0) → Type 0
AreEnteredInClass bodies Took Reached = (n : ℕ) (b : Body) → slice_get bodies n ≡ Some b → AreEntered b (in_body n Took) (in_body n Reached)

abbrev pub AreFollowedInClass : List Body → (ClassEdge → ℕ → Type 0) → Type 0
AreFollowedInClass bodies Took = (n : ℕ) (b : Body) → slice_get bodies n ≡ Some b → AreFollowed b (λ x left. Took (edge_in n x) left)

-- it was taken when some number of turns was left
abbrev pub TookSometime : (ClassEdge → ℕ → Type 0) → ClassEdge → Type 0
TookSometime Took e = (left : ℕ) × Took e left

-- an edge like these has a probe of the id
abbrev pub IsIdOf : List Body → (ClassEdge → Type 0) → ℕ → Type 0
IsIdOf bodies Fact id = (e : ClassEdge) × HasId bodies e id × Fact e

-- Chains are sound, whoever took and reached edges of the class: where something came to each reached edge, and each hit is
-- the id of a reached edge, each covered edge is reached.
abbrev pub CoversReached : List Body → (ClassEdge → Type 0) → (ClassEdge → Type 0) → List Bool → Type 0
CoversReached bodies Took Reached hits =
    AreEnteredInClass bodies Took Reached → ((id : ℕ) → IsTrue (is_hit hits id) → IsIdOf bodies Reached id)
    → (e : ClassEdge) → IsCovered bodies hits e → Reached e

-- Chains are exact: where something came to each taken edge, behind each taken edge without a probe another one was taken,
-- and the hits are exactly the ids of the taken edges, exactly the taken edges are covered.
abbrev pub CoversTaken : List Body → (ClassEdge → ℕ → Type 0) → List Bool → Type 0
CoversTaken bodies Took hits =
    AreEnteredInClass bodies (TookSometime Took) (TookSometime Took) → AreFollowedInClass bodies Took
    → ((e : ClassEdge) → TookSometime Took e → IsClassEdge bodies e)
    → ((id : ℕ) → IsTrue (is_hit hits id) ↔ IsIdOf bodies (TookSometime Took) id)
    → (e : ClassEdge) → IsCovered bodies hits e ↔ TookSometime Took e
