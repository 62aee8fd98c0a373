-- Which edges of a body are covered by hits of probes (JaCoCo's documentation on control flow).
use Rattle.std.specs.Prelude.{◌≡◌, ℕ, ◌↔◌, Bool, false, List, [], ◌∷◌, map, Option, Some, None, IsTrue, slice_get}
use Rattle.std.specs.Prelude.{slice_index_or, option_and_then, length, Contains}
use Rattle.jc_bytes.specs.PlainLists.{map_from}
use Rattle.jc_methods.specs.declared.insn.Insn.{Insn}
use Rattle.jc_methods.specs.declared.body.Body.{Body}
use Rattle.jc_programs.specs.declared.program.Program.{Program}
use Rattle.jc_programs.specs.declared.program.Linked.{Linked}
use Rattle.jc_plan.specs.declared.branch.Branch.{Branch}
use Rattle.jc_plan.specs.Edges.{branches_of, branches}
use Rattle.jc_plan.specs.Leading.{LeadsTo}
use Rattle.jc_plan.specs.Probed.{is_probed, id_of, first_id}
use Rattle.jc_plan.specs.ClassEdges.{ClassEdge, ProgramEdge, in_its_class}
use Rattle.jc_cover.specs.declared.coverage.Coverage.{Coverage}

-- ---- hits

-- the probe with this id is hit; one that isn't listed isn't
abbrev pub is_hit : List Bool → ℕ → Bool
is_hit hits id = slice_index_or hits id false

-- nothing stands for no hit
abbrev pub hits_or_none : Option (List Bool) → List Bool
hits_or_none None = []
hits_or_none (Some hits) = hits

-- ---- chains, in a body whose first id is `first`

-- the edge has a probe, and its id is hit
abbrev pub HasHit : Body → ℕ → List Bool → Branch → Type 0
HasHit b first hits x = IsTrue (is_probed b x) × IsTrue (is_hit hits (id_of b first x))

-- the edge has no probe and leads to the instruction where the other begins
abbrev pub LeadsOn : Body → Branch → Branch → Type 0
LeadsOn b x y = (is_probed b x ≡ false) × LeadsTo x y.at

-- Each edge but the last has no probe and leads to the instruction where the next begins, and the last has a probe
-- whose id is hit.
abbrev pub IsChain : Body → ℕ → List Bool → List Branch → Type 0
IsChain b first hits [] = ⊥
IsChain b first hits (x ∷ []) = Contains (branches b.code) x × HasHit b first hits x
IsChain b first hits (x ∷ y ∷ rest) = Contains (branches b.code) x × LeadsOn b x y × IsChain b first hits (y ∷ rest)

-- a chain begins with the edge
abbrev pub Covered : Body → ℕ → List Bool → Branch → Type 0
Covered b first hits x = (rest : List Branch) × IsChain b first hits (x ∷ rest)

-- an instruction is covered where one of its branches is
abbrev pub CoveredInsn : Body → ℕ → List Bool → ℕ → Type 0
CoveredInsn b first hits i = (x : Branch) × (x.at ≡ i) × Covered b first hits x

-- ---- the same by rule

-- A branch with a probe is covered where its probe is hit. A branch without a probe that leads to an instruction is
-- covered where a branch of that instruction is.
pub data CoveredByRule (b : Body) (first : ℕ) (hits : List Bool) : Branch → Type 0 where
  by_probe : (x : Branch) → Contains (branches b.code) x → HasHit b first hits x → CoveredByRule b first hits x
  by_next : (x y : Branch) → Contains (branches b.code) x → LeadsOn b x y → CoveredByRule b first hits y → CoveredByRule b first hits x

-- ---- in a class and in a program

-- an edge of the body with this number is covered, by hits of the class's probes
pub record IsCovered (bodies : List Body) (hits : List Bool) (e : ClassEdge) : Type 0 where
  pub body : Body
  pub stands : slice_get bodies e.body ≡ Some body
  pub covered : Covered body (first_id bodies e.body) hits e.branch

-- an edge of the class at this place is, by the hits of each class
pub record IsProgramCovered (program : Program) (hits : List (List Bool)) (e : ProgramEdge) : Type 0 where
  pub class : Linked
  pub stands : slice_get program.classes e.class ≡ Some class
  pub covered : IsCovered class.bodies (slice_index_or hits e.class []) (in_its_class e)

-- ---- the coverage of a class

-- how many branches each instruction has
abbrev pub branch_count : ℕ → Insn → ℕ
branch_count i insn = length (branches_of i insn)

abbrev pub body_shape : Body → List ℕ
body_shape b = map_from branch_count 0 b.code

-- the coverage has one value for each branch of each instruction of each body
abbrev pub HasShape : List Body → Coverage → Type 0
HasShape bodies coverage = map (map length) coverage.edges ≡ map body_shape bodies

-- the values for an instruction: by the numbers of the body and of the instruction
abbrev pub values_of : Coverage → ℕ → ℕ → Option (List Bool)
values_of coverage n i = option_and_then (λ insns. slice_get insns i) (slice_get coverage.edges n)

-- the value for a branch: by the numbers of the body, of the instruction and of the branch among those of the instruction
abbrev pub value_at : Coverage → ℕ → ℕ → ℕ → Option Bool
value_at coverage n i k = option_and_then (λ values. slice_get values k) (values_of coverage n i)

-- the value for a branch with these numbers, of a body whose first id is `first`, is true exactly where the branch is covered
abbrev pub TellsBranch : Coverage → ℕ → ℕ → ℕ → Body → ℕ → List Bool → Branch → Type 0
TellsBranch coverage n i k b first hits x = (value : Bool) × (value_at coverage n i k ≡ Some value) × (IsTrue value ↔ Covered b first hits x)

-- each value of a covered branch is true, and each other one is false
pub record TellsCovered (bodies : List Body) (hits : List Bool) (coverage : Coverage) : Type 0 where
  pub shape : HasShape bodies coverage
  pub values : (n i k : ℕ) (b : Body) (insn : Insn) (x : Branch) → slice_get bodies n ≡ Some b
      → slice_get b.code i ≡ Some insn → slice_get (branches_of i insn) k ≡ Some x
      → TellsBranch coverage n i k b (first_id bodies n) hits x
