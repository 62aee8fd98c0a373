-- Where edges lead, and what else leads there.
use Rattle.std.specs.Prelude.{◌≡◌, ℕ, Some, Contains}
use Rattle.jc_methods.specs.declared.body.Body.{Body}
use Rattle.jc_methods.specs.declared.body.Handler.{Handler}
use Rattle.jc_plan.specs.declared.branch.Branch.{Branch}
use Rattle.jc_plan.specs.Edges.{place_of, branches}

-- the branch leads to the instruction
abbrev pub LeadsTo : Branch → ℕ → Type 0
LeadsTo x i = place_of x.way ≡ Some i

-- The branch is the one way to the instruction where it leads: no other branch leads there, and it is neither the
-- first instruction of the body nor a handler of one of its exception rows.
pub record IsOneWay (b : Body) (x : Branch) (i : ℕ) : Type 0 where
  pub leads : LeadsTo x i
  pub single : (y : Branch) → Contains (branches b.code) y → LeadsTo y i → y ≡ x
  pub not_first : i ≡ 0 → ⊥
  pub no_handler : (h : Handler) → Contains b.handlers h → h.target ≡ i → ⊥
