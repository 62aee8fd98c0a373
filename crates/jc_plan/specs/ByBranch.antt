-- What a plan says of a branch.
use Rattle.std.specs.Prelude.{ℕ, Option, Some, None, option_and_then, slice_get}
use Rattle.jc_methods.specs.declared.plan.Plan.{Plan}
use Rattle.jc_plan.specs.declared.branch.Branch.{Branch}
use Rattle.jc_plan.specs.declared.branch.Way.{Way}
use Rattle.jc_plan.specs.declared.branch.Way.TheVariants.{Falls}

abbrev pub no_probe : Option (Option ℕ) → Option ℕ
no_probe None = None
no_probe (Some probe) = probe

-- A sequence has its probe in front of the instruction to which it leads, and another branch has it at its own
-- instruction, at its index `k` among the branches of that instruction.
abbrev pub planned_by : Way → Plan → ℕ → ℕ → Option ℕ
planned_by (Falls to) plan at k = no_probe (slice_get plan.lead to)
planned_by _ plan at k = no_probe (option_and_then (λ out. slice_get out k) (slice_get plan.out at))

abbrev pub planned : Plan → Branch → ℕ → Option ℕ
planned plan x k = planned_by x.way plan x.at k
