use Rattle.std.proofs.Common.{◌≡◌, map}
use Rattle.std.specs.List.{range_with_len}
use Rattle.jc_command_sample.specs.SamplePlan.{sample_case}
use Rattle.jc_command_sample.proofs.plan.sample_plan.Given as goal

-- the cases so far
abbrev pub invariant-planning : goal.invariant-planning
invariant-planning l = l.cases ≡ map (sample_case l.methods) (range_with_len 0 l.number)
