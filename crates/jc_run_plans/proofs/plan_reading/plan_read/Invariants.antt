use Rattle.std.proofs.Common.{◌≡◌, ◌+◌, ◌≤◌, length}
use Rattle.jc_run_plans.specs.PlanWords.{lines_of}
use Rattle.jc_run_plans.specs.PlanReading.{AreFew, read_from, plan_read}
use Rattle.jc_run_plans.proofs.plan_reading.plan_read.Given as goal

-- the run plan is what comes of the lines that are left
abbrev pub invariant-lines : goal.invariant-lines
invariant-lines l =
    (plan_read l.fn.text ≡ read_from l.begun l.number (lines_of l.rest)) × AreFew l.begun.threads × (l.number + length l.rest ≤ length l.fn.text + 1)

abbrev pub decreases-lines : goal.decreases-lines
decreases-lines l = length l.rest
