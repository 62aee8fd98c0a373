use Rattle.std.proofs.Common.{◌-◌}
use Rattle.jc_plan.specs.Probed.{probe_count}
use Rattle.jc_cover.proofs.tally.Tally.add.Given as goal

-- the first id of the body by its plan
abbrev pub ghost-body_values : goal.ghost-body_values
ghost-body_values a = a.plan.now.next - probe_count a.body.now
