use Rattle.std.proofs.Common.{◌≡◌, ◌-◌, take}
use Rattle.jc_bytes.specs.PlainLists.{map_from}
use Rattle.jc_plan.specs.Probed.{probe_count}
use Rattle.jc_cover.specs.Marking.{class_values}
use Rattle.jc_cover.proofs.covering.covered.Given as goal

-- the first id of the body by its plan
abbrev pub ghost-body_values : goal.ghost-body_values
ghost-body_values a = a.plan.now.next - probe_count a.body.now

-- the values of the bodies so far
abbrev pub invariant-covering : goal.invariant-covering
invariant-covering l = l.edges ≡ map_from (class_values l.class.bodies l.hits) 0 (take l.number l.class.bodies)
