use Rattle.std.proofs.Common.{◌≡◌, ◌+◌, map, take}
use Rattle.jc_bytes.specs.PlainLists.{map_from, numbers_from}
use Rattle.jc_plan.specs.Probed.{probes_before}
use Rattle.jc_plan.specs.Plan.{lead_probe, out_probes}
use Rattle.jc_plan.proofs.planning.plan.Given as goal

-- the instructions so far have their probes
abbrev pub invariant-planning : goal.invariant-planning
invariant-planning l = record {
  taken : l.next ≡ l.fn.first + probes_before l.body (record { at = l.at; number = 0 });
  leads : l.lead ≡ map (lead_probe l.body l.fn.first) (numbers_from 0 l.at);
  outs : l.out ≡ map_from (out_probes l.body l.fn.first) 0 (take l.at l.body.code);
}
