use Rattle.std.proofs.Common.{◌≡◌, ◌+◌, take}
use Rattle.std.specs.List.{count_by}
use Rattle.jc_plan.specs.InsnFacts.{has_probe, ids_from}
use Rattle.jc_plan.proofs.planning.out_probes.Given as goal

-- the branches so far have their ids
abbrev pub invariant-numbering : goal.invariant-numbering
invariant-numbering l = record {
  listed : l.probes ≡ ids_from (has_probe l.multi_targets) l.initial.next (take l.branch-index l.branches);
  taken : l.next ≡ l.initial.next + count_by (λ x. has_probe l.multi_targets x.way) (take l.branch-index l.branches);
}
