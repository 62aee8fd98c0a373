use Rattle.std.proofs.Common.{◌≡◌, map, take}
use Rattle.jc_programs.specs.declared.program.Linked.{Linked}
use Rattle.jc_machine.specs.Hits.{count_in}
use Rattle.jc_workers.proofs.plan_runner.probe_counts.Given as goal

-- the numbers of the classes so far were put
abbrev pub invariant-counting : goal.invariant-counting
invariant-counting l = l.counts.items ≡ map (λ (c : Linked). count_in c.probes) (take l.class-index l.program.classes)
