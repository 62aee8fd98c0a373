use Rattle.std.proofs.Common.{◌≡◌, map, take}
use Rattle.jc_programs.specs.declared.program.Linked.{Linked}
use Rattle.jc_machine.specs.Hits.{count_in}
use Rattle.examples_callers.proofs.machine.counts.Given as goal

abbrev pub invariant-counting : goal.invariant-counting
invariant-counting l = l.counts.items ≡ map (λ (c : Linked). count_in c.probes) (take l.class-index l.program.classes)
