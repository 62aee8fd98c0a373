use Rattle.std.proofs.Common.{length, sym, ap, ◌∙◌}
use Rattle.jc_machine.specs.Machines.{Machine}
use Rattle.jc_machine.proofs.MachineLaws.{counted}
use Rattle.jc_machine.proofs.world.World.thread_count.Goals as goal

pub returns-clause-count : goal.returns-clause-count
returns-clause-count c = sym (counted c.self.inside c.self.invariant) ∙ ap (λ (m : Machine). length m.threads) c.self.view_is
