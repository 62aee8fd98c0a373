use Rattle.std.proofs.Common.{sym, ap, ◌∙◌}
use Rattle.jc_machine_model.specs.CaseEnds.{ends_in}
use Rattle.jc_machine.specs.Machines.{Machine, world_of}
use Rattle.jc_machine.proofs.MachineLaws.{ends_there}
use Rattle.jc_machine.proofs.world.World.ends.Goals as goal

pub returns : goal.returns
returns c = sym (ends_there c.self.inside c.self.invariant) ∙ ap (λ (m : Machine). ends_in (world_of m)) c.self.view_is
