use Rattle.std.proofs.Common.{◌≡◌, ◌-◌, length}
use Rattle.jc_programs.specs.Turns.{turns_around}
use Rattle.jc_machine.specs.Machines.{world_of, Fits, KeepsMemory}
use Rattle.jc_machine.proofs.RunLaws.{Underway}
use Rattle.jc_machine.proofs.world.World.run_around.Given as goal

abbrev pub invariant-turning : goal.invariant-turning
invariant-turning g l = record {
  underway : Underway l.program (world_of l.initial.self) (turns_around (length l.initial.self.threads) 0 l.turns) (g.S.ProbeSink.hits l.initial.sink)
      (world_of l.self) (turns_around (length l.initial.self.threads) l.k (l.turns - l.k)) (g.S.ProbeSink.hits l.sink);
  fits : Fits l.program l.self;
  memory : KeepsMemory l.initial.self l.self;
  counts : g.S.ProbeSink.counts l.sink ≡ g.S.ProbeSink.counts l.initial.sink;
}
