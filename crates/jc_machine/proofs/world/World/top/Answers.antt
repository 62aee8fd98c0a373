use Rattle.std.proofs.Common.{arith}
use Rattle.jc_machine.specs.Standings.{top_seen}
use Rattle.jc_machine.proofs.StandingSeenLaws.{in_ends, top_told, no_top}
use Rattle.jc_machine.proofs.world.World.top.Goals as goal

pub bounds : goal.bounds
bounds c = in_ends c.self.inside c.self.invariant c.args.self.now c.self.view_is c.args.thread c.requires.thread

pub index-requires : goal.index-requires
index-requires c =
    let less = in_ends c.self.inside c.self.invariant c.args.self.now c.self.view_is c.args.thread c.requires.thread in
    let many = c.self.invariant.stacks in
    omega (arith, less, many)

pub returns-in-Running : goal.returns-in-Running
returns-in-Running c =
    top_told c.self.inside c.self.invariant c.args.self.now c.self.view_is c.args.thread c.requires.thread c.index.result.now c.in-Running.is c.index.ensures
    (top_seen c.top_operand.result) (c.top_operand.ensures c.index.result.now.top.stack c.top_value.ensures)

pub returns-in_default : goal.returns-in_default
returns-in_default c = no_top c.self.inside c.self.invariant c.args.self.now c.self.view_is c.args.thread c.requires.thread c.in_default.not-Running
