use Rattle.std.proofs.Common.{arith}
use Rattle.jc_machine.proofs.StandingSeenLaws.{in_ends, standing_told, no_standing}
use Rattle.jc_machine.proofs.world.World.stands.Goals as goal

pub bounds : goal.bounds
bounds c = in_ends c.self.inside c.self.invariant c.args.self.now c.self.view_is c.args.thread c.requires.thread

pub index-requires : goal.index-requires
index-requires c =
    let less = in_ends c.self.inside c.self.invariant c.args.self.now c.self.view_is c.args.thread c.requires.thread in
    let many = c.self.invariant.stacks in
    omega (arith, less, many)

pub returns-in-Running : goal.returns-in-Running
returns-in-Running c = λ program p fits.
    standing_told c.self.inside c.self.invariant c.args.self.now c.self.view_is c.args.thread c.requires.thread c.index.result.now c.in-Running.is
    c.index.ensures program c.frame_standing.result p fits c.frame_standing.ensures

pub returns-in_default : goal.returns-in_default
returns-in_default c = λ program p fits.
    no_standing c.self.inside c.self.invariant c.args.self.now c.self.view_is c.args.thread c.requires.thread c.in_default.not-Running program
