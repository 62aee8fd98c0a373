use Rattle.std.proofs.Common.{sym, ◌∙◌, subst, arith}
use Rattle.jc_machine.specs.Machines.{Fits}
use Rattle.jc_machine.proofs.StandingSeenLaws.{in_ends, callee_told, no_callee}
use Rattle.jc_machine.proofs.world.World.callee.Goals as goal

pub bounds : goal.bounds
bounds c = in_ends c.self.inside c.self.invariant c.args.self.now c.self.view_is c.args.thread c.requires.thread

pub index-requires : goal.index-requires
index-requires c =
    let less = in_ends c.self.inside c.self.invariant c.args.self.now c.self.view_is c.args.thread c.requires.thread in
    let many = c.self.invariant.stacks in
    omega (arith, less, many)

pub returns-in-Running : goal.returns-in-Running
returns-in-Running c =
    let program = c.args.program.now in
    let fits = subst (Fits program) (sym c.self.view_is) c.requires.fits in
    c.callee_of.ensures ∙ (c.locked_callee.ensures program fits.prepared
    ∙ callee_told c.self.inside c.self.invariant c.args.self.now c.self.view_is c.args.thread c.requires.thread c.index.result.now c.in-Running.is
    c.index.ensures program)

pub returns-in_default : goal.returns-in_default
returns-in_default c =
    no_callee c.self.inside c.self.invariant c.args.self.now c.self.view_is c.args.thread c.requires.thread c.in_default.not-Running c.args.program.now
