use Rattle.std.proofs.Common.{arith}
use Rattle.jc_refs_check.proofs.GuardLaws.{wanted_within}
use Rattle.jc_refs_check.proofs.guards.Guards.forget_wanted.Goals as goal

pub index_mut-requires : goal.index_mut-requires
index_mut-requires c =
    let g = c.args.self.now in
    omega (arith, wanted_within g.classes.now.names g.body.now.frames c.args.guard.frame c.args.slot c.in-Some.want c.requires.frames c.in-Some.ensures)
