use Rattle.std.proofs.Common.{rules}
use Rattle.jc_refs_check.proofs.GuardLaws.{none_more, none_wanted, some_wanted}
use Rattle.jc_refs_check.proofs.guards.Guards.want.Goals as goal

pub returns-then-is_some : goal.returns-then-is_some
returns-then-is_some c = let g = c.args.self.now in some_wanted g.classes.now.names g.body.now.frames c.args.slot g.rows.now

pub looking-preserved : goal.looking-preserved
looking-preserved c =
    let g = c.args.self.now in
    none_more g.classes.now.names g.body.now.frames c.args.slot g.rows.now c.looking.guard-index c.wanted.result c.is_some.result c.looking.invariant c.wanted.ensures c.is_some.ensures
    c.if-is_some.false

pub returns : goal.returns
returns c =
    let g = c.args.self.now in none_wanted g.classes.now.names g.body.now.frames c.args.slot g.rows.now c.looking.guard-index (search rules) c.looking.invariant
