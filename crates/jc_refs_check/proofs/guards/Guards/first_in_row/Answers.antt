use Rattle.std.proofs.Common.{inr, refl}
use Rattle.jc_refs_check.proofs.GuardLaws.{wanted_within}
use Rattle.jc_refs_check.proofs.RowsLaws.{guard_free, guard_wants, wanted_or_same}
use Rattle.jc_refs_check.specs.Unguarded.{wanted_at}
use Rattle.jc_refs_check.proofs.guards.Guards.first_in_row.Goals as goal

pub first_in_guard-requires-clause-want : goal.first_in_guard-requires-clause-want
first_in_guard-requires-clause-want c =
    let g = c.args.self.now in wanted_within g.classes.now.names g.body.now.frames c.args.guard.frame c.args.slot c.in-Some.want c.requires.frames c.in-Some.ensures

pub returns-in-Some : goal.returns-in-Some
returns-in-Some c =
    let g = c.args.self.now in let names = g.classes.now.names in let frames = g.body.now.frames in
    record {
      first = guard_wants names c.args.column.now.classes.items frames c.args.slot c.args.guard c.args.bound c.in-Some.want c.first_in_guard.result
          c.in-Some.ensures c.first_in_guard.ensures.first;
      reached = c.first_in_guard.ensures.reached;
      room = c.first_in_guard.ensures.room;
      others = wanted_or_same (wanted_at names frames c.args.guard.frame c.args.slot) c.in-Some.want c.args.reached.now.items c.first_in_guard.new.reached.items
          c.in-Some.ensures c.first_in_guard.ensures.others;
    }

pub returns-in-None : goal.returns-in-None
returns-in-None c =
    let g = c.args.self.now in let names = g.classes.now.names in let frames = g.body.now.frames in
    record {
      first = guard_free names c.args.column.now.classes.items frames c.args.slot c.args.guard c.args.bound c.in-None.ensures;
      reached = c.requires.reached;
      room = refl;
      others = λ class. inr refl;
    }
