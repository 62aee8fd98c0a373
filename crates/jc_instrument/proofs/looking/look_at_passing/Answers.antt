use Rattle.std.proofs.Common.{ap, arith}
use Rattle.jc_instrument.specs.KeptStates.{places_kept}
use Rattle.jc_instrument.proofs.LookingLaws.{has_taken}
use Rattle.jc_instrument.proofs.looking.look_at_passing.Goals as goal

pub put_looked-requires-clause-taken : goal.put_looked-requires-clause-taken
put_looked-requires-clause-taken c =
    let first = c.args.so_far.now.room in
    let l = c.lacks-so_far.ensures in
    has_taken c.args.body first c.lacks-so_far.result l.straddling l.locals l.stack (c.has_room_so_far.ensures.0 c.if-not-has_room_so_far.false)
