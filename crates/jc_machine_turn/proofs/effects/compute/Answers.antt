use Rattle.std.proofs.Common.{arith}
use Rattle.jc_machine_turn.proofs.EffectLaws.{few_moved}
use Rattle.jc_machine_turn.proofs.effects.compute.Goals as goal

pub move_operands-requires : goal.move_operands-requires
move_operands-requires c =
    omega (arith, few_moved c.args.op c.in-Moves.taken c.in-Moves.places.now c.args.frame.now.content.stack c.in-Moves.ensures, c.requires.room)
