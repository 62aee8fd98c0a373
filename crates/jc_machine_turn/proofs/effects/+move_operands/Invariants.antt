use Rattle.std.proofs.Common.{length}
use Rattle.jc_machine_turn.proofs.effects.+move_operands.Given as goal

abbrev pub decreases-move_operands : goal.decreases-move_operands
decreases-move_operands l = length l.places.now
