use Rattle.std.specs.Slots.{slots_items}
use Rattle.jc_board.specs.Copying.{Copies}
use Rattle.jc_board.proofs.closing.copy_class.Given as goal

abbrev pub invariant-loop-id : goal.invariant-loop-id
invariant-loop-id l = Copies (slots_items l.closed.words) l.start l.class l.id l.initial.into l.into
