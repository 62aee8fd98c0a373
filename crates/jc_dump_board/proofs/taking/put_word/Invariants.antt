use Rattle.jc_dump_board.proofs.PuttingLaws.{Puts}
use Rattle.jc_dump_board.proofs.taking.put_word.Given as goal

abbrev pub invariant-loop-offset : goal.invariant-loop-offset
invariant-loop-offset l = Puts l.bits l.class l.first l.offset l.initial.into l.into
