use Rattle.std.proofs.Common.{rules}
use Rattle.jc_dump_board.proofs.SplitLaws.{join_keeps}
use Rattle.jc_dump_board.proofs.board.DumpSeat.join.Goals as goal

pub join_seat-requires : goal.join_seat-requires
join_seat-requires c = (
  search rules,
  search rules,
  search rules,
  search rules,
  λ s k there apart yonder. join_keeps _ _ _ _ _ _ _ (search rules) k there apart yonder,
)
