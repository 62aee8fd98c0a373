use Rattle.std.proofs.Common.{ℕ, ◌<◌, subst}
use Rattle.jc_dump_board.proofs.SplitLaws.{split_keeps}
use Rattle.jc_dump_board.proofs.board.give_part.Goals as goal

pub split_seat-requires : goal.split_seat-requires
split_seat-requires g c = (
  c.requires.table.0,
  c.requires.table.1,
  λ s k there. split_keeps c.args.words.now.key.items s.words s.views c.args.seat.now.id g.P.Part.amount c.args.seat.now.me.0
      (subst (λ (n : ℕ). 0 < n) c.requires.amount c.requires.part.0) (subst (λ (n : ℕ). n < c.args.seat.now.me.0.part) c.requires.amount c.requires.part.1) k there,
)
