use Rattle.std.proofs.Common.{ℕ, subst, arith}
use Rattle.atomic_table.specs.Table.{State, Allows}
use Rattle.jc_board.specs.declared.seat.View.{View}
use Rattle.jc_board.specs.Views.{Peeks}
use Rattle.jc_board.specs.Rule.{IsKept}
use Rattle.jc_board.proofs.StepLaws.{peek_keeps}
use Rattle.jc_board.proofs.board.look_at.Goals as goal

pub load-requires : goal.load-requires
load-requires g c =
    let me = c.args.seat.now.me in (
      c.requires.table,
      c.requires.word.1,
      subst (λ (x : ℕ × ℕ). Allows (λ (s : State (Unit {0}) View). IsKept c.args.words.now.key.items s.words s.views) c.args.words.now.table_id.slots
          c.args.seat.now.id me c.args.word (λ n. n) (Peeks x.0 x.1 me))
          (λ i. (c.requires.probe.0 i, c.requires.probe.1 i))
          (peek_keeps c.args.words.now.key.items c.args.words.now.table_id.slots c.args.seat.now.id me c.args.class c.args.id c.args.word
          c.requires.part (c.requires.range, omega (arith, c.ranges.class)) c.requires.word.0),
    )
