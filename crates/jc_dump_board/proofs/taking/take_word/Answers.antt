use Rattle.std.proofs.Common.{ℕ, List, subst}
use Rattle.atomic_table.specs.Table.{State, Allows}
use Rattle.jc_dump_board.specs.declared.seat.View.{View}
use Rattle.jc_dump_board.specs.Rule.{IsKept}
use Rattle.jc_dump_board.specs.Taking.{TakesWord}
use Rattle.jc_dump_board.proofs.SwapLaws.{swap_keeps}
use Rattle.jc_dump_board.proofs.taking.take_word.Goals as goal

pub swap-requires : goal.swap-requires
swap-requires g c =
    let me = c.args.seat.now.me in (
      c.requires.table.0,
      c.requires.table.1,
      subst (λ (x : ℕ × List ℕ). Allows (λ (s : State (Unit {0}) View). IsKept c.args.words.now.key.items s.words s.views) c.args.words.now.table_id.slots
          c.args.seat.now.id me c.args.word (λ _. 0) (TakesWord x.1 x.0 me))
          (λ i. (c.requires.word.0 i, c.requires.word.1 i))
          (swap_keeps c.args.words.now.key.items c.args.words.now.table_id.slots c.args.seat.now.id me c.args.word c.requires.part),
    )
