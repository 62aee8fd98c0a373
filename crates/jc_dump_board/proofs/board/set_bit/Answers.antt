use Rattle.std.proofs.Common.{ℕ, ◌≡◌, ◌*◌, ◌%◌, ◌^◌, subst, arith}
use Rattle.std.specs.Prelude.{bit_or}
use Rattle.atomic_table.specs.Table.{State, Allows}
use Rattle.jc_board.proofs.PlaceLaws.{mask_is}
use Rattle.jc_dump_board.specs.declared.seat.View.{View}
use Rattle.jc_dump_board.specs.Views.{with_hit}
use Rattle.jc_dump_board.specs.Rule.{IsKept}
use Rattle.jc_dump_board.proofs.HitLaws.{hit_keeps}
use Rattle.jc_dump_board.proofs.board.set_bit.Goals as goal

pub fetch_or-requires : goal.fetch_or-requires
fetch_or-requires g c =
    let me = c.args.seat.now.me in
    let mask = 1 * 2 ^ (c.args.id % 64) % 18446744073709551616 in (
      c.requires.table,
      c.requires.word.1,
      subst (λ (x : ℕ × ℕ). Allows (λ (s : State (Unit {0}) View). IsKept c.args.words.now.key.items s.words s.views) c.args.words.now.table_id.slots
          c.args.seat.now.id me c.args.word (λ n. bit_or n mask) (λ n after. after ≡ (with_hit me.0 x.0 x.1, me.1)))
          (λ i. (c.requires.probe.0 i, c.requires.probe.1 i))
          (hit_keeps c.args.words.now.key.items c.args.words.now.table_id.slots c.args.seat.now.id me c.args.class c.args.id c.args.word mask
          c.requires.part (c.requires.range, omega (arith, c.ranges.class)) c.requires.word.0 (mask_is (c.args.id % 64) (omega arith))),
    )
