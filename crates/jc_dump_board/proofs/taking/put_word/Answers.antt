use Rattle.std.proofs.Common.{◌≡◌, ◌+◌, ◌%◌, ◌<◌, length, get_or, arith, ap, sym, ◌∙◌, div-add-mod', []}
use Rattle.std.proofs.lemmas.List.{length-map}
use Rattle.std.specs.Int.{bit_at}
use Rattle.std.proofs.lemmas.Nat.Bits.{shr_and_one}
use Rattle.jc_board.proofs.HitSetLaws.{length_at}
use Rattle.jc_dump_board.proofs.PuttingLaws.{Puts, puts_none, puts_unset, puts_set}
use Rattle.jc_dump_board.proofs.taking.put_word.Goals as goal
use Rattle.jc_dump_board.proofs.taking.put_word.Goals.{In-loop-offset, then-bits-offset-eq1, else-bits-offset-eq1}

pub loop-offset-init : goal.loop-offset-init
loop-offset-init c = puts_none c.args.bits c.args.class c.args.first c.args.into.now

in_row : (c : In-loop-offset) → c.args.first + c.loop-offset.offset < length (get_or c.loop-offset.into c.args.class [])
in_row c =
    omega (
      arith,
      length_at c.loop-offset.into c.args.class,
      ap (λ l. get_or l c.args.class 0) c.loop-offset.invariant.0,
      length_at c.args.into.now c.args.class,
      c.requires.into.1,
      c.loop-offset-test.true,
    )

pub set-requires-clause-id : goal.set-requires-clause-id
set-requires-clause-id c = in_row (goal.at.set-requires-clause-id c).In-loop-offset

pub loop-offset-preserved : goal.loop-offset-preserved
loop-offset-preserved c =
    let bits = c.args.bits in
    let first = c.args.first in
    let class = c.args.class in
    let offset = c.loop-offset.offset in
    let was = c.args.into.now in
    let into = c.loop-offset.into in
    let now = c.if-bits-offset-eq1.into in
    let k = c.loop-offset.invariant in
    let low : (first + offset) % 64 ≡ offset = omega (arith, c.requires.first.0, c.loop-offset-test.true, div-add-mod' first 64, div-add-mod' (first + offset) 64) in
    let bit = shr_and_one bits offset in
    let in_class : class < length into = omega (arith, ap length k.0, c.requires.into.0, length-map into length, length-map was length) in
    elim c.if-bits-offset-eq1.branch as (λ _. Puts bits class first (offset + 1) was now) [
      | then-bits-offset-eq1 w ↦ puts_set bits class first offset was into now k (w.into-is ∙ w.set.ensures)
          (ap (bit_at bits) low ∙ sym bit ∙ w.if-bits-offset-eq1.true) in_class (in_row (goal.at.loop-offset-preserved c).In-loop-offset)
      | else-bits-offset-eq1 w ↦ puts_unset bits class first offset was into now k w.into-is (λ b. w.if-bits-offset-eq1.false (bit ∙ ap (bit_at bits) (sym low) ∙ b))
    ]
