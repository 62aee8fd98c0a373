use Rattle.std.proofs.Common.{◌+◌, ◌<◌, ◌/◌, ◌%◌, length, arith, ap, sym, ◌∙◌, get_or, []}
use Rattle.std.proofs.lemmas.List.{length-map}
use Rattle.std.specs.Int.{bit_at}
use Rattle.std.specs.Slots.{slots_items}
use Rattle.std.proofs.lemmas.Nat.Bits.{shr_and_one}
use Rattle.jc_board.specs.Copying.{Copies}
use Rattle.jc_board.proofs.HitSetLaws.{length_at, read}
use Rattle.jc_board.proofs.CopyingLaws.{copied_set, copied_unset}
use Rattle.jc_board.proofs.closing.copy_class.Goals as goal
use Rattle.jc_board.proofs.closing.copy_class.Goals.{In-loop-id, then-word-id-eq1, else-word-id-eq1}

in_row : (c : In-loop-id) → c.loop-id.id < length (get_or c.loop-id.into c.args.class [])
in_row c =
    omega (arith, length_at c.loop-id.into c.args.class, ap (λ l. get_or l c.args.class 0) c.loop-id.invariant.counts, length_at c.args.into.now c.args.class, c.requires.into.1, c.loop-id-test.true)

pub set-requires-clause-id : goal.set-requires-clause-id
set-requires-clause-id c = in_row (goal.at.set-requires-clause-id c).In-loop-id

pub loop-id-preserved : goal.loop-id-preserved
loop-id-preserved c =
    let words = slots_items c.args.closed.now.words in
    let first = c.args.start in
    let class = c.args.class in
    let id = c.loop-id.id in
    let was = c.args.into.now in
    let into = c.loop-id.into in
    let now = c.if-word-id-eq1.into in
    let is = ap (λ n. bit_at n (id % 64)) (read words (first + id / 64) c.word.result 0 c.word.ensures) in
    let bit = shr_and_one c.word.result (id % 64) in
    let in_class : class < length into = omega (arith, ap length c.loop-id.invariant.counts, c.requires.into.0, length-map into length, length-map was length) in
    elim c.if-word-id-eq1.branch as (λ _. Copies words first class (id + 1) was now) [
      | then-word-id-eq1 w ↦ copied_set words first class id was into now c.loop-id.invariant (w.into-is ∙ w.set.ensures)
          (is ∙ sym bit ∙ w.if-word-id-eq1.true) in_class (in_row (goal.at.loop-id-preserved c).In-loop-id)
      | else-word-id-eq1 w ↦ copied_unset words first class id was into now c.loop-id.invariant w.into-is (λ b. w.if-word-id-eq1.false (bit ∙ sym is ∙ b))
    ]
