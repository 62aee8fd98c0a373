use Rattle.std.proofs.Common.{rules, ◌≡◌, ◌+◌, length, vec_len, arith, ap, refl}
use Rattle.std.proofs.lemmas.Grind.{common_steps}
use Rattle.jc_board.specs.Places.{first_word, words_of}
use Rattle.jc_board.proofs.PlaceLaws.{class_in_front, first_word_more, first_word_first, first_word_last}
use Rattle.jc_board.proofs.layout.lay.Goals as goal
use Rattle.jc_board.proofs.layout.lay.Goals.{then-is_empty+in_ok-push-2, else-is_empty}

pub laying-init : goal.laying-init
laying-init c = (search rules, λ k h. absurd (omega (arith, h)), omega (arith, ap length c.new-words.ensures.items, first_word_first c.args.counts.now), λ k. grind (arith, common_steps))

pub laying-preserved : goal.laying-preserved
laying-preserved c =
    let i = c.laying.invariant in
    let more = first_word_more c.args.counts.now c.laying.count-index (omega arith) in
    let added = c.in_ok-resize.ensures in
    let counts = c.args.counts.now in (
      search rules,
      λ k h. let old = i.1 k in grind (arith, common_steps),
      omega (arith, added.len, more, i.2, c.room_for.ensures, c.len-in-laying.ensures),
      λ k. let old = i.3 k in let kept = added.by_index.0 k 0 in let zero = added.by_index.1 k 0 refl in let len = added.len in grind (arith, common_steps),
    )

pub returns-clause-layout : goal.returns-clause-layout
returns-clause-layout c =
    let counts = c.args.counts.now in
    let i = c.laying.invariant in
    let all : c.laying.count-index ≡ length counts = omega arith in
    let enough : words_of counts ≡ length c.laying.words.items = omega (arith, i.2, ap (first_word counts) all, first_word_last counts) in
    elim c.if-is_empty.branch [
      | then-is_empty+in_ok-push-2 w ↦ record {
        some_word = omega (arith, w.in_ok-push-2.ensures.len, ap vec_len w.words-is);
        enough = omega (arith, w.in_ok-push-2.ensures.len, ap vec_len w.words-is, enough);
        each_class = omega (arith, i.0, all);
        begins = λ class h. i.1 class (omega (arith, h, all));
      }
      | else-is_empty w ↦ record {
        some_word = let same = ap vec_len w.words-is in let some = w.if-is_empty.false in let is = c.is_empty.ensures in grind (arith, common_steps);
        enough = omega (arith, ap vec_len w.words-is, enough);
        each_class = omega (arith, i.0, all);
        begins = λ class h. i.1 class (omega (arith, h, all));
      }
    ]

pub returns-clause-apart : goal.returns-clause-apart
returns-clause-apart c =
    let counts = c.args.counts.now in
    let i = c.laying.invariant in
    let all : c.laying.count-index ≡ length counts = omega arith in
    λ a b front in_counts.
    omega (arith, i.1 a (omega (arith, front, in_counts, all)), i.1 b (omega (arith, in_counts, all)), class_in_front counts a b front in_counts)
