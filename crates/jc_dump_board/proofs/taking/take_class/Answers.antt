use Rattle.std.proofs.Common.{◌≡◌, ◌⊎◌, ◌+◌, ◌<◌, ◌≤◌, arith, inl, inr, ⊎_elim, ◌∙◌, subst, div-add-mod'}
use Rattle.jc_programs.specs.Probes.{words_for}
use Rattle.jc_board.specs.Places.{room_for, first_word, word_at}
use Rattle.jc_board.proofs.PlaceLaws.{none_between}
use Rattle.jc_dump_board.specs.Taking.{Taken}
use Rattle.jc_dump_board.proofs.TakenLaws.{taken_more, class_puts}
use Rattle.jc_dump_board.proofs.taking.take_class.Goals as goal
use Rattle.jc_dump_board.proofs.taking.take_class.Goals.{After-loop-nth}

pub loop-nth-preserved : goal.loop-nth-preserved
loop-nth-preserved c =
    let counts = c.args.words.now.key.items in
    let start = c.args.start in
    let nth = c.loop-nth.nth in
    let i = c.loop-nth.invariant in
    let takes = c.take_word-bits.ensures.taken in
    let puts = class_puts counts c.args.class nth start c.args.count c.take_word-bits.result c.requires.class.0 (omega (arith, c.ranges.class)) c.requires.class.1 c.requires.start.0
    (omega (arith, c.loop-nth-test.true, c.div_ceil-length.ensures)) c.loop-nth.into c.put_word.new.into c.put_word.ensures.hits in (
      c.take_word-bits.ensures.table ∙ i.0,
      takes.slots ∙ i.1,
      takes.same_part ∙ i.2,
      c.put_word.ensures.counts ∙ i.3,
      λ was into_was t. subst (λ w. Taken counts w was c.take_word-bits.new.seat.me.0 into_was c.put_word.new.into) (omega arith)
          (taken_more counts (start + nth) was c.loop-nth.seat.me c.take_word-bits.result c.take_word-bits.new.seat.me into_was c.loop-nth.into
          c.put_word.new.into (i.4 was into_was t) takes c.put_word.ensures.counts puts),
    )

pub overflow_add-start : goal.overflow_add-start
overflow_add-start c = omega (
  arith,
  c.loop-nth-test.true,
  c.div_ceil-length.ensures,
  c.requires.start.1,
  c.requires.few,
  div-add-mod' c.args.count 64,
  div-add-mod' (c.args.count + 63) 64,
)

words : (c : After-loop-nth) → c.div_ceil-length.result ≡ words_for c.args.count
words c = omega (arith, c.div_ceil-length.ensures, div-add-mod' c.args.count 64, div-add-mod' (c.args.count + 63) 64)

pub overflow_add-behind : goal.overflow_add-behind
overflow_add-behind c = omega (arith, words (goal.at.overflow_add-behind c).After-loop-nth, c.requires.start.1, c.requires.few)

pub overflow_add-end : goal.overflow_add-end
overflow_add-end c = omega (arith, c.room_for.ensures, c.requires.start.1, c.requires.few)

pub take_rest-requires-clause-none : goal.take_rest-requires-clause-none
take_rest-requires-clause-none c =
    let counts = c.args.words.now.key.items in
    let class = c.args.class in
    let length = words (goal.at.take_rest-requires-clause-none c).After-loop-nth in
    λ d i p. ⊎_elim
    (λ low. inl (omega (arith, low, length, c.requires.start.0)))
    (λ high. inr (omega (arith, high, c.room_for.ensures, c.requires.start.0)))
    (subst (λ n. (word_at counts d i < first_word counts class + words_for n) ⊎ (first_word counts class + room_for n ≤ word_at counts d i))
    c.requires.class.1 (none_between counts class d i c.requires.class.0 p.0))

pub take_rest-requires-clause-end : goal.take_rest-requires-clause-end
take_rest-requires-clause-end c =
    let length = words (goal.at.take_rest-requires-clause-end c).After-loop-nth in
    (omega (arith, length, c.room_for.ensures), omega (arith, c.room_for.ensures, c.requires.start.1))

pub returns-clause-taken : goal.returns-clause-taken
returns-clause-taken c =
    let counts = c.args.words.now.key.items in
    let last : c.loop-nth.nth ≡ c.div_ceil-length.result = omega (arith, c.loop-nth-test.false) in
    λ was into_was t. subst (λ n. Taken counts (c.args.start + n) was c.take_rest.new.seat.me.0 into_was c.loop-nth.into) c.room_for.ensures
    (c.take_rest.ensures.taken was into_was c.loop-nth.into
    (subst (λ n. Taken counts (c.args.start + n) was c.loop-nth.seat.me.0 into_was c.loop-nth.into) last (c.loop-nth.invariant.4 was into_was t)))
