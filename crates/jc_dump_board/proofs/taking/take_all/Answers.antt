use Rattle.std.proofs.Common.{ℕ, ◌+◌, List, get_or, slice_index_or, arith, inl, ap, sym, refl, ◌∙◌, subst}
use Rattle.jc_board.specs.Places.{room_for, first_word, word_at}
use Rattle.jc_board.specs.Rule.{IsProbe}
use Rattle.jc_board.proofs.PlaceLaws.{first_word_more, first_word_first, first_word_le, class_below, word_in_front}
use Rattle.jc_dump_board.specs.Taking.{Taken}
use Rattle.jc_dump_board.proofs.TakenLaws.{taken_none}
use Rattle.jc_dump_board.proofs.taking.take_all.Goals as goal

pub loop-class-init : goal.loop-class-init
loop-class-init c = (sym (first_word_first c.args.counts.now), refl, refl, refl, c.requires.into, taken_none c.args.counts.now c.args.seat.now.me.0 c.args.into.now)

pub overflow_add-word : goal.overflow_add-word
overflow_add-word c =
    let layout = c.requires.layout.0 in
    let class = c.loop-class.class in
    let counts = c.args.counts.now in
    omega (arith, layout.begins class (omega arith), class_below counts class (omega arith), layout.enough, c.requires.layout.1, c.room_for.ensures)

pub take_class-requires-clause-start : goal.take_class-requires-clause-start
take_class-requires-clause-start c =
    let layout = c.requires.layout.0 in
    let class = c.loop-class.class in (
      layout.begins class (omega arith) ∙ ap (λ (l : List ℕ). first_word l class) (sym c.requires.counts),
      omega (arith, layout.begins class (omega arith), class_below c.args.counts.now class (omega arith), layout.enough),
    )

pub loop-class-preserved : goal.loop-class-preserved
loop-class-preserved c =
    let layout = c.requires.layout.0 in
    let class = c.loop-class.class in
    let counts = c.args.counts.now in
    let start = slice_index_or c.args.starts.now class 0 in
    let i = c.loop-class.invariant in
    let run = c.take_class.ensures in
    let same = c.requires.counts in
    let begins = layout.begins class (omega arith) in
    let was = c.args.seat.now.me.0 in
    let old = subst (λ (l : List ℕ). Taken l start was c.loop-class.seat.me.0 c.args.into.now c.loop-class.into) (sym same)
    (subst (λ n. Taken counts n was c.loop-class.seat.me.0 c.args.into.now c.loop-class.into) (i.0 ∙ sym begins) i.5) in (
      omega (arith, begins, c.room_for.ensures, first_word_more counts class (omega arith)),
      run.table ∙ i.1,
      run.part.0 ∙ i.2,
      run.part.1 ∙ i.3,
      run.counts ∙ i.4,
      subst (λ n. Taken counts (start + n) was c.take_class.new.seat.me.0 c.args.into.now c.take_class.new.into) (sym c.room_for.ensures)
          (subst (λ (l : List ℕ). Taken l (start + room_for (get_or counts class 0)) was c.take_class.new.seat.me.0 c.args.into.now c.take_class.new.into) same
          (run.taken was c.args.into.now old)),
    )

pub take_rest-requires-clause-none : goal.take_rest-requires-clause-none
take_rest-requires-clause-none c =
    let counts = c.args.counts.now in
    let class = c.loop-class.class in
    λ d i p.
    let probe = subst (λ (l : List ℕ). IsProbe l d i) c.requires.counts p in
    let in_class = probe.0.0 in
    let small = probe.1 in
    inl (omega (
      arith,
      word_in_front counts d i class probe.0 (omega (arith, in_class, small)) (omega arith),
      c.loop-class.invariant.0,
      ap (λ (l : List ℕ). word_at l d i) c.requires.counts,
    ))

pub take_rest-requires-clause-end : goal.take_rest-requires-clause-end
take_rest-requires-clause-end c = (
  omega (arith, c.loop-class.invariant.0, first_word_le c.args.counts.now c.loop-class.class, c.requires.layout.0.enough, c.requires.layout.1),
  omega (arith, c.requires.layout.1),
)

pub returns-clause-taken : goal.returns-clause-taken
returns-clause-taken c =
    let was = c.args.seat.now.me.0 in
    let same = c.requires.counts in
    subst (λ (l : List ℕ). Taken l c.args.end was c.take_rest.new.seat.me.0 c.args.into.now c.loop-class.into) same
    (c.take_rest.ensures.taken was c.args.into.now c.loop-class.into
    (subst (λ (l : List ℕ). Taken l c.loop-class.word was c.loop-class.seat.me.0 c.args.into.now c.loop-class.into) (sym same) c.loop-class.invariant.5))
