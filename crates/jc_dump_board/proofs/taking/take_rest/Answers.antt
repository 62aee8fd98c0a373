use Rattle.std.proofs.Common.{ℕ, ◌≡◌, arith, ◌∙◌, subst, refl, inl, ⊎_elim}
use Rattle.jc_board.specs.Places.{word_at}
use Rattle.jc_board.specs.Rule.{IsProbe}
use Rattle.jc_dump_board.specs.Taking.{Taken}
use Rattle.jc_dump_board.proofs.TakenLaws.{taken_more}
use Rattle.jc_dump_board.proofs.taking.take_rest.Goals as goal

pub loop-word-preserved : goal.loop-word-preserved
loop-word-preserved c =
    let counts = c.args.words.now.key.items in
    let word = c.loop-word.word in
    let i = c.loop-word.invariant in
    let takes = c.take_word.ensures.taken in
    let apart = λ (d j : ℕ) (p : IsProbe counts d j) (e : word_at counts d j ≡ word).
    ⊎_elim (λ low. let no : ⊥ = omega (arith, low, e, i.3) in no) (λ high. let no : ⊥ = omega (arith, high, e, c.loop-word-test.true) in no) (c.requires.none d j p) in (
      c.take_word.ensures.table ∙ i.0,
      takes.slots ∙ i.1,
      takes.same_part ∙ i.2,
      omega (arith, i.3),
      λ was into_was into t. taken_more counts word was c.loop-word.seat.me c.take_word.result c.take_word.new.seat.me into_was into into (i.4 was into_was into t) takes refl
          (λ d j. ((λ h. inl h), (λ h. ⊎_elim (λ x. x) (λ s. absurd (apart d j s.0.0 s.0.1)) h))),
    )

pub returns-clause-taken : goal.returns-clause-taken
returns-clause-taken c =
    let all : c.loop-word.word ≡ c.args.end = omega (arith, c.loop-word-test.false, c.requires.end.0) in
    λ was into_was into t. subst (λ w. Taken c.args.words.now.key.items w was c.loop-word.seat.me.0 into_was into) all (c.loop-word.invariant.4 was into_was into t)
