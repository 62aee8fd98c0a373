use Rattle.std.proofs.Common.{arith, ap, ◌∙◌, subst}
use Rattle.jc_programs.specs.Probes.{counts_of, IsHit}
use Rattle.jc_board.proofs.HitSetLaws.{no_hit, counts_of-no_hits}
use Rattle.jc_board.proofs.PlaceLaws.{class_below}
use Rattle.jc_board.proofs.closing.copy.Goals as goal

pub loop-class-init : goal.loop-class-init
loop-class-init c = (
  ap counts_of c.requires.into ∙ counts_of-no_hits c.args.counts.now,
  λ d i h. absurd (no_hit c.args.counts.now d i (subst (λ l. IsHit l d i) c.requires.into h)),
  λ d i below. absurd (omega (arith, below)),
)

pub copy_class-requires-clause-words : goal.copy_class-requires-clause-words
copy_class-requires-clause-words c =
    let laid = c.requires.layout in
    (c.requires.words, omega (arith, laid.enough, laid.begins c.loop-class.class (omega arith), class_below c.args.counts.now c.loop-class.class (omega arith)))
