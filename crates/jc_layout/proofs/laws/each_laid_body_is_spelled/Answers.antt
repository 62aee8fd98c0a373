use Rattle.std.proofs.Common.{subst, sym}
use Rattle.jc_layout.specs.LaidBody.{readied, SpellsLaid}
use Rattle.jc_layout.proofs.SpelledLaws.{laid_spells}
use Rattle.jc_layout.proofs.laws.each_laid_body_is_spelled.Goals as goal

pub returns : goal.returns
returns c = λ b first states given e is well wide p uses bytes starts giver_lt array_lt.
    subst (λ x. SpellsLaid b (readied given.fetch p.giver x) wide given.fetch p uses bytes starts) (sym is)
    (laid_spells b first states given wide p uses bytes starts well giver_lt array_lt)
