use Rattle.jc_kinds_after.proofs.EffectsLaws.{made_class}
use Rattle.jc_kinds_after.proofs.effects.Effects.class_made.Goals as goal

pub returns : goal.returns
returns c = λ names are.
    made_class names c.args.self.now c.args.at c.requires.made.0 c.in_ok-place.place c.index-deref-at.result c.deref.result.now c.at.result.now
    c.class_of.result are c.requires.made.1 c.deref.ensures c.index-deref-at.is c.in_ok-place.ensures
    (λ what used d. c.at.ensures names what are used d) (c.class_of.ensures names)
