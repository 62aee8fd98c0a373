use Rattle.std.proofs.Common.{◌∙◌, ap}
use Rattle.jc_kinds_after.specs.Does.{does}
use Rattle.jc_kinds_after.specs.Effects.{body_of}
use Rattle.jc_kinds_after.proofs.DoesLaws.{says_now}
use Rattle.jc_kinds_after.proofs.UsesLaws.{said_there, lent_some, lent_is}
use Rattle.jc_kinds_after.proofs.effects.Effects.at.Goals as goal

pub unwrap-requires : goal.unwrap-requires
unwrap-requires c =
    let there = said_there c.requires.read.0 (body_of c.args.self.now).uses c.args.self.now.uses c.args.place c.requires.used.0 c.requires.read.1.uses
    c.requires.used.1 in
    lent_some c.get.result there.0 (c.get.ensures.value ∙ there.1)

pub returns : goal.returns
returns c = λ names what are used d.
    let there = said_there names (body_of c.args.self.now).uses c.args.self.now.uses c.args.place what are.uses used in
    ap (does names) (lent_is c.get.result c.unwrap.result there.0 c.unwrap.ensures (c.get.ensures.value ∙ there.1)) ∙ says_now names what there.0 there.2 d
