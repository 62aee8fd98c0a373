use Rattle.jc_kinds_after.proofs.EffectsLaws.{owner_built}
use Rattle.jc_kinds_after.proofs.effects.Effects.class_built.Goals as goal

pub returns-in-UninitThis : goal.returns-in-UninitThis
returns-in-UninitThis c = λ names place are. owner_built names c.args.self.now place c.args.old are c.in-UninitThis.is
