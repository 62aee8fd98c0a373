use Rattle.jc_kinds_after.specs.Effects.{body_of}
use Rattle.jc_kinds_after.proofs.EffectsLaws.{after_leaves, after_next, after_whole}
use Rattle.jc_kinds_after.proofs.effects.Effects.advance.Goals as goal

pub returns-clause-after : goal.returns-clause-after
returns-clause-after c = after_leaves c.args.names.now c.leave.new.names (body_of c.args.self.now) c.args.i c.args.state c.leave.result c.leave.ensures.after

pub returns-clause-next : goal.returns-clause-next
returns-clause-next c = after_next c.args.names.now c.leave.new.names
    (body_of c.args.self.now) c.args.i c.args.state c.requires.effects.body c.requires.state c.leave.result c.leave.ensures.after

pub returns-clause-whole : goal.returns-clause-whole
returns-clause-whole c = after_whole c.args.names.now c.leave.new.names
    (body_of c.args.self.now) c.args.i c.args.state c.requires.effects.body c.requires.state c.leave.result c.leave.ensures.after
