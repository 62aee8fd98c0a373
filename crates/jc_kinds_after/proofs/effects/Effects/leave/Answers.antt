use Rattle.std.proofs.Common.{refl, sym, ◌∙◌}
use Rattle.jc_methods.proofs.MetNamesLaws.{grows_none}
use Rattle.jc_kinds_after.specs.Effects.{body_of}
use Rattle.jc_kinds_after.proofs.ApplyLaws.{insn_here, local_there, leave_step, leave_pick, leave_array}
use Rattle.jc_kinds_after.proofs.EffectsLaws.{are_later, with_elements}
use Rattle.jc_kinds_after.proofs.effects.Effects.leave.Goals as goal

pub returns-then-is_aaload-clause-after : goal.returns-then-is_aaload-clause-after
returns-then-is_aaload-clause-after c =
    leave_pick c.args.names.now c.pick.new.names (body_of c.args.self.now) c.args.i c.args.state c.index-deref-i.result c.pick.result
    (insn_here c.deref.result.now (body_of c.args.self.now).code c.args.i c.index-deref-i.result c.deref.ensures c.requires.place c.index-deref-i.is)
    (sym c.is_aaload.ensures ∙ c.if-is_aaload.true) c.pick.ensures.after

pub returns-then-is_aaload-clause-effects : goal.returns-then-is_aaload-clause-effects
returns-then-is_aaload-clause-effects c =
    with_elements c.args.names.now c.pick.new.names c.args.self.now c.pick.new.elements c.pick.ensures.names c.requires.effects c.pick.ensures.elements

pub returns-in-NewArray-clause-after : goal.returns-in-NewArray-clause-after
returns-in-NewArray-clause-after c =
    leave_array c.args.names.now c.new_array.new.names (body_of c.args.self.now) c.args.i c.in-NewArray.elem c.args.state c.index-deref-i.result
    c.new_array.result
    (insn_here c.deref.result.now (body_of c.args.self.now).code c.args.i c.index-deref-i.result c.deref.ensures c.requires.place c.index-deref-i.is)
    c.in-NewArray.is c.new_array.ensures.after

pub returns-in-NewArray-clause-effects : goal.returns-in-NewArray-clause-effects
returns-in-NewArray-clause-effects c = are_later c.args.names.now c.new_array.new.names c.args.self.now c.new_array.ensures.names c.requires.effects

pub apply-requires : goal.apply-requires
apply-requires c = record {
  read = (c.args.names.now, c.requires.effects);
  local = local_there c.args.names.now c.args.self.now c.args.i _ c.index-deref-i.result c.step.result c.requires.effects
      (insn_here c.deref.result.now (body_of c.args.self.now).code c.args.i c.index-deref-i.result c.deref.ensures c.requires.place
      c.index-deref-i.is) c.requires.place c.requires.state.locals c.step.ensures;
  kinds = c.requires.state.stack_kinds;
}

pub returns-in_default : goal.returns-in_default
returns-in_default c = record {
  after = leave_step c.args.names.now c.args.self.now c.args.i c.args.state c.index-deref-i.result c.step.result c.apply.result c.requires.effects
      c.requires.state.numbered
      (insn_here c.deref.result.now (body_of c.args.self.now).code c.args.i c.index-deref-i.result c.deref.ensures c.requires.place
      c.index-deref-i.is) c.step.ensures c.apply.ensures;
  names = grows_none c.args.names.now;
  effects = c.requires.effects;
  body = refl;
}
