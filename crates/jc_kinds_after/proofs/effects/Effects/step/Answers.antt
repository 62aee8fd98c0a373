use Rattle.std.proofs.Common.{Option, refl, ap, sym, ◌∙◌}
use Rattle.jc_methods.specs.declared.insn.Insn.TheVariants as insns
use Rattle.jc_methods.specs.declared.body.What.{What}
use Rattle.jc_kinds_after.specs.After.{returns_of, constant_step, member_step, interface_step, dynamic_step, class_step, multi_step}
use Rattle.jc_kinds_after.specs.Effects.{body_of}
use Rattle.jc_kinds_after.specs.Steps.{constant_by, static_by, object_by, member_by, class_by, multi_by}
use Rattle.jc_kinds_after.proofs.StepLaws.{constant_is, wide_constant_is, member_is, object_is, static_is, class_is, multi_is}
use Rattle.jc_kinds_after.proofs.DispatchLaws.{by_use, described_constant, described_wide, described_member, described_method, described_call, described_class}
use Rattle.jc_kinds_after.proofs.effects.Effects.step.Goals as goal

pub returns-in-Constant : goal.returns-in-Constant
returns-in-Constant c = λ names are.
    by_use (body_of c.args.self.now).uses (returns_of (body_of c.args.self.now)) c.args.insn.now
    (insns.Constant c.in-Constant.place) c.in-Constant.place names c.at.result.now c.constant_step.result constant_by c.in-Constant.is refl c.requires.used
    (λ what used d. c.at.ensures names what are used d) (c.constant_step.ensures names) described_constant (λ what s e. constant_is what s
    ∙ ap constant_step (sym e))

pub returns-in-Constant2 : goal.returns-in-Constant2
returns-in-Constant2 c = λ names are.
    by_use (body_of c.args.self.now).uses (returns_of (body_of c.args.self.now)) c.args.insn.now
    (insns.Constant2 c.in-Constant2.place) c.in-Constant2.place names c.at-in-Constant2.result.now c.constant_step-in-Constant2.result constant_by
    c.in-Constant2.is refl c.requires.used
    (λ what used d. c.at-in-Constant2.ensures names what are used d) (c.constant_step-in-Constant2.ensures names) described_wide
    (λ what s e. wide_constant_is what s ∙ ap constant_step (sym e))

pub returns-in-Member : goal.returns-in-Member
returns-in-Member c = λ names are.
    by_use (body_of c.args.self.now).uses (returns_of (body_of c.args.self.now)) c.args.insn.now
    (insns.Member c.in-Member.op c.in-Member.place) c.in-Member.place names c.at-in-Member.result.now c.member_step.result
    (member_by c.in-Member.op) c.in-Member.is refl c.requires.used
    (λ what used d. c.at-in-Member.ensures names what are used d) (c.member_step.ensures names) (described_member c.in-Member.op)
    (λ what s e. member_is c.in-Member.op what s ∙ ap (member_step c.in-Member.op) (sym e))

pub returns-in-Interface : goal.returns-in-Interface
returns-in-Interface c = λ names are.
    by_use (body_of c.args.self.now).uses (returns_of (body_of c.args.self.now)) c.args.insn.now
    (insns.Interface c.in-Interface.place c.in-Interface.count) c.in-Interface.place names c.at-in-Interface.result.now c.object_step.result object_by
    c.in-Interface.is refl c.requires.used
    (λ what used d. c.at-in-Interface.ensures names what are used d) (c.object_step.ensures names) described_method (λ what s e. object_is what s
    ∙ ap interface_step (sym e))

pub returns-in-Dynamic : goal.returns-in-Dynamic
returns-in-Dynamic c = λ names are.
    by_use (body_of c.args.self.now).uses (returns_of (body_of c.args.self.now)) c.args.insn.now
    (insns.Dynamic c.in-Dynamic.place) c.in-Dynamic.place names c.at-in-Dynamic.result.now c.static_step.result static_by c.in-Dynamic.is refl c.requires.used
    (λ what used d. c.at-in-Dynamic.ensures names what are used d) (c.static_step.ensures names) described_call (λ what s e. static_is what s
    ∙ ap dynamic_step (sym e))

pub returns-in-OfClass : goal.returns-in-OfClass
returns-in-OfClass c = λ names are.
    by_use (body_of c.args.self.now).uses (returns_of (body_of c.args.self.now)) c.args.insn.now
    (insns.OfClass c.in-OfClass.op c.in-OfClass.place) c.in-OfClass.place names c.at-in-OfClass.result.now c.class_step.result
    (class_by c.in-OfClass.op) c.in-OfClass.is refl c.requires.used
    (λ what used d. c.at-in-OfClass.ensures names what are used d) (c.class_step.ensures names) described_class
    (λ what s e. class_is c.in-OfClass.op what s ∙ ap (class_step c.in-OfClass.op) (sym e))

pub returns-in-Multi : goal.returns-in-Multi
returns-in-Multi c = λ names are.
    by_use (body_of c.args.self.now).uses (returns_of (body_of c.args.self.now)) c.args.insn.now
    (insns.Multi c.in-Multi.place c.in-Multi.dims) c.in-Multi.place names c.at-in-Multi.result.now c.multi_step.result
    (multi_by c.in-Multi.dims) c.in-Multi.is refl c.requires.used
    (λ what used d. c.at-in-Multi.ensures names what are used d) (c.multi_step.ensures names) described_class
    (λ what s e. multi_is c.in-Multi.dims what s ∙ ap (λ (w : Option What). multi_step w c.in-Multi.dims) (sym e))
