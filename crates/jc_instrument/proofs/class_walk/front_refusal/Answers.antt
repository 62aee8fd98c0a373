use Rattle.std.proofs.Common.{sym, ◌∙◌}
use Rattle.jc_instrument.proofs.ClassWalkLaws.{class_first, front_decided, none_alone}
use Rattle.jc_instrument.proofs.class_walk.front_refusal.Goals as goal

pub returns-in-Some : goal.returns-in-Some
returns-in-Some c = class_first c.args.class.now c.in-Some.refusal c.in-Some.ensures

pub returns-then-is_left_alone : goal.returns-then-is_left_alone
returns-then-is_left_alone c = none_alone c.args.class.now c.in_default.ensures (sym c.is_left_alone.ensures ∙ c.if-is_left_alone.true)

pub returns : goal.returns
returns c =
    front_decided c.args.class.now c.in_default.ensures (sym c.is_left_alone.ensures ∙ c.if-is_left_alone.false) c.interface_refusal.result
    c.interface_refusal.ensures
