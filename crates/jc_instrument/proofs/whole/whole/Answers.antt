use Rattle.std.proofs.Common.{inr, ℕ, sym, ◌∙◌, subst}
use Rattle.std.specs.Prelude.{IfErr, IfOk}
use Rattle.jc_class.specs.ClassId.{class_id}
use Rattle.jc_bytes.specs.Failing.{Said}
use Rattle.jc_instrument.specs.Causes.{IsFirstCause}
use Rattle.jc_instrument.specs.Changing.{GetsProbes, changing_causes}
use Rattle.jc_instrument.proofs.InstrumentingLaws.{class_first, made_from, refused_from}
use Rattle.jc_instrument.proofs.whole.whole.Goals as goal

pub returns-in-Some-clause-refused : goal.returns-in-Some-clause-refused
returns-in-Some-clause-refused c =
    let class = c.in_ok-class.class in
    inr (class, c.in_ok-class.ensures.read, class_first (class_id c.args.bytes.now) class c.in-Some.refusal c.in-Some.ensures)

pub returns-clause-made : goal.returns-clause-made
returns-clause-made c =
    let class = c.in_ok-class.class in
    made_from c.args.bytes.now class c.in_ok-class.ensures.read c.in_default.ensures (sym c.is_left_alone.ensures ∙ c.if-is_left_alone.false)
    c.in_default-interface_refusal.ensures c.changed.result
    (subst (λ (id : ℕ). IfOk c.changed.result (GetsProbes id class)) c.class_id.ensures c.changed.ensures.changed)

pub returns-clause-refused : goal.returns-clause-refused
returns-clause-refused c =
    let class = c.in_ok-class.class in
    refused_from c.args.bytes.now class c.in_ok-class.ensures.read c.in_default.ensures (sym c.is_left_alone.ensures ∙ c.if-is_left_alone.false)
    c.in_default-interface_refusal.ensures c.changed.result
    (subst (λ (id : ℕ). IfErr c.changed.result (λ e. Said e (IsFirstCause (changing_causes id class)))) c.class_id.ensures c.changed.ensures.refused)
