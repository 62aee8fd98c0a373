use Rattle.std.proofs.Common.{List, map, nat_le, ap, sym, ◌∙◌}
use Rattle.jc_methods.specs.declared.kind.Kind.{Kind}
use Rattle.jc_methods.specs.VerificationTypes.{verification_type, slots}
use Rattle.jc_kinds_after.proofs.LocalsLaws.{count_no, count_past, count_yes}
use Rattle.jc_kinds_after.proofs.locals.count.Goals as goal

pub returns-then-not-accepts : goal.returns-then-not-accepts
returns-then-not-accepts c =
    λ names. count_no names c.args.state c.deref.result.now c.args.slot c.args.most c.deref.ensures (sym (c.accepts.ensures names) ∙ c.if-not-accepts.true)

pub returns-then-not-is_within : goal.returns-then-not-is_within
returns-then-not-is_within c = λ names.
    count_past names c.args.state c.deref.result.now c.args.slot c.args.most c.deref.ensures (sym (c.accepts.ensures names) ∙ c.if-not-accepts.false)
    (ap (λ (ks : List Kind). nat_le (slots (map (verification_type names) ks)) c.args.most) (sym c.deref-2.ensures) ∙ sym (c.is_within.ensures names)
    ∙ c.if-not-is_within.true)

pub returns : goal.returns
returns c = λ names.
    count_yes names c.args.state c.deref.result.now c.args.slot c.args.most c.deref.ensures (sym (c.accepts.ensures names) ∙ c.if-not-accepts.false)
    (ap (λ (ks : List Kind). nat_le (slots (map (verification_type names) ks)) c.args.most) (sym c.deref-2.ensures) ∙ sym (c.is_within.ensures names)
    ∙ c.if-not-is_within.false)
