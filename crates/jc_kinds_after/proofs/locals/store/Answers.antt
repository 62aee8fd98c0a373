use Rattle.std.proofs.Common.{List, length, take, ◌-◌, refl, sym, ◌∙◌, ap}
use Rattle.jc_methods.specs.declared.kind.Kind.{Kind}
use Rattle.jc_kinds_after.proofs.LocalsLaws.{store_no, store_past, store_yes, some_items}
use Rattle.jc_kinds_after.proofs.locals.store.Goals as goal

pub returns-then-not-accepts : goal.returns-then-not-accepts
returns-then-not-accepts c = λ names.
    store_no names c.args.state c.as_slice-stack.result.now c.args.slot c.args.most c.args.want c.as_slice-stack.ensures
    (some_items c.as_slice-stack.result.now (sym c.is_empty.ensures ∙ c.if-is_empty.false))
    (sym (c.accepts.ensures names) ∙ c.if-not-accepts.true)

pub returns-then-not-is_within : goal.returns-then-not-is_within
returns-then-not-is_within c = λ names.
    store_past names c.args.state c.as_slice-stack.result.now c.args.slot c.args.most c.args.want c.as_slice-stack.ensures
    (some_items c.as_slice-stack.result.now (sym c.is_empty.ensures ∙ c.if-is_empty.false))
    (sym (c.accepts.ensures names) ∙ c.if-not-accepts.false) (sym (c.is_within.ensures names) ∙ c.if-not-is_within.true)

pub returns : goal.returns
returns c = λ names.
    let below = c.from_vec.ensures ∙ c.truncate.ensures.items
    ∙ ap (λ (l : List Kind). take (length c.as_slice-stack.result.now - 1) l) (c.into_vec-below.ensures ∙ sym c.as_slice-stack.ensures) in
    store_yes names c.args.state c.as_slice-stack.result.now c.args.state.locals c.args.slot c.args.most c.args.want c.put_local.result
    c.from_vec.result c.as_slice-stack.ensures refl
    (some_items c.as_slice-stack.result.now (sym c.is_empty.ensures ∙ c.if-is_empty.false)) (sym (c.accepts.ensures names) ∙ c.if-not-accepts.false)
    (sym (c.is_within.ensures names) ∙ c.if-not-is_within.false) (c.put_local.ensures names) below
