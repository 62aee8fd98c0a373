use Rattle.std.proofs.Common.{ℕ, List, sym, ◌∙◌, ap, subst}
use Rattle.std.specs.Prelude.{IfSome, IfNone}
use Rattle.jc_pool.specs.Adding.{IsFirst, IsNowhere}
use Rattle.jc_pool.specs.Index.{text_place, key_place, handle, handle_key, linked_key_at}
use Rattle.jc_pool.specs.Lookup.{member, handle_of}
use Rattle.jc_pool.proofs.KeyPlaceLaws.{first_by_key, none_by_key}
use Rattle.jc_pool.proofs.LinkedKeyLaws.{handle_by_key, handle_unkeyed}
use Rattle.jc_pool.proofs.linked.find_handle.Goals as goal

pub returns-in-Some-clause-first : goal.returns-in-Some-clause-first
returns-in-Some-clause-first c =
    let index = c.args.index.now in
    let pool = c.args.slots.now in
    let what = handle c.args.kind (member c.args.m.now) in
    let as_one = handle_by_key pool (text_place index.texts.entries (λ x. x.items)) index.firsts.items (key_place index.keys.entries) c.requires.index.tables what
    c.text_place-class.result c.text_place-name.result c.text_place-descriptor.result c.in-Some.key c.requires.tag
    c.text_place-class.ensures c.text_place-name.ensures c.text_place-descriptor.ensures
    (ap (handle_key c.args.kind) (sym c.texts_key.ensures) ∙ sym c.handle_key.ensures ∙ c.in-Some.is) in
    first_by_key (handle_of pool) what (linked_key_at index.firsts.items pool) c.in-Some.key as_one c.look_for_linked.result
    (subst (λ (l : List ℕ). IfSome c.look_for_linked.result (IsFirst (linked_key_at l pool) c.in-Some.key)) c.deref.ensures.value c.look_for_linked.ensures.first)

pub returns-in-Some-clause-none : goal.returns-in-Some-clause-none
returns-in-Some-clause-none c =
    let index = c.args.index.now in
    let pool = c.args.slots.now in
    let what = handle c.args.kind (member c.args.m.now) in
    let as_one = handle_by_key pool (text_place index.texts.entries (λ x. x.items)) index.firsts.items (key_place index.keys.entries) c.requires.index.tables what
    c.text_place-class.result c.text_place-name.result c.text_place-descriptor.result c.in-Some.key c.requires.tag
    c.text_place-class.ensures c.text_place-name.ensures c.text_place-descriptor.ensures
    (ap (handle_key c.args.kind) (sym c.texts_key.ensures) ∙ sym c.handle_key.ensures ∙ c.in-Some.is) in
    none_by_key (handle_of pool) what (linked_key_at index.firsts.items pool) c.in-Some.key as_one c.look_for_linked.result
    (subst (λ (l : List ℕ). IfNone c.look_for_linked.result (IsNowhere (linked_key_at l pool) c.in-Some.key)) c.deref.ensures.value c.look_for_linked.ensures.none)

pub returns-in-None-clause-none : goal.returns-in-None-clause-none
returns-in-None-clause-none c =
    let index = c.args.index.now in
    let what = handle c.args.kind (member c.args.m.now) in
    handle_unkeyed c.args.slots.now (text_place index.texts.entries (λ x. x.items)) index.firsts.items (key_place index.keys.entries) c.requires.index.tables what
    c.text_place-class.result c.text_place-name.result c.text_place-descriptor.result c.requires.tag
    c.text_place-class.ensures c.text_place-name.ensures c.text_place-descriptor.ensures
    (ap (handle_key c.args.kind) (sym c.texts_key.ensures) ∙ sym c.handle_key.ensures ∙ c.in-None.is)
