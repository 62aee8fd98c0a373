use Rattle.std.proofs.Common.{sym, ◌∙◌}
use Rattle.jc_pool.specs.Index.{text_place, key_place, member_key_at}
use Rattle.jc_pool.specs.Lookup.{member, member_of}
use Rattle.jc_pool.proofs.KeyPlaceLaws.{first_by_key, none_by_key}
use Rattle.jc_pool.proofs.MemberKeyLaws.{keyed_as_one, unkeyed}
use Rattle.jc_pool.proofs.members.find_member.Goals as goal

pub returns-in-Some-clause-first : goal.returns-in-Some-clause-first
returns-in-Some-clause-first c =
    let pool = c.args.slots.now in
    let index = c.args.index.now in
    let m = member c.args.m.now in
    let as_one = keyed_as_one pool (text_place index.texts.entries (λ x. x.items)) index.firsts.items (key_place index.keys.entries) c.requires.index.tables m c.requires.tag
    c.text_place-class.result c.text_place-name.result c.text_place-descriptor.result c.in-Some.key c.text_place-class.ensures c.text_place-name.ensures c.text_place-descriptor.ensures
    (sym c.texts_key.ensures ∙ c.in-Some.is) in
    first_by_key (member_of pool) m (member_key_at index.firsts.items pool) c.in-Some.key as_one c.place_of_key.result c.place_of_key.ensures.first

pub returns-in-Some-clause-none : goal.returns-in-Some-clause-none
returns-in-Some-clause-none c =
    let pool = c.args.slots.now in
    let index = c.args.index.now in
    let m = member c.args.m.now in
    let as_one = keyed_as_one pool (text_place index.texts.entries (λ x. x.items)) index.firsts.items (key_place index.keys.entries) c.requires.index.tables m c.requires.tag
    c.text_place-class.result c.text_place-name.result c.text_place-descriptor.result c.in-Some.key c.text_place-class.ensures c.text_place-name.ensures c.text_place-descriptor.ensures
    (sym c.texts_key.ensures ∙ c.in-Some.is) in
    none_by_key (member_of pool) m (member_key_at index.firsts.items pool) c.in-Some.key as_one c.place_of_key.result c.place_of_key.ensures.none

pub returns-in-None-clause-none : goal.returns-in-None-clause-none
returns-in-None-clause-none c =
    let index = c.args.index.now in
    unkeyed c.args.slots.now (text_place index.texts.entries (λ x. x.items)) index.firsts.items (key_place index.keys.entries) c.requires.index.tables (member c.args.m.now) c.requires.tag
    c.text_place-class.result c.text_place-name.result c.text_place-descriptor.result c.text_place-class.ensures c.text_place-name.ensures c.text_place-descriptor.ensures
    (sym c.texts_key.ensures ∙ c.in-None.is)
