use Rattle.std.proofs.Common.{sym, ◌∙◌, arith}
use Rattle.jc_instrument.proofs.MemberLaws.{list_put, one_named, place_within}
use Rattle.jc_instrument.proofs.members.put_code.Goals as goal

pub unreachable-requires : goal.unreachable-requires
unreachable-requires c = one_named c.args.pool.now c.args.text c.args.method.now c.deref.result.now c.requires c.deref.ensures c.in_default.ensures

pub index-requires : goal.index-requires
index-requires c =
    let within = place_within c.args.pool.now c.args.text c.deref.result.now c.into_vec-attributes.result.items c.in-Some.number
    (c.deref.ensures ∙ sym (c.into_vec-attributes.ensures ∙ c.replace.ensures.value)) c.in-Some.ensures in
    omega (arith, within)

pub index_mut-requires : goal.index_mut-requires
index_mut-requires c =
    let within = place_within c.args.pool.now c.args.text c.deref.result.now c.into_vec-attributes.result.items c.in-Some.number
    (c.deref.ensures ∙ sym (c.into_vec-attributes.ensures ∙ c.replace.ensures.value)) c.in-Some.ensures in
    omega (arith, within)

pub returns : goal.returns
returns c =
    let method = c.args.method.now in
    let same = list_put c.args.pool.now c.args.text method c.deref.result.now c.into_vec-attributes.result.items c.from_vec.result c.in-Some.number
    c.index.result.now c.requires c.deref.ensures c.in-Some.ensures (c.into_vec-attributes.ensures ∙ c.replace.ensures.value) c.index.ensures
    c.from_vec.ensures in
    λ i. record method { attributes = same i }
