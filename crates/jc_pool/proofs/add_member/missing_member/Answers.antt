use Rattle.std.proofs.Common.{ℕ, ◌+◌, ap, length}
use Rattle.jc_pool.specs.Lookup.{member}
use Rattle.jc_pool.specs.Index.{new_name}
use Rattle.jc_pool.proofs.MemberLaws.{member_lacks}
use Rattle.jc_pool.proofs.add_member.missing_member.Goals as goal

pub returns-clause-lacks : goal.returns-clause-lacks
returns-clause-lacks c =
    let m = c.args.m.now in
    let places = c.missing_class-class.result.places in
    member_lacks c.args.slots.now c.args.index.now (member m) places (places + c.missing_signature.result + 1) (new_name c.missing_class-class.result.name m.class.now (length c.args.slots.now))
    c.place_beside-name.result c.place_beside-desc.result c.signature_place-found.result c.eq.result c.missing_class-class.ensures.classed c.place_beside-name.ensures c.place_beside-desc.ensures
    c.signature_place-found.ensures c.eq.ensures (ap (λ (n : ℕ). places + n + 1) c.missing_signature.ensures.count)
