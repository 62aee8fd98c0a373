use Rattle.std.proofs.Common.{◌∙◌, Some, length, sym, ap, subst, arith}
use Rattle.jc_pool.specs.declared.index.Naming.TheVariants as naming
use Rattle.jc_pool.specs.Pool.{PoolValue, width}
use Rattle.jc_pool.specs.Lookup.{utf8_in, member}
use Rattle.jc_pool.specs.Adding.{IsPut}
use Rattle.jc_pool.specs.Index.{NamesWithin}
use Rattle.jc_pool.proofs.AddingLaws.{has_naming_extends, extends_more, same_extends, put_extends, number_pool}
use Rattle.jc_pool.proofs.MemberLaws.{member_narrow, member_textless}
use Rattle.jc_pool.proofs.AddedMemberLaws.{put_within}
use Rattle.jc_pool.proofs.add_member.put_member.Goals as goal

pub returns-in_err-name_and_type-clause-extends : goal.returns-in_err-name_and_type-clause-extends
returns-in_err-name_and_type-clause-extends c =
    let old = c.args.slots.now.items in
    let classed = c.add_naming.new.slots.items in
    let signed = c.add_signature.new.slots.items in
    let more = extends_more old classed signed
    (has_naming_extends naming.Class old classed c.args.m.now.class.now c.in_ok-class.class c.in_ok-class.ensures.ok) c.in_err-name_and_type.ensures.extends in
    more

pub returns-in_err-take_room-clause-extends : goal.returns-in_err-take_room-clause-extends
returns-in_err-take_room-clause-extends c =
    let old = c.args.slots.now.items in
    let classed = c.add_naming.new.slots.items in
    let signed = c.add_signature.new.slots.items in
    let more = extends_more old classed signed
    (has_naming_extends naming.Class old classed c.args.m.now.class.now c.in_ok-class.class c.in_ok-class.ensures.ok) c.in_ok-name_and_type.ensures.extends in
    extends_more old signed c.take_room.new.slots.items more (same_extends signed c.take_room.new.slots.items c.in_err-take_room.ensures.kept)

pub returns-in_err-reserve-clause-extends : goal.returns-in_err-reserve-clause-extends
returns-in_err-reserve-clause-extends c =
    let old = c.args.slots.now.items in
    let classed = c.add_naming.new.slots.items in
    let signed = c.add_signature.new.slots.items in
    let more = extends_more old classed signed
    (has_naming_extends naming.Class old classed c.args.m.now.class.now c.in_ok-class.class c.in_ok-class.ensures.ok) c.in_ok-name_and_type.ensures.extends in
    extends_more old signed c.take_room.new.slots.items more (same_extends signed c.take_room.new.slots.items c.in_ok-take_room.ensures.kept)

pub put_entry-requires-clause-within : goal.put_entry-requires-clause-within
put_entry-requires-clause-within c =
    subst (λ (l : PoolValue). NamesWithin (length l) (Some c.entry_of.result)) (sym c.in_ok-take_room.ensures.kept)
    (put_within c.args.slots.now.items c.add_naming.new.slots.items c.add_signature.new.slots.items (member c.args.m.now) c.in_ok-class.class
    c.in_ok-name_and_type.name_and_type c.entry_of.result c.entry_of.ensures
    c.in_ok-class.ensures.ok c.in_ok-name_and_type.ensures.ok)

pub returns-clause-pool : goal.returns-clause-pool
returns-clause-pool c =
    let last = c.entry_of.result in
    let narrow = ap width c.entry_of.ensures ∙ member_narrow c.args.m.now.tag c.in_ok-class.class c.in_ok-name_and_type.name_and_type in
    let textless = ap utf8_in c.entry_of.ensures ∙ member_textless c.args.m.now.tag c.in_ok-class.class c.in_ok-name_and_type.name_and_type in
    let put = subst (λ (l : PoolValue). IsPut l c.put_entry.new.slots.items last c.put_entry.result) c.in_ok-take_room.ensures.kept c.put_entry.ensures.put in
    number_pool c.add_signature.new.slots.items c.put_entry.new.slots.items last c.put_entry.result textless
    (omega (arith, narrow, c.in_ok-take_room.ensures.fits)) put c.in_ok-name_and_type.ensures.pool

pub returns-clause-extends : goal.returns-clause-extends
returns-clause-extends c =
    let old = c.args.slots.now.items in
    let classed = c.add_naming.new.slots.items in
    let signed = c.add_signature.new.slots.items in
    let more = extends_more old classed signed
    (has_naming_extends naming.Class old classed c.args.m.now.class.now c.in_ok-class.class c.in_ok-class.ensures.ok) c.in_ok-name_and_type.ensures.extends in
    let put = subst (λ (l : PoolValue). IsPut l c.put_entry.new.slots.items c.entry_of.result c.put_entry.result) c.in_ok-take_room.ensures.kept c.put_entry.ensures.put in
    extends_more old signed c.put_entry.new.slots.items more (put_extends signed c.put_entry.new.slots.items c.entry_of.result c.put_entry.result put)
