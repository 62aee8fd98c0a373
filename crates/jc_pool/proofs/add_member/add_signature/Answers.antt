use Rattle.std.proofs.Common.{inl, inr, refl, sym, ◌∙◌, subst}
use Rattle.jc_pool.specs.declared.entry.Entry.TheVariants as entry
use Rattle.jc_pool.specs.Pool.{PoolValue}
use Rattle.jc_pool.specs.Adding.{IsPut}
use Rattle.jc_pool.specs.Index.{text_place, key_place}
use Rattle.jc_pool.proofs.KeyPlaceLaws.{signature_found, signature_missing}
use Rattle.jc_pool.proofs.AddingLaws.{utf8_extends, extends_more, same_extends, number_pool}
use Rattle.jc_pool.proofs.add_member.add_signature.Goals as goal

pub returns-in-Some-clause-ok : goal.returns-in-Some-clause-ok
returns-in-Some-clause-ok c =
    let index = c.args.index.now in
    inl (
      signature_found c.args.slots.now.items (text_place index.texts.entries (λ x. x.items)) index.firsts.items (key_place index.keys.entries) c.requires.index.tables
          (record { name = c.args.name.now; desc = c.args.desc.now }) c.text_place-named.result c.text_place-described.result c.in-Some.place (sym c.text_place-named.ensures)
          (sym c.text_place-described.ensures) (sym c.signature_place.ensures ∙ c.in-Some.is),
      refl,
    )

pub returns-in_err-take_room-clause-extends : goal.returns-in_err-take_room-clause-extends
returns-in_err-take_room-clause-extends c =
    let old = c.args.slots.now.items in
    let named = c.add_text.new.slots.items in
    let described = c.add_text-2.new.slots.items in
    let more = extends_more old named described (utf8_extends old named c.args.name.now c.in_ok-name.name c.in_ok-name.ensures.ok)
    (utf8_extends named described c.args.desc.now c.in_ok-descriptor.descriptor c.in_ok-descriptor.ensures.ok) in
    extends_more old described c.take_room.new.slots.items more (same_extends described c.take_room.new.slots.items c.in_err-take_room.ensures.kept)

pub returns-in_err-reserve-clause-extends : goal.returns-in_err-reserve-clause-extends
returns-in_err-reserve-clause-extends c =
    let old = c.args.slots.now.items in
    let named = c.add_text.new.slots.items in
    let described = c.add_text-2.new.slots.items in
    let more = extends_more old named described (utf8_extends old named c.args.name.now c.in_ok-name.name c.in_ok-name.ensures.ok)
    (utf8_extends named described c.args.desc.now c.in_ok-descriptor.descriptor c.in_ok-descriptor.ensures.ok) in
    extends_more old described c.take_room.new.slots.items more (same_extends described c.take_room.new.slots.items c.in_ok-take_room.ensures.kept)

pub returns-clause-ok : goal.returns-clause-ok
returns-clause-ok c =
    let index = c.args.index.now in
    let put = subst (λ (l : PoolValue). IsPut l c.put_entry.new.slots.items (entry.NameAndType c.in_ok-name.name c.in_ok-descriptor.descriptor)
    c.put_entry.result) c.in_ok-take_room.ensures.kept c.put_entry.ensures.put in
    inr (
      signature_missing c.args.slots.now.items (text_place index.texts.entries (λ x. x.items)) index.firsts.items (key_place index.keys.entries) c.requires.index.tables
          (record { name = c.args.name.now; desc = c.args.desc.now }) c.text_place-named.result c.text_place-described.result (sym c.text_place-named.ensures) (sym c.text_place-described.ensures)
          (sym c.signature_place.ensures ∙ c.in_default.is),
      (c.add_text.new.slots.items, c.in_ok-name.name, c.in_ok-name.ensures.ok, c.add_text-2.new.slots.items, c.in_ok-descriptor.descriptor, c.in_ok-descriptor.ensures.ok, put),
    )

pub returns-clause-pool : goal.returns-clause-pool
returns-clause-pool c =
    let last = entry.NameAndType c.in_ok-name.name c.in_ok-descriptor.descriptor in
    let put = subst (λ (l : PoolValue). IsPut l c.put_entry.new.slots.items last c.put_entry.result) c.in_ok-take_room.ensures.kept c.put_entry.ensures.put in
    number_pool c.add_text-2.new.slots.items c.put_entry.new.slots.items last c.put_entry.result refl c.in_ok-take_room.ensures.fits put c.in_ok-descriptor.ensures.pool
