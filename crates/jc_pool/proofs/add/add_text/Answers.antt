use Rattle.std.proofs.Common.{ℕ, ◌∙◌, ap, inr, length, arith}
use Rattle.std.proofs.lemmas.Result.{err_from_is_err_and}
use Rattle.jc_pool.specs.declared.entry.Entry.TheVariants as entry
use Rattle.jc_pool.specs.Adding.{IsPut}
use Rattle.jc_pool.proofs.AddingLaws.{text_refused, utf8_pool}
use Rattle.jc_pool.proofs.KeyPlaceLaws.{text_nowhere}
use Rattle.jc_pool.proofs.OneMoreEntryLaws.{grown_length}
use Rattle.jc_pool.proofs.add.add_text.Goals as goal

pub returns-in_err-take_room-clause-full : goal.returns-in_err-take_room-clause-full
returns-in_err-take_room-clause-full c =
    let none = text_nowhere c.args.slots.now.items c.args.index.now c.args.text.now c.text_place.result c.requires.index c.text_place.ensures c.in_default.is in
    let p = err_from_is_err_and c.from_residual.result c.from_residual.ensures.1 in
    rw (p.1, p.2) (text_refused (Unit {0}) ℕ c.args.slots.now.items c.args.text.now c.in_err-take_room.field-0.0 none c.in_err-take_room.ensures.full)

pub put_text-requires-clause-new : goal.put_text-requires-clause-new
put_text-requires-clause-new c =
    rw c.in_ok-take_room.ensures.kept (text_nowhere c.args.slots.now.items c.args.index.now c.args.text.now c.text_place.result c.requires.index c.text_place.ensures c.in_default.is)

pub returns-clause-ok : goal.returns-clause-ok
returns-clause-ok c =
    let put : IsPut c.args.slots.now.items c.put_text.new.slots.items (entry.Utf8 c.args.text.now) c.in_ok-put_text.field-0 = rw c.in_ok-take_room.ensures.kept at c.in_ok-put_text.ensures.put in
    inr (text_nowhere c.args.slots.now.items c.args.index.now c.args.text.now c.text_place.result c.requires.index c.text_place.ensures c.in_default.is, put)

pub returns-clause-pool : goal.returns-clause-pool
returns-clause-pool c =
    let put : IsPut c.args.slots.now.items c.put_text.new.slots.items (entry.Utf8 c.args.text.now) c.in_ok-put_text.field-0 = rw c.in_ok-take_room.ensures.kept at c.in_ok-put_text.ensures.put in
    let size = ap length put.grown ∙ grown_length c.args.slots.now.items (entry.Utf8 c.args.text.now) in
    utf8_pool c.args.slots.now.items c.put_text.new.slots.items c.args.text.now c.in_ok-put_text.field-0 c.requires.short
    (omega (arith, size, c.in_ok-take_room.ensures.fits)) (returns-clause-ok c) c.requires.pool
