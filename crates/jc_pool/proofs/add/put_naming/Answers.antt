use Rattle.std.proofs.Common.{inr, ℕ, subst}
use Rattle.std.proofs.lemmas.Result.{err_from_is_err_and}
use Rattle.jc_pool.specs.declared.entry.Entry.{Entry}
use Rattle.jc_pool.specs.Adding.{IsPut, HasUtf8}
use Rattle.jc_pool.proofs.AddingLaws.{naming_refused, naming_pool}
use Rattle.jc_pool.proofs.add.put_naming.Goals as goal

pub returns-in_err-take_room-clause-full : goal.returns-in_err-take_room-clause-full
returns-in_err-take_room-clause-full c =
    let counts = rw c.missing.ensures at c.in_err-take_room.ensures.full in
    let p = err_from_is_err_and c.from_residual.result c.from_residual.ensures.1 in
    rw (p.1, p.2) (naming_refused (Unit {0}) ℕ c.args.kind c.args.slots.now.items c.args.text.now c.args.named c.in_err-take_room.field-0.0 c.requires.named c.requires.new counts)

pub returns-clause-pool : goal.returns-clause-pool
returns-clause-pool c =
    let has : HasUtf8 c.args.slots.now.items c.args.text.now c.put_name.new.slots.items c.in_ok-at.at = rw c.in_ok-take_room.ensures.kept at c.in_ok-at.ensures.has in
    let put = subst (λ (e : Entry). IsPut c.put_name.new.slots.items c.put_entry.new.slots.items e c.put_entry.result) c.entry.ensures c.put_entry.ensures.put in
    naming_pool c.args.kind c.args.slots.now.items c.put_name.new.slots.items c.put_entry.new.slots.items c.args.text.now c.in_ok-at.at
    c.put_entry.result c.requires.short c.in_ok-at.ensures.few has put c.requires.pool

pub returns-clause-ok : goal.returns-clause-ok
returns-clause-ok c =
    let has : HasUtf8 c.args.slots.now.items c.args.text.now c.put_name.new.slots.items c.in_ok-at.at = rw c.in_ok-take_room.ensures.kept at c.in_ok-at.ensures.has in
    let put = subst (λ (e : Entry). IsPut c.put_name.new.slots.items c.put_entry.new.slots.items e c.put_entry.result) c.entry.ensures c.put_entry.ensures.put in
    inr (c.requires.new, (c.put_name.new.slots.items, c.in_ok-at.at, has, put))
