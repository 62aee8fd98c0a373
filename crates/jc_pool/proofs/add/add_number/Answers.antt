use Rattle.std.proofs.Common.{ℕ, inr, subst, arith}
use Rattle.std.proofs.lemmas.Result.{err_from_is_err_and}
use Rattle.jc_pool.specs.Adding.{IsPut}
use Rattle.jc_pool.specs.Index.{key_at}
use Rattle.jc_pool.specs.Pool.{PoolValue}
use Rattle.jc_pool.proofs.KeyPlaceLaws.{key_nowhere}
use Rattle.jc_pool.proofs.AddingLaws.{put_refused, number_pool}
use Rattle.jc_pool.proofs.add.add_number.Goals as goal

pub returns-in_err-take_room-clause-full : goal.returns-in_err-take_room-clause-full
returns-in_err-take_room-clause-full c =
    let none = key_nowhere c.args.slots.now.items c.args.index.now c.args.key c.key_place.result c.requires.index c.key_place.ensures c.in_default.is in
    let counts = rw c.width.ensures at c.in_err-take_room.ensures.full in
    let p = err_from_is_err_and c.from_residual.result c.from_residual.ensures.1 in
    rw (p.1, p.2) (put_refused (Unit {0}) ℕ (key_at c.args.index.now.firsts.items) c.args.key c.args.slots.now.items c.args.entry c.in_err-take_room.field-0.0 none counts)

pub returns-clause-ok : goal.returns-clause-ok
returns-clause-ok c =
    let put = subst (λ (l : PoolValue). IsPut l c.put_entry.new.slots.items c.args.entry c.put_entry.result) c.in_ok-take_room.ensures.kept c.put_entry.ensures.put in
    inr (key_nowhere c.args.slots.now.items c.args.index.now c.args.key c.key_place.result c.requires.index c.key_place.ensures c.in_default.is, put)

pub returns-clause-pool : goal.returns-clause-pool
returns-clause-pool c =
    let put = subst (λ (l : PoolValue). IsPut l c.put_entry.new.slots.items c.args.entry c.put_entry.result) c.in_ok-take_room.ensures.kept c.put_entry.ensures.put in
    number_pool c.args.slots.now.items c.put_entry.new.slots.items c.args.entry c.put_entry.result c.requires.other
    (omega (arith, c.width.ensures, c.in_ok-take_room.ensures.fits)) put c.requires.pool
