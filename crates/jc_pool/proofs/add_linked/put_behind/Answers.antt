use Rattle.std.proofs.Common.{Some, length, sym, subst, arith}
use Rattle.jc_pool.specs.Pool.{PoolValue}
use Rattle.jc_pool.specs.Adding.{IsPut}
use Rattle.jc_pool.specs.Index.{NamesWithin}
use Rattle.jc_pool.proofs.AddingLaws.{same_extends, put_extends, number_pool}
use Rattle.jc_pool.proofs.add_linked.put_behind.Goals as goal

pub returns-in_err-take_room-clause-extends : goal.returns-in_err-take_room-clause-extends
returns-in_err-take_room-clause-extends c = same_extends c.args.slots.now.items c.take_room.new.slots.items c.in_err-take_room.ensures.kept

pub returns-in_err-reserve-clause-extends : goal.returns-in_err-reserve-clause-extends
returns-in_err-reserve-clause-extends c = same_extends c.args.slots.now.items c.take_room.new.slots.items c.in_ok-take_room.ensures.kept

pub put_entry-requires-clause-within : goal.put_entry-requires-clause-within
put_entry-requires-clause-within c = subst (λ (l : PoolValue). NamesWithin (length l) (Some c.args.entry)) (sym c.in_ok-take_room.ensures.kept) c.requires.within

pub returns-clause-pool : goal.returns-clause-pool
returns-clause-pool c =
    let put = subst (λ (l : PoolValue). IsPut l c.put_entry.new.slots.items c.args.entry c.put_entry.result) c.in_ok-take_room.ensures.kept c.put_entry.ensures.put in
    number_pool c.args.slots.now.items c.put_entry.new.slots.items c.args.entry c.put_entry.result c.requires.other
    (omega (arith, c.requires.narrow, c.in_ok-take_room.ensures.fits)) put c.requires.pool

pub returns-clause-extends : goal.returns-clause-extends
returns-clause-extends c =
    let put = subst (λ (l : PoolValue). IsPut l c.put_entry.new.slots.items c.args.entry c.put_entry.result) c.in_ok-take_room.ensures.kept c.put_entry.ensures.put in
    put_extends c.args.slots.now.items c.put_entry.new.slots.items c.args.entry c.put_entry.result put
