use Rattle.std.proofs.Common.{◌-◌, arith}
use Rattle.std.proofs.lemmas.Result.{err_from_is_err_and}
use Rattle.jc_pool.specs.PoolReading.{filled_at}
use Rattle.jc_pool.proofs.PoolStepsLaws.{fills_more, refuses, is_read, is_pool}
use Rattle.jc_pool.proofs.pool.filled.Goals as goal

pub returns-in_err-entry-clause-gives : goal.returns-in_err-entry-clause-gives
returns-in_err-entry-clause-gives c =
    let p = err_from_is_err_and c.from_residual-in_err-entry.result c.from_residual-in_err-entry.ensures.1 in
    rw (p.1, p.2) (refuses (filled_at c.args.count c.args.reader.now.left) c.args.count c.args.reader.now c.filling.slots.items c.filling.reader
    c.entry_item.new.reader c.in_err-entry.field-0.0 (c.from-count.result - c.len-in-filling.result) (omega arith)
    (omega arith) c.in_err-entry.ensures.gives c.filling.invariant)

pub filling-preserved : goal.filling-preserved
filling-preserved c =
    rw c.in_ok-put.ensures
    (fills_more (filled_at c.args.count c.args.reader.now.left) c.args.count c.args.reader.now c.filling.slots.items c.filling.reader
    c.entry_item.new.reader c.in_ok-entry.entry (c.from-count.result - c.len-in-filling.result) (omega arith)
    (omega arith) c.in_ok-entry.ensures.small c.in_ok-entry.ensures.fits c.in_ok-entry.ensures.gives c.in_ok-entry.ensures.end
    c.in_ok-entry.ensures.later c.filling.invariant)

pub returns-clause-gives : goal.returns-clause-gives
returns-clause-gives c = is_read (filled_at c.args.count c.args.reader.now.left) c.args.count c.args.reader.now c.filling.slots.items c.filling.reader (omega arith) c.filling.invariant

pub returns-clause-pool : goal.returns-clause-pool
returns-clause-pool c = is_pool (filled_at c.args.count c.args.reader.now.left) c.args.count c.args.reader.now c.filling.slots.items c.filling.reader (omega arith) c.filling.invariant
