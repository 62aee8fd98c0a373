use Rattle.std.proofs.Common.{[], ◌∷◌, arith, length-append}
use Rattle.std.proofs.lemmas.Result.{err_from_is_err_and}
use Rattle.jc_bytes.proofs.ListReadingLaws.{one_more, refused}
use Rattle.jc_frames.specs.TableReading.{type_at}
use Rattle.jc_frames.proofs.reading.so_many_types.Goals as goal

pub returns-in_err-item-clause-gives : goal.returns-in_err-item-clause-gives
returns-in_err-item-clause-gives c =
    let p = err_from_is_err_and c.from_residual.result c.from_residual.ensures.1 in
    rw (p.1, p.2)
    (refused c.args.count type_at c.args.reader.now c.reading.reader c.type_item.new.reader c.reading.list c.reading._place
    c.in_err-item.field-0.0 c.reading-test.true c.in_err-item.ensures.gives c.reading.invariant.listing)

pub reading-preserved : goal.reading-preserved
reading-preserved c =
    rw c.in_ok-push.ensures.ok (record {
      listing = one_more c.args.count type_at c.args.reader.now c.reading.reader c.type_item.new.reader c.reading.list c.in_ok-item.item
          c.reading._place c.reading-test.true c.in_ok-item.ensures.gives c.in_ok-item.ensures.end c.in_ok-item.ensures.later c.reading.invariant.listing;
      count = omega (arith, length-append c.reading.list (c.in_ok-item.item ∷ []), c.reading.invariant.count);
    })
