use Rattle.std.proofs.Common.{inl, inr, rules}
use Rattle.jc_body.proofs.ArgumentLaws.{outside_nowhere}
use Rattle.jc_body.proofs.FaultLaws.{row_found, row_first, row_none}
use Rattle.jc_body.proofs.faults.row_fault.Goals as goal

pub returns-in-Some : goal.returns-in-Some
returns-in-Some c =
    let rows = row_found c.args.pool.now c.args.coded.now c.args.offsets.now c.requires.offsets c.deref.result.now c.first_bad_row.result (search rules) c.first_bad_row.ensures in
    inr (
      outside_nowhere c.args.pool.now c.args.method.now c.args.coded.now c.text_at.result.now c.text_at.ensures.text
          c.slots_of_arguments-slots.result c.slots_of_arguments-slots.ensures.slots (search rules),
      inl (row_first c.args.pool.now c.args.coded.now c.first_bad_row.result c.in-Some.row (search rules) rows),
    )

pub returns-in-None : goal.returns-in-None
returns-in-None c =
    let rows = row_found c.args.pool.now c.args.coded.now c.args.offsets.now c.requires.offsets c.deref.result.now c.first_bad_row.result (search rules) c.first_bad_row.ensures in (
      outside_nowhere c.args.pool.now c.args.method.now c.args.coded.now c.text_at.result.now c.text_at.ensures.text
          c.slots_of_arguments-slots.result c.slots_of_arguments-slots.ensures.slots (search rules),
      (row_none c.args.pool.now c.args.coded.now c.first_bad_row.result (search rules) rows, tt),
    )
