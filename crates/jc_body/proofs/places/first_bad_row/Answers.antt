use Rattle.std.proofs.Common.{rules, tests}
use Rattle.std.proofs.lemmas.Iterator.{YieldsList-from_slice}
use Rattle.jc_body.specs.Faults.{IsRow}
use Rattle.jc_body.specs.Numbering.{numbering}
use Rattle.jc_body.proofs.FirstLaws.{first_by_position}
use Rattle.jc_body.proofs.places.first_bad_row.Goals as goal

pub returns : goal.returns
returns c = first_by_position (λ row. IsRow c.args.pool.now (numbering c.args.offsets.now) c.args.offsets.now.count c.args.offsets.now.size row
    → ⊥) _ _ _ c.position.ensures.ran (YieldsList-from_slice c.args.rows.now c.iter.ensures.rest) (λ y q k. search (rules, tests)) (λ y q k. search (rules, tests))
