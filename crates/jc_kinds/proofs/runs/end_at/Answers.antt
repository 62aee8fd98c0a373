use Rattle.std.proofs.Common.{◌+◌, arith, sym, ◌∙◌}
use Rattle.jc_kinds.proofs.RunLaws.{longer, single}
use Rattle.jc_kinds.proofs.runs.end_at.Goals as goal

pub returns-then-is_same : goal.returns-then-is_same
returns-then-is_same c = longer c.args.loose c.args.column.now c.args.i _ (sym c.key.ensures ∙ c.is_same.ensures.0 c.if-is_same.true
    ∙ c.key-2.ensures) (c.requires.next.each (c.args.i + 1) (omega arith) (omega arith))

pub returns-else-is_same : goal.returns-else-is_same
returns-else-is_same c = single c.args.loose c.args.column.now c.args.i (omega arith) (λ lt q. let same = c.is_same.ensures.1 (c.key.ensures ∙ q ∙ sym c.key-2.ensures) in cc)
