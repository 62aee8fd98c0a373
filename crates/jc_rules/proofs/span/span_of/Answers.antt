use Rattle.jc_rules.specs.declared.status.LineState.TheVariants.{Empty}
use Rattle.jc_rules.proofs.SpanLaws.{span_more}
use Rattle.jc_rules.proofs.span.span_of.Goals as goal

pub widening-preserved : goal.widening-preserved
widening-preserved c =
    let k = c.widening.placed-index in
    span_more c.args.placed.now k (record { line = 0; status = Empty }) c.widening.lines c.widened.result c.widening-test.true c.widening.invariant c.widened.ensures
