use Rattle.std.proofs.Common.{take}
use Rattle.jc_rules.specs.Spans.{IsSpanOf}
use Rattle.jc_rules.proofs.span.span_of.Given as goal

-- the span of the lines so far
abbrev pub invariant-widening : goal.invariant-widening
invariant-widening l = IsSpanOf (take l.placed-index l.placed) l.lines
