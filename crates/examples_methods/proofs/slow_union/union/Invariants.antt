use Rattle.examples_methods.proofs.SlowLaws.{Made}
use Rattle.examples_methods.proofs.slow_union.union.Given as goal

-- the union of the records so far
abbrev pub invariant-merging : goal.invariant-merging
invariant-merging l = Made l.records l.i l.out.items
