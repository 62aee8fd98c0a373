use Rattle.std.proofs.Common.{ℕ, List, [], sym, ◌∙◌, ap}
use Rattle.jc_bytes.specs.Parsing.{Good}
use Rattle.jc_bootstraps.proofs.BootstrapLaws.{left_over, none_left, some_left, walked_all, walked_bad, walked_more}
use Rattle.jc_bootstraps.proofs.bootstraps.read_counted.Goals as goal

pub returns-in_default-clause-none : goal.returns-in_default-clause-none
returns-in_default-clause-none c = λ entries e.
    walked_bad c.args.count c.args.start.now c.reading._entry c.reading.rest.now c.reading.last c.reading-test.true (sym c.in_default.ensures)
    c.reading.invariant entries [] e

pub reading-preserved : goal.reading-preserved
reading-preserved c =
    walked_more c.args.count c.args.start.now c.reading._entry c.reading.rest.now c.reading.last c.in-Some.bootstrap c.in-Some.behind.now
    c.reading-test.true (sym c.in-Some.ensures) c.reading.invariant

pub returns-then-is_empty-clause-some : goal.returns-then-is_empty-clause-some
returns-then-is_empty-clause-some c =
    let all = walked_all c.args.count c.args.start.now c.reading._entry c.reading.rest.now c.reading.last c.reading-test.false c.reading.invariant in
    let none = none_left c.reading.rest.now c.is_empty.result c.is_empty.ensures c.if-is_empty.true in
    (all.0, all.1 ∙ ap (λ (l : List ℕ). Good all.0 l) none, sym all.2, all.3)

pub returns-clause-none : goal.returns-clause-none
returns-clause-none c =
    left_over c.args.count c.args.start.now c.reading._entry c.reading.rest.now c.reading.last c.reading-test.false c.reading.invariant
    (some_left c.reading.rest.now c.is_empty.result c.is_empty.ensures c.if-is_empty.false)
