use Rattle.std.proofs.Common.{true, false}
use Rattle.jc_cover.specs.Counters.{methods_of}
use Rattle.tests_rules.proofs.SlowLaws.{status_seen}
use Rattle.tests_rules.proofs.slow.status_of.Goals as goal

pub returns-in-true-true : goal.returns-in-true-true
returns-in-true-true c = status_seen (methods_of c.args.class.now.bodies c.args.coverage.now.edges) c.args.number true true c.in-true-true.ensures c.in-true-true.ensures'

pub returns-in-true-false : goal.returns-in-true-false
returns-in-true-false c = status_seen (methods_of c.args.class.now.bodies c.args.coverage.now.edges) c.args.number true false c.in-true-false.ensures c.in-true-false.ensures'

pub returns-in-false-true : goal.returns-in-false-true
returns-in-false-true c = status_seen (methods_of c.args.class.now.bodies c.args.coverage.now.edges) c.args.number false true c.in-false-true.ensures c.in-false-true.ensures'

pub returns-in-false-false : goal.returns-in-false-false
returns-in-false-false c = status_seen (methods_of c.args.class.now.bodies c.args.coverage.now.edges) c.args.number false false c.in-false-false.ensures c.in-false-false.ensures'
