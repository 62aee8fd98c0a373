use Rattle.std.specs.List.{list_any}
use Rattle.jc_cover.specs.Counters.{methods_of}
use Rattle.tests_rules.specs.Slow.{is_in_counted}
use Rattle.tests_rules.proofs.LookingLaws.{LeftFrom}
use Rattle.tests_rules.proofs.slow.is_in_class.Given as goal

-- the methods that are left give the answer
abbrev pub invariant-looking : goal.invariant-looking
invariant-looking l =
    let test = is_in_counted l.number l.covered in
    LeftFrom test l.class.bodies l.coverage.edges l.n (list_any test (methods_of l.class.bodies l.coverage.edges)) l.n
