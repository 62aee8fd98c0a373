use Rattle.std.proofs.Common.{length, sym, ◌∙◌, arith, rules, tests}
use Rattle.std.proofs.lemmas.Bool.{true≢false}
use Rattle.jc_bootstraps.specs.Bootstraps.{bootstrap_bodies}
use Rattle.jc_instrument.proofs.BootstrapsDecidedLaws.{few_bootstraps, named_nothing, no_bootstraps, none_left, some_bootstraps, takes_one_more}
use Rattle.jc_instrument.proofs.bootstraps.bootstrap_count.Goals as goal

pub returns-in_default-clause-refused : goal.returns-in_default-clause-refused
returns-in_default-clause-refused c =
    let class = c.args.class.now in
    no_bootstraps class.pool (length class.attributes) (bootstrap_bodies class.pool class.attributes) (c.class_bootstraps.ensures.none.0 (search (rules, tests)))

pub returns-then-names_nothing-clause-refused : goal.returns-then-names_nothing-clause-refused
returns-then-names_nothing-clause-refused c =
    let class = c.args.class.now in
    let bodies = bootstrap_bodies class.pool class.attributes in
    let some = some_bootstraps class.pool bodies c.in-Some.count c.in-Some.ensures.some in
    named_nothing class.pool (length class.attributes) bodies some.0 some.1 ((c.names_nothing.ensures some.0 some.1).0 c.if-names_nothing.true)

pub returns-then-is_full-clause-refused : goal.returns-then-is_full-clause-refused
returns-then-is_full-clause-refused c =
    let class = c.args.class.now in
    let bodies = bootstrap_bodies class.pool class.attributes in
    let some = some_bootstraps class.pool bodies c.in-Some.count c.in-Some.ensures.some in
    none_left class.pool (length class.attributes) bodies c.in-Some.count some.0 c.in-Some.ensures.some some.1
    (λ names. true≢false (sym ((c.names_nothing.ensures some.0 some.1).1 names) ∙ c.if-names_nothing.false)) (c.is_full.ensures.0 c.if-is_full.true)

pub returns-clause-few : goal.returns-clause-few
returns-clause-few c =
    let class = c.args.class.now in
    few_bootstraps (length class.attributes) (bootstrap_bodies class.pool class.attributes) c.in-Some.count c.in-Some.ensures.some (omega arith)
    (λ full. true≢false (sym (c.is_full.ensures.1 full) ∙ c.if-is_full.false))

pub returns-clause-taken : goal.returns-clause-taken
returns-clause-taken c = λ place none.
    let class = c.args.class.now in
    let bodies = bootstrap_bodies class.pool class.attributes in
    let some = some_bootstraps class.pool bodies c.in-Some.count c.in-Some.ensures.some in
    takes_one_more class.pool (length class.attributes) bodies c.in-Some.count some.0 c.in-Some.ensures.some some.1
    (λ names. true≢false (sym ((c.names_nothing.ensures some.0 some.1).1 names) ∙ c.if-names_nothing.false))
    (λ full. true≢false (sym (c.is_full.ensures.1 full) ∙ c.if-is_full.false)) place none
