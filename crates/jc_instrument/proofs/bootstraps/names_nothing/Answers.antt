use Rattle.std.proofs.Common.{◌≡◌, ℕ, List, length, sym, ◌∙◌, subst}
use Rattle.std.specs.Prelude.{IsTrue, ◌↔◌}
use Rattle.std.proofs.lemmas.Bool.{true≢false}
use Rattle.jc_bootstraps.specs.Bootstraps.{bootstrap_bodies}
use Rattle.jc_instrument.specs.Bootstraps.{SomeNamesPast}
use Rattle.jc_instrument.proofs.BootstrapsDecidedLaws.{by_asking, by_naming, by_nothing, first_text, so_many}
use Rattle.jc_instrument.proofs.bootstraps.names_nothing.Goals as goal

pub returns-then-asks_past : goal.returns-then-asks_past
returns-then-asks_past c = λ entries are.
    let class = c.args.class.now in
    by_asking class.pool (bootstrap_bodies class.pool class.attributes) c.args.count entries c.requires are (c.asks_past.ensures.0 c.if-asks_past.true)

pub returns-in-Some : goal.returns-in-Some
returns-in-Some c = λ entries are.
    let class = c.args.class.now in
    let bodies = bootstrap_bodies class.pool class.attributes in
    let text = first_text bodies c.in-Some.body.now entries c.in-Some.ensures are in
    by_naming class.pool bodies c.args.count entries c.requires are (λ asks. true≢false (sym (c.asks_past.ensures.1 asks) ∙ c.if-asks_past.false)) c.some_names_past.result
    (subst (λ (n : ℕ). IsTrue c.some_names_past.result ↔ SomeNamesPast n entries) c.count.ensures
    (c.some_names_past.ensures entries text (so_many class.pool bodies c.args.count entries c.requires are)))

pub returns-in-None : goal.returns-in-None
returns-in-None c = λ entries are.
    let class = c.args.class.now in
    by_nothing class.pool (bootstrap_bodies class.pool class.attributes) c.args.count entries c.requires are
    (λ asks. true≢false (sym (c.asks_past.ensures.1 asks) ∙ c.if-asks_past.false)) c.in-None.ensures
