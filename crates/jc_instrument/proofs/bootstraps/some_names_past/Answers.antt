use Rattle.std.proofs.Common.{◌≡◌, List, ℕ, [], ◌++◌, ◌∷◌, drop, length, sym, ◌∙◌, subst, ⊎_elim}
use Rattle.std.proofs.lemmas.Bool.{true≢false}
use Rattle.jc_bootstraps.specs.Bootstraps.{Bootstrap}
use Rattle.jc_bootstraps.specs.BootstrapsReading.{bootstrap_at}
use Rattle.jc_instrument.specs.Bootstraps.{NamesPast, SomeNamesPast}
use Rattle.jc_instrument.proofs.BootstrapsLaws.{Walked, false_where, no_item, so_many_read, some_by, some_last, true_where, walked_all, walked_more, walked_next, walked_none}
use Rattle.jc_instrument.proofs.bootstraps.some_names_past.Goals as goal

pub passing-init : goal.passing-init
passing-init c =
    let start = drop 2 c.args.body.now in
    let Fact : List Bootstrap → Type 0 = λ done. SomeNamesPast c.args.limit done → ⊥ in
    subst (λ (l : List ℕ). Walked bootstrap_at c.args.count start 0 l Fact) (sym c.behind_count-rest.ensures)
    (walked_none bootstrap_at c.args.count start Fact (no_item (NamesPast c.args.limit)))

pub returns-in_default : goal.returns-in_default
returns-in_default c = λ entries text size.
    let s = walked_next bootstrap_at c.args.count (drop 2 c.args.body.now) c.passing._entry c.passing.rest.now (λ done. SomeNamesPast c.args.limit done → ⊥)
    c.passing.invariant c.passing-test.true entries [] (so_many_read c.args.body.now entries c.args.count text size) in
    absurd (c.in_default.ensures s.one s.next s.is)

pub returns-then-past : goal.returns-then-past
returns-then-past c = λ entries text size.
    let s = walked_next bootstrap_at c.args.count (drop 2 c.args.body.now) c.passing._entry c.passing.rest.now (λ done. SomeNamesPast c.args.limit done → ⊥)
    c.passing.invariant c.passing-test.true entries [] (so_many_read c.args.body.now entries c.args.count text size) in
    true_where (NamesPast c.args.limit) entries
    (subst (SomeNamesPast c.args.limit) (sym s.parts)
    (some_last (NamesPast c.args.limit) s.done s.one s.left ((c.in-Some.ensures s.one s.next s.is).1.0 c.if-past.true)))

pub passing-preserved : goal.passing-preserved
passing-preserved c =
    walked_more bootstrap_at c.args.count (drop 2 c.args.body.now) c.passing._entry c.passing.rest.now (λ done. SomeNamesPast c.args.limit done → ⊥)
    c.passing.invariant c.passing-test.true c.in-Some.behind.now (λ done. SomeNamesPast c.args.limit done → ⊥)
    (λ x behind is.
    let q = c.in-Some.ensures x behind is in (
      q.0,
      λ done none some. ⊎_elim (λ front. none front) (λ last. true≢false (sym (q.1.1 last) ∙ c.if-past.false)) (some_by (NamesPast c.args.limit) done x some),
    ))

pub returns : goal.returns
returns c = λ entries text size.
    false_where (NamesPast c.args.limit) entries
    (walked_all bootstrap_at c.args.count (drop 2 c.args.body.now) c.passing._entry c.passing.rest.now (λ done. SomeNamesPast c.args.limit done → ⊥)
    c.passing.invariant c.passing-test.false entries [] (so_many_read c.args.body.now entries c.args.count text size)).1
