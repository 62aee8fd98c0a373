use Rattle.std.proofs.Common.{◌≡◌, ◌≤◌, ℕ, List, [], false, sym, ◌∙◌, ap, subst, rules, tests}
use Rattle.std.specs.Prelude.{IsTrue, ◌↔◌}
use Rattle.std.proofs.lemmas.Option.{none-some, same_Some}
use Rattle.jc_bytes.specs.Decoder.{number_at}
use Rattle.jc_bytes.specs.Parsing.{item}
use Rattle.jc_instrument.specs.Bootstraps.{SomePast}
use Rattle.jc_instrument.proofs.BootstrapsLaws.{false_where, found_before, found_last, item_read, no_item, walked_all, walked_more, walked_next, walked_none}
use Rattle.jc_instrument.proofs.bootstraps.pass_places.Goals.{then-past, else-past}
use Rattle.jc_instrument.proofs.bootstraps.pass_places.Goals as goal

pub passing-init : goal.passing-init
passing-init c =
    walked_none (item (number_at 2)) c.args.count c.args.bytes.now (λ done. IsTrue false ↔ SomePast c.args.limit done)
    (false_where (λ (place : ℕ). c.args.limit ≤ place) [] (no_item (λ (place : ℕ). c.args.limit ≤ place)))

pub returns-in_default : goal.returns-in_default
returns-in_default c = λ places rest e.
    let s = walked_next (item (number_at 2)) c.args.count c.args.bytes.now c.passing._place c.passing.rest.now
    (λ done. IsTrue c.passing.past ↔ SomePast c.args.limit done) c.passing.invariant c.passing-test.true places rest e in
    none-some (s.one, s.next) (c.in_default.ensures ∙ item_read c.passing.rest.now s.one s.next s.is)

pub passing-preserved : goal.passing-preserved
passing-preserved c =
    walked_more (item (number_at 2)) c.args.count c.args.bytes.now c.passing._place c.passing.rest.now
    (λ done. IsTrue c.passing.past ↔ SomePast c.args.limit done) c.passing.invariant c.passing-test.true c.in-Some.behind.now
    (λ done. IsTrue c.if-past.past ↔ SomePast c.args.limit done)
    (λ x behind is.
    let same = same_Some (c.in-Some.place, c.in-Some.behind.now) (x, behind) (c.in-Some.ensures ∙ item_read c.passing.rest.now x behind is) in (
      ap (λ (p : ℕ × List ℕ). p.1) same,
      λ done so_far. elim c.if-past.branch [
        | then-past w ↦ found_before (λ (place : ℕ). c.args.limit ≤ place) done x c.passing.past c.if-past.past so_far w.if-past.true (w.past-is ∙ w.if-past.true)
        | else-past w ↦ found_last (λ (place : ℕ). c.args.limit ≤ place) done x c.passing.past c.if-past.past so_far w.if-past.false
            (subst (λ (n : ℕ). IsTrue c.if-past.past ↔ (c.args.limit ≤ n)) (ap (λ (p : ℕ × List ℕ). p.0) same) (search (rules, tests)))
      ],
    ))

pub returns : goal.returns
returns c = λ places rest e.
    walked_all (item (number_at 2)) c.args.count c.args.bytes.now c.passing._place c.passing.rest.now
    (λ done. IsTrue c.passing.past ↔ SomePast c.args.limit done) c.passing.invariant c.passing-test.false places rest e
