use Rattle.std.proofs.Common.{List, length, map, sym, ◌∙◌, ap, subst, arith, All}
use Rattle.std.proofs.lemmas.List.{take_all, length-map}
use Rattle.std.proofs.lemmas.List.Elements.{All-map}
use Rattle.jc_frames.specs.declared.method.Value.{Value}
use Rattle.jc_frames.specs.declared.method.Value.TheVariants as values
use Rattle.jc_frames.specs.Running.{held_values, IsNumberedValue}
use Rattle.jc_frames.proofs.EntryValuesLaws.{values_wrapped}
use Rattle.jc_frames.proofs.running.values_of_locals.Goals as goal

pub returns-clause-values : goal.returns-clause-values
returns-clause-values c pool names =
    let ks = c.in_ok-kinds.kinds.items in
    ap (held_values pool names) (c.listing.invariant ∙ ap (map values.Of) (take_all c.listing.kind-index c.deref-kind-items.result.now c.listing-test.false ∙ c.deref-kind-items.ensures.value))
    ∙ values_wrapped pool names ks ∙ c.in_ok-kinds.ensures.values names

pub returns-clause-few : goal.returns-clause-few
returns-clause-few c =
    let ks = c.in_ok-kinds.kinds.items in
    let e = ap (λ (l : List Value). length l)
    (c.listing.invariant
    ∙ ap (map values.Of) (take_all c.listing.kind-index c.deref-kind-items.result.now c.listing-test.false ∙ c.deref-kind-items.ensures.value)) in
    omega (arith, e, length-map ks values.Of, c.in_ok-kinds.ensures.few)

pub returns-clause-numbered : goal.returns-clause-numbered
returns-clause-numbered c count all =
    let ks = c.in_ok-kinds.kinds.items in
    let Each : List Value → Type 0 = λ l. All (IsNumberedValue count) l in
    subst Each (sym (c.listing.invariant ∙ ap (map values.Of) (take_all c.listing.kind-index c.deref-kind-items.result.now c.listing-test.false ∙ c.deref-kind-items.ensures.value)))
    (All-map (IsNumberedValue count) values.Of ks (c.in_ok-kinds.ensures.numbered count all))
