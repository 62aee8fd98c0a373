use Rattle.std.proofs.Common.{◌≡◌, map, refl, sym, ◌∙◌, ap, subst, rules}
use Rattle.jc_methods.specs.declared.probe_members.Fetch.{Fetch}
use Rattle.jc_instrument.specs.Constants.{within}
use Rattle.jc_instrument.specs.Needed.{GetsBy}
use Rattle.jc_instrument.proofs.ConstantsLaws.{constants_planned, enough_constants}
use Rattle.jc_instrument.proofs.constants.probe_constants.Goals as goal

pub returns-clause-are : goal.returns-clause-are
returns-clause-are c =
    let class = c.args.class.now in
    let giver = c.in_ok-giver.ensures.place in
    let integers = c.in_ok-places.ensures giver.0 giver.1 giver.2 in
    let same : c.deref.result.now ≡ c.in_ok-places.places = search rules in
    constants_planned class c.args.bootstrap c.args.count c.in_ok-giver.giver.place c.in_ok-places.places giver.0 integers.0 c.fetch_of-fetch.result
    c.in_ok-giver.ensures.none (subst (λ (f : Fetch). GetsBy class f c.args.bootstrap) (sym c.fetch_of-fetch.ensures) c.requires.gets) giver.3 integers.1
    (record { fetch = c.fetch_of-fetch.result; giver = c.within.result; integers = c.in_ok-all_within.field-0 }) refl c.within.ensures
    (c.in_ok-all_within.ensures ∙ ap (map within) same)

pub returns-clause-enough : goal.returns-clause-enough
returns-clause-enough c =
    enough_constants c.args.class.now c.args.count c.args.bootstrap
    (record { fetch = c.fetch_of-fetch.result; giver = c.within.result; integers = c.in_ok-all_within.field-0 }) (returns-clause-are c)
