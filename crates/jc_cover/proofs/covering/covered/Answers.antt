use Rattle.std.proofs.Common.{◌≡◌, ◌<◌, ◌≤◌, ℕ, Bool, List, [], ◌∷◌, ◌++◌, length, get_or, sym, ap, ◌∙◌, subst, arith}
use Rattle.std.proofs.lemmas.List.{take_all}
use Rattle.jc_bytes.specs.PlainLists.{map_from}
use Rattle.jc_methods.specs.declared.body.Body.{Body}
use Rattle.jc_methods.specs.declared.plan.Plan.{Plan}
use Rattle.jc_plan.specs.Analysed.{class_plan}
use Rattle.jc_plan.specs.Plan.{plan_of}
use Rattle.jc_plan.proofs.MappedLaws.{length_made}
use Rattle.jc_plan.proofs.PlacesLaws.{maps_one}
use Rattle.jc_cover.specs.Covered.{TellsCovered}
use Rattle.jc_cover.specs.Marking.{body_values, class_values, coverage_of}
use Rattle.jc_cover.proofs.CoverageLaws.{tells}
use Rattle.jc_cover.proofs.ClassLaws.{code_made, plan_told, first_told}
use Rattle.jc_cover.proofs.covering.covered.Goals as goal

pub bounds-deref-number : goal.bounds-deref-number
bounds-deref-number c =
    let class = c.args.class.now in
    omega (
      arith,
      ap length c.deref.ensures,
      ap length c.requires.analysed.plans,
      length_made (class_plan class.bodies) 0 class.bodies,
      ap length c.deref-body-items.ensures,
    )

pub body_values-requires : goal.body_values-requires
body_values-requires c =
    let class = c.args.class.now in
    let n = c.covering.number in
    let b = c.body-item.result in
    let plan = c.index-deref-number.result in
    let lt : n < length class.bodies = omega (arith, ap length c.deref-body-items.ensures) in
    let is = c.body-item.is ∙ ap (λ (l : List Body). get_or l n b) c.deref-body-items.ensures in
    let same = c.index-deref-number.is ∙ ap (λ (l : List Plan). get_or l n plan) c.deref.ensures in
    let told = plan_told class n b plan c.requires.analysed lt is same in
    (code_made class n b c.requires.analysed lt is, told ∙ ap (plan_of b) (sym (first_told class n b plan told)))

pub covering-preserved : goal.covering-preserved
covering-preserved c =
    let class = c.args.class.now in
    let hits = c.hits_or_none-hits.result.now in
    let n = c.covering.number in
    let b = c.body-item.result in
    let plan = c.index-deref-number.result in
    let lt : n < length class.bodies = omega (arith, ap length c.deref-body-items.ensures) in
    let is = c.body-item.is ∙ ap (λ (l : List Body). get_or l n b) c.deref-body-items.ensures in
    let same = c.index-deref-number.is ∙ ap (λ (l : List Plan). get_or l n plan) c.deref.ensures in
    let first = first_told class n b plan (plan_told class n b plan c.requires.analysed lt is same) in
    maps_one (class_values class.bodies hits) class.bodies n b c.covering.edges c.push.new.self lt is c.covering.invariant
    (c.in_ok-push.ensures.ok ∙ ap (λ (v : List (List Bool)). c.covering.edges ++ v ∷ []) (c.in_ok-body_values.ensures ∙ ap (λ (f : ℕ). body_values b f hits) first))

pub returns-clause-told : goal.returns-clause-told
returns-clause-told c =
    let class = c.args.class.now in
    let hits = c.hits_or_none-hits.result.now in
    let le : length class.bodies ≤ c.covering.number = omega (arith, ap length c.deref-body-items.ensures) in
    let all = c.covering.invariant ∙ ap (map_from (class_values class.bodies hits) 0) (take_all c.covering.number class.bodies le) in
    let whole : coverage_of class.bodies hits ≡ record { edges = c.covering.edges } = λ i. record { edges = sym all i } in
    subst (λ (h : List Bool). TellsCovered class.bodies h (record { edges = c.covering.edges })) c.hits_or_none-hits.ensures (subst (TellsCovered class.bodies hits) whole (tells class.bodies hits))
