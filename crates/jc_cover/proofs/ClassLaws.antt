-- The bodies and plans of an analysed class.
use Rattle.std.proofs.Common.{◌≡◌, ℕ, ◌+◌, ◌-◌, ◌<◌, length, get_or, refl, sym, ap, ◌∙◌, subst, arith}
use Rattle.std.proofs.lemmas.Option.{same_Some, slice_get_read}
use Rattle.jc_methods.specs.WellMade.{IsCode, IsWellMade}
use Rattle.jc_methods.specs.declared.analysed.Analysed.{Analysed}
use Rattle.jc_methods.specs.declared.body.Body.{Body}
use Rattle.jc_methods.specs.declared.plan.Plan.{Plan}
use Rattle.jc_plan.specs.Analysed.{IsAnalysed, class_plan}
use Rattle.jc_plan.specs.Plan.{plan_of}
use Rattle.jc_plan.specs.Probed.{probe_count, first_id}
use Rattle.jc_plan.proofs.ByBranchLaws.{class_planned}
use Rattle.jc_plan.proofs.MappedLaws.{length_made}

module _ (class : Analysed) (n : ℕ) (b : Body) where
  pub well_made : IsAnalysed class → n < length class.bodies → b ≡ get_or class.bodies n b → IsWellMade b
  well_made analysed lt is = subst IsWellMade (sym is) (analysed.well_made n b lt)

  pub code_made : IsAnalysed class → n < length class.bodies → b ≡ get_or class.bodies n b → IsCode b.code
  code_made analysed lt is = (well_made analysed lt is).of_any_size.code

  module _ (plan : Plan) where
    -- the plan at the body's number is that of the body
    pub plan_told : IsAnalysed class → n < length class.bodies → b ≡ get_or class.bodies n b → plan ≡ get_or class.plans n plan → plan ≡ plan_of b (first_id class.bodies n)
    plan_told analysed lt is same =
        let stands = slice_get_read class.bodies (length class.bodies) n b refl lt is in
        let size : length class.plans ≡ length class.bodies = ap length analysed.plans ∙ length_made (class_plan class.bodies) 0 class.bodies in
        let here = slice_get_read class.plans (length class.bodies) n plan (sym size) lt same in
        same_Some plan (plan_of b (first_id class.bodies n)) (sym here ∙ class_planned class n b analysed stands)

    -- and tells its first id
    pub first_told : plan ≡ plan_of b (first_id class.bodies n) → plan.next - probe_count b ≡ first_id class.bodies n
    first_told e = let next : plan.next ≡ first_id class.bodies n + probe_count b = ap (λ (p : Plan). p.next) e in omega (arith, next)
