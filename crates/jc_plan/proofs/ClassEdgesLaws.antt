-- Edges of a class and the ids of their probes.
use Rattle.std.proofs.Common.{◌≡◌, ℕ, Bool, true, false, List, Some, refl, sym, ap, ◌∙◌, subst}
use Rattle.std.specs.Prelude.{slice_get, Contains}
use Rattle.std.proofs.lemmas.Option.{same_Some, none-some}
use Rattle.jc_methods.specs.declared.body.Body.{Body}
use Rattle.jc_plan.specs.Edges.{branches}
use Rattle.jc_plan.specs.Probed.{is_probed, id_of, id_if, first_id}
use Rattle.jc_plan.specs.ClassEdges.{ClassEdge, HasId}
use Rattle.jc_plan.proofs.OneIdLaws.{one_edge}
use Rattle.jc_plan.proofs.OneWayLaws.{one_body}

id_told : (t : Bool) (a id : ℕ) → id_if t a ≡ Some id → (t ≡ true) × (a ≡ id)
id_told true a id e = (refl, same_Some a id e)
id_told false a id e = absurd (none-some id e)

-- no two edges of a class have one id
pub one_class_edge : (bodies : List Body) (e f : ClassEdge) (id : ℕ) → HasId bodies e id → HasId bodies f id → e ≡ f
one_class_edge bodies e f id p q =
    let a = id_told (is_probed p.body e.branch) (id_of p.body (first_id bodies e.body) e.branch) id p.probe in
    let c = id_told (is_probed q.body f.branch) (id_of q.body (first_id bodies f.body) f.branch) id q.probe in
    let body = one_body bodies e.body f.body p.body q.body e.branch f.branch p.stands q.stands p.listed q.listed a.0 c.0 (a.1 ∙ sym c.1) in
    let same : p.body ≡ q.body = same_Some p.body q.body (sym p.stands ∙ ap (slice_get bodies) body ∙ q.stands) in
    let branch = one_edge q.body (first_id bodies f.body) e.branch f.branch
    (subst (λ (b : Body). Contains (branches b.code) e.branch) same p.listed) q.listed
    (subst (λ (b : Body). is_probed b e.branch ≡ true) same a.0) c.0
    (sym (ap (λ (b : Body). id_of b (first_id bodies e.body) e.branch) same ∙ ap (λ n. id_of q.body (first_id bodies n) e.branch) body) ∙ a.1 ∙ sym c.1) in
    λ j. record { body = body j; branch = branch j }
