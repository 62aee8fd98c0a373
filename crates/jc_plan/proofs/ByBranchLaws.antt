-- A plan read by branch.
use Rattle.std.proofs.Common.{◌≡◌, ⊎_elim, ℕ, zero, suc, ◌+◌, ◌<◌, true, List, [], ◌∷◌, ◌++◌, map, length, Some, sym, ap, ◌∙◌, subst, arith}
use Rattle.std.specs.Prelude.{Contains, slice_get, option_map, option_and_then}
use Rattle.std.specs.List.{sum_by}
use Rattle.std.proofs.lemmas.List.{take_all}
use Rattle.std.proofs.lemmas.Bool.{cases_order}
use Rattle.std.proofs.lemmas.Option.{slice_get-map, slice_get_within, same_Some, none-some}
use Rattle.jc_methods.specs.Flow.{flow_of, goes_on}
use Rattle.jc_methods.specs.WellMade.{IsCode}
use Rattle.jc_methods.specs.declared.insn.Insn.{Insn}
use Rattle.jc_methods.specs.declared.insn.Flow.TheVariants as flows
use Rattle.jc_methods.specs.declared.body.Body.{Body}
use Rattle.jc_methods.proofs.FlowLaws.{falls_decided}
use Rattle.jc_bytes.proofs.BooleanLaws.{stands_in}
use Rattle.jc_plan.specs.declared.branch.Branch.{Branch}
use Rattle.jc_plan.specs.Edges.{branches, jump, arm, exit, branches_of}
use Rattle.jc_plan.specs.Probed.{is_probed, id_of, probe_count, first_id, probe_of}
use Rattle.jc_plan.specs.Analysed.{IsAnalysed, class_plan}
use Rattle.jc_methods.specs.declared.analysed.Analysed.{Analysed}
use Rattle.jc_plan.specs.Plan.{plan_of, lead_probe, out_probe}
use Rattle.jc_plan.specs.ByBranch.{no_probe, planned}
use Rattle.jc_plan.proofs.IdsLaws.{ids_within}
use Rattle.jc_plan.proofs.PlanLaws.{lead_read, out_read}
use Rattle.jc_plan.proofs.MappedLaws.{made_of}
use Rattle.jc_plan.proofs.OneWayLaws.{firsts_rise, IsOf, a_sequence, a_jump, an_arm, an_exit, is_of}

-- the last instruction of a list
pub last_parts : (code : List Insn) (i : ℕ) (insn : Insn) → slice_get code i ≡ Some insn → i + 1 ≡ length code → (before : List Insn) × (code ≡ before ++ insn ∷ [])
last_parts [] i insn h e = absurd (none-some insn h)
last_parts (x ∷ []) zero insn h e = let same : x ≡ insn = same_Some x insn h in ([], λ k. same k ∷ [])
last_parts (x ∷ y ∷ code) zero insn h e = absurd (omega arith)
last_parts (x ∷ code) (suc i) insn h e =
    let rest = last_parts code i insn h (omega arith) in
    (x ∷ rest.0, λ k. x ∷ rest.1 k)

-- behind an instruction that goes on stands another
pub goes_within : (code : List Insn) (i : ℕ) (insn : Insn) → IsCode code → slice_get code i ≡ Some insn → goes_on (flow_of insn) ≡ true → i + 1 < length code
goes_within code i insn is h g =
    let within = slice_get_within code i insn h in
    ⊎_elim
    (λ last. let parts = last_parts code i insn h last in absurd (is.ends parts.0 insn parts.1 ((falls_decided insn).to g)))
    (λ apart. ⊎_elim (λ lt. lt) (λ lt. absurd (omega (arith, within, lt))) apart)
    (cases_order (i + 1) (length code))

out_is : (b : Body) (first i k : ℕ) (insn : Insn) (x : Branch) → slice_get b.code i ≡ Some insn → slice_get (branches_of i insn) k ≡ Some x
    → no_probe (option_and_then (λ out. slice_get out k) (slice_get (plan_of b first).out i)) ≡ out_probe b first x
out_is b first i k insn x h g =
    let there : slice_get (map (out_probe b first) (branches_of i insn)) k ≡ Some (out_probe b first x) =
    slice_get-map (out_probe b first) (branches_of i insn) k ∙ ap (option_map (out_probe b first)) g in
    ap (λ o. no_probe (option_and_then (λ out. slice_get out k) o)) (out_read b first i insn h) ∙ ap no_probe there

pub branch_planned : (b : Body) (first i k : ℕ) (insn : Insn) (x : Branch) → IsCode b.code → slice_get b.code i ≡ Some insn → slice_get (branches_of i insn) k ≡ Some x → IsOf insn i x
    → planned (plan_of b first) x k ≡ probe_of b first x
branch_planned b first i k insn x is h g (a_sequence goes e) =
    let lead : no_probe (slice_get (plan_of b first).lead (i + 1)) ≡ lead_probe b first (i + 1) = ap no_probe (lead_read b first (i + 1) (goes_within b.code i insn is h goes)) in
    subst (λ z. planned (plan_of b first) z k ≡ probe_of b first z) e lead
branch_planned b first i k insn x is h g (a_jump to one f e) = subst (λ z. planned (plan_of b first) z k ≡ probe_of b first z) e (out_is b first i k insn (jump i to) h (g ∙ ap Some (sym e)))
branch_planned b first i k insn x is h g (an_arm n to f c d e) = subst (λ z. planned (plan_of b first) z k ≡ probe_of b first z) e (out_is b first i k insn (arm i n to) h (g ∙ ap Some (sym e)))
branch_planned b first i k insn x is h g (an_exit f e) = subst (λ z. planned (plan_of b first) z k ≡ probe_of b first z) e (out_is b first i k insn (exit i) h (g ∙ ap Some (sym e)))

pub each_planned : (b : Body) (first i k : ℕ) (insn : Insn) (x : Branch) → IsCode b.code → slice_get b.code i ≡ Some insn
    → slice_get (branches_of i insn) k ≡ Some x → planned (plan_of b first) x k ≡ probe_of b first x
each_planned b first i k insn x is h g = branch_planned b first i k insn x is h g (is_of insn i x (stands_in (branches_of i insn) k x g))

-- ---- an analysed class

pub class_planned : (class : Analysed) (n : ℕ) (b : Body) → IsAnalysed class → slice_get class.bodies n ≡ Some b → slice_get class.plans n ≡ Some (plan_of b (first_id class.bodies n))
class_planned class n b is h =
    ap (λ ps. slice_get ps n) is.plans ∙ made_of (class_plan class.bodies) class.bodies n b h

pub class_within : (class : Analysed) (n : ℕ) (b : Body) (x : Branch) → IsAnalysed class → slice_get class.bodies n ≡ Some b → Contains (branches b.code) x → is_probed b x ≡ true
    → id_of b (first_id class.bodies n) x < class.probes
class_within class n b x is h c probed =
    let inside = (ids_within b (first_id class.bodies n) x c probed).1 in
    let all : first_id class.bodies (length class.bodies) ≡ sum_by probe_count class.bodies = ap (sum_by probe_count) (take_all (length class.bodies) class.bodies (omega arith)) in
    let probes = is.probes in
    omega (arith, inside, all, probes, firsts_rise class.bodies n (length class.bodies) b (slice_get_within class.bodies n b h) h)
