-- What the tables of a plan say of an instruction.
use Rattle.std.proofs.Common.{◌≡◌, ℕ, ◌+◌, ◌<◌, List, [], ◌∷◌, length, get_or, map, Option, None, refl, sym, ap, ◌∙◌, arith}
use Rattle.std.proofs.lemmas.Option.{get_or_from_slice_get, slice_get-get_or}
use Rattle.jc_bytes.specs.PlainLists.{map_from}
use Rattle.jc_methods.specs.Flow.{flow_of, targets_of, jump_target}
use Rattle.jc_bytes.specs.FirstSeen.{first_seen}
use Rattle.jc_methods.specs.declared.insn.Insn.{Insn}
use Rattle.jc_methods.specs.declared.insn.Insn.TheVariants as insns
use Rattle.jc_methods.specs.declared.insn.Flow.{Flow}
use Rattle.jc_methods.specs.declared.insn.Flow.TheVariants as flows
use Rattle.jc_methods.specs.declared.body.Body.{Body}
use Rattle.jc_methods.specs.declared.plan.Plan.{Plan}
use Rattle.jc_plan.specs.Edges.{arm, jump, branches_by}
use Rattle.jc_plan.specs.Probed.{probe_of}
use Rattle.jc_plan.specs.Plan.{plan_of, lead_probe, out_probe, out_probes}
use Rattle.jc_plan.proofs.PlacesLaws.{length_mapped}
use Rattle.jc_plan.proofs.PlanLaws.{lead_read, out_read}
use Rattle.jc_emit.specs.Sizes.{insn_at, late_by, late_probe, arms_by, arms_at}
use Rattle.jc_emit.proofs.OthersLaws.{tests_target}

pub length_map_from : {X Y : Type 0} (f : ℕ → X → Y) (k : ℕ) (xs : List X) → length (map_from f k xs) ≡ length xs
length_map_from f k [] = refl
length_map_from f k (x ∷ xs) = let e = length_map_from f (k + 1) xs in omega (arith, e)

module _ (b : Body) (first : ℕ) (p : Plan) (is : p ≡ plan_of b first) where
  pub length_leads : length p.lead ≡ length b.code
  length_leads = ap (λ (q : Plan). length q.lead) is ∙ length_mapped (lead_probe b first) 0 (length b.code)

  pub length_outs : length p.out ≡ length b.code
  length_outs = ap (λ (q : Plan). length q.out) is ∙ length_map_from (out_probes b first) 0 b.code

  pub lead_here : (i : ℕ) (d : Option ℕ) → i < length b.code → get_or p.lead i d ≡ lead_probe b first i
  lead_here i d lt =
      ap (λ (q : Plan). get_or q.lead i d) is
      ∙ get_or_from_slice_get (plan_of b first).lead i (lead_probe b first i) d (lead_read b first i lt)

  pub outs_here : (i : ℕ) (d : List (Option ℕ)) → i < length b.code → get_or p.out i d ≡ out_probes b first i (insn_at b.code i)
  outs_here i d lt =
      ap (λ (q : Plan). get_or q.out i d) is
      ∙ get_or_from_slice_get (plan_of b first).out i (out_probes b first i (insn_at b.code i)) d
      (out_read b first i (insn_at b.code i) (slice_get-get_or b.code i (insns.Simple 0) lt))

  -- the probes that are read off a list of those of each instruction
  pub outs_seen : (seen : List (List (Option ℕ))) (i : ℕ) (d ids : List (Option ℕ)) → i < length b.code → seen ≡ p.out → d ≡ get_or seen i d → ids ≡ d
      → ids ≡ out_probes b first i (insn_at b.code i)
  outs_seen seen i d ids lt are is same = same ∙ is ∙ ap (λ (l : List (List (Option ℕ))). get_or l i d) are ∙ outs_here i d lt

module _ (b : Body) (first i : ℕ) where
  abbrev old : Insn
  old = insn_at b.code i

  outs_by : (flow : Flow) → flow_of old ≡ flow → out_probes b first i old ≡ map (out_probe b first) (branches_by flow i (targets_of old))
  outs_by flow e = ap (λ f. map (out_probe b first) (branches_by f i (targets_of old))) e

  -- a conditional jump has two branches
  pub outs_test : flow_of old ≡ flows.Branches → out_probes b first i old ≡ None ∷ late_probe b first i ∷ []
  outs_test e =
      let late : late_probe b first i ≡ probe_of b first (jump i (jump_target old)) = ap (late_by (probe_of b first) i old) e in
      outs_by flows.Branches e
      ∙ ap (λ ts. map (out_probe b first) (branches_by flows.Branches i ts)) (tests_target old e)
      ∙ ap (λ o. None ∷ o ∷ []) (sym late)

  pub late_other : (flow : Flow) → flow_of old ≡ flow → (flow ≡ flows.Branches → ⊥) → late_probe b first i ≡ None
  late_other flows.Branches e other = absurd (other refl)
  late_other flows.GoesOn e other = ap (late_by (probe_of b first) i old) e
  late_other flows.Jumps e other = ap (late_by (probe_of b first) i old) e
  late_other flows.Switches e other = ap (late_by (probe_of b first) i old) e
  late_other flows.Returns e other = ap (late_by (probe_of b first) i old) e
  late_other flows.Throws e other = ap (late_by (probe_of b first) i old) e

  arms_out : (k : ℕ) (ts : List ℕ) → map (out_probe b first) (map_from (arm i) k ts) ≡ map (probe_of b first) (map_from (arm i) k ts)
  arms_out k [] = refl
  arms_out k (t ∷ ts) = ap (λ l. probe_of b first (arm i k t) ∷ l) (arms_out (k + 1) ts)

  -- a switch has one branch for each of its distinct targets
  pub outs_switch : flow_of old ≡ flows.Switches → out_probes b first i old ≡ map (probe_of b first) (arms_at b.code i)
  outs_switch e =
      let arms : arms_at b.code i ≡ branches_by flows.Switches i (targets_of old) =
      ap (arms_by i old) e ∙ ap (λ f. branches_by f i (targets_of old)) e in
      outs_by flows.Switches e ∙ arms_out 0 (first_seen (targets_of old)) ∙ ap (map (probe_of b first)) (sym arms)

  pub arms_other : (flow : Flow) → flow_of old ≡ flow → (flow ≡ flows.Switches → ⊥) → arms_at b.code i ≡ []
  arms_other flows.Switches e other = absurd (other refl)
  arms_other flows.GoesOn e other = ap (arms_by i old) e
  arms_other flows.Branches e other = ap (arms_by i old) e
  arms_other flows.Jumps e other = ap (arms_by i old) e
  arms_other flows.Returns e other = ap (arms_by i old) e
  arms_other flows.Throws e other = ap (arms_by i old) e
