-- The places run on behind the end of the twin, one for each number.
use Rattle.std.proofs.Common.{◌≡◌, ℕ, zero, suc, ◌+◌, ◌-◌, Bool, false, ◌&&◌, ◌||◌, List, [], map, length, None, refl, sym, ap, ap₂, ◌∙◌, ⊎_elim, inl, inr, arith, append-nil}
use Rattle.std.specs.Prelude.{slice_get}
use Rattle.std.proofs.lemmas.List.{length-map, get_or_past}
use Rattle.std.proofs.lemmas.Option.{slice_get_past, slice_get-get_or}
use Rattle.std.proofs.lemmas.Bool.{cases_lt}
use Rattle.jc_methods.specs.Flow.{flow_of, FallsThrough, is_fallen_into, falls_at, goes_on}
use Rattle.jc_methods.specs.WellMade.{IsCode}
use Rattle.jc_methods.specs.declared.insn.Insn.{Insn}
use Rattle.jc_methods.specs.declared.insn.Flow.{Flow}
use Rattle.jc_methods.specs.declared.body.Body.{Body}
use Rattle.jc_plan.specs.Entries.{is_multi_target, is_invocation_line}
use Rattle.jc_plan.specs.Probed.{probe_of, id_if, probes_before}
use Rattle.jc_plan.specs.Plan.{lead_probe}
use Rattle.jc_plan.proofs.ByBranchLaws.{last_parts}
use Rattle.jc_emit.specs.Sizes.{TwinForm, is_wide, insn_at, early_by, early_probe, late_by, arms_by, probe_size, hop_size, arm_sizes, wide_by}
use Rattle.jc_emit.specs.Marks.{image_place, land_place, lead_place}
use Rattle.jc_emit.specs.Items.{own_of, segment_size, lead_of, land_of, image_of, twin_items}
use Rattle.jc_emit.proofs.ImagesLaws.{image_behind}
use Rattle.jc_emit.proofs.BuiltLaws.{own_twin, length_twin, image_is}
use Rattle.jc_methods.specs.declared.insn.Insn.TheVariants as insns
use Rattle.jc_methods.specs.declared.insn.Flow.TheVariants as flows

no_sequence_by : (insn : Insn) (flow : Flow) → flow_of insn ≡ flow → (FallsThrough insn → ⊥) → goes_on flow ≡ false
no_sequence_by insn flows.GoesOn e h = absurd (h (inl e))
no_sequence_by insn flows.Branches e h = absurd (h (inr e))
no_sequence_by insn flows.Jumps e h = refl
no_sequence_by insn flows.Switches e h = refl
no_sequence_by insn flows.Returns e h = refl
no_sequence_by insn flows.Throws e h = refl

no_sequence : (insn : Insn) → (FallsThrough insn → ⊥) → goes_on (flow_of insn) ≡ false
no_sequence insn h = no_sequence_by insn (flow_of insn) refl h

module _ (b : Body) (first : ℕ) (form : TwinForm) (is_code : IsCode b.code) where
  abbrev n : ℕ
  n = length b.code

  fallen_last : (i : ℕ) → i + 1 ≡ n → falls_at (slice_get b.code i) ≡ false
  fallen_last i e =
      let here = slice_get-get_or b.code i (insns.Simple 0) (omega arith) in
      let parts = last_parts b.code i (insn_at b.code i) here e in
      ap falls_at here ∙ no_sequence (insn_at b.code i) (is_code.ends parts.0 (insn_at b.code i) parts.1)

  pub fallen_end : (k : ℕ) → is_fallen_into b.code (n + k) ≡ false
  fallen_end k =
      let some = is_code.some in
      let i = n + k - 1 in
      let e : n + k ≡ suc i = omega arith in
      ap (is_fallen_into b.code) e
      ∙ ⊎_elim (λ below. fallen_last i (omega arith)) (λ above. ap falls_at (slice_get_past b.code i above)) (cases_lt i n)

  pub lead_none : (k : ℕ) → lead_probe b first (n + k) ≡ None
  lead_none k =
      ap (λ t. id_if (t && (is_multi_target b (n + k) || is_invocation_line b (n + k))) (first + probes_before b (record { at = n + k; number = 0 }))) (fallen_end k)

  insn_past : (k : ℕ) → insn_at b.code (n + k) ≡ insns.Simple 0
  insn_past k = get_or_past b.code (n + k) (insns.Simple 0) (omega arith)

  pub early_none : (k : ℕ) → early_probe b first (n + k) ≡ None
  early_none k = ap (λ insn. early_by (probe_of b first) (n + k) insn (flow_of insn)) (insn_past k)

  size_past : (k : ℕ) → segment_size b first form (n + k) ≡ 1
  size_past k =
      ap₂ (λ o insn. probe_size
      o + (probe_size (early_by (probe_of b first) (n + k) insn
      (flow_of insn)) + (1 + (wide_by (flow_of insn) (is_wide form (n + k)) + hop_size (late_by (probe_of b first) (n + k) insn (flow_of insn)) + arm_sizes
      (probe_of b first) (arms_by (n + k) insn (flow_of insn))))))
      (lead_none k) (insn_past k)

  pub lead_past : (k : ℕ) → lead_of b first form (n + k) ≡ lead_of b first form n + k
  lead_past zero = let e : n + 0 ≡ n = omega arith in ap (lead_of b first form) e ∙ omega arith
  lead_past (suc k) =
      let e : n + suc k ≡ suc (n + k) = omega arith in
      ap (lead_of b first form) e ∙ omega (arith, lead_past k, size_past k)

  pub image_past : (k : ℕ) → image_of b first form (n + k) ≡ lead_of b first form n + k
  image_past k =
      ap₂ (λ o p. lead_of b first form (n + k) + probe_size o + probe_size p) (lead_none k) (early_none k) ∙ omega (arith, lead_past k)

  abbrev own : List Bool
  own = map own_of (twin_items b first form)

  place_past : (k : ℕ) → image_place own (n + k) ≡ lead_of b first form n + k
  place_past k =
      ap (λ l. image_place l (n + k)) (sym (append-nil own))
      ∙ image_behind own ([]) (n + k) k (ap (λ t. t + k) (sym (own_twin b first form)))
      ∙ ap (λ t. t + k) (length-map (twin_items b first form) own_of ∙ length_twin b first form)

  -- the images, the landing places and the lead places that the own instructions tell are those of the function
  pub image_all : (i : ℕ) → image_place own i ≡ image_of b first form i
  image_all i =
      ⊎_elim (λ below. image_is b first form i below)
      (λ above. let e : i ≡ n + (i - n) = omega arith in ap (image_place own) e ∙ place_past (i - n) ∙ sym (image_past (i - n)) ∙ ap (image_of b first form) (sym e))
      (cases_lt i n)

  pub land_all : (i : ℕ) → land_place b first own i ≡ land_of b first form i
  land_all i = ap (λ q. q - probe_size (early_probe b first i)) (image_all i) ∙ omega arith

  pub lead_all : (i : ℕ) → lead_place b first own i ≡ lead_of b first form i
  lead_all i = ap (λ q. q - probe_size (lead_probe b first i)) (land_all i) ∙ omega arith

  pub images_are : image_place own ≡ image_of b first form
  images_are = λ k i. image_all i k

  pub lands_are : land_place b first own ≡ land_of b first form
  lands_are = λ k i. land_all i k

  pub leads_are : lead_place b first own ≡ lead_of b first form
  leads_are = λ k i. lead_all i k

  pub end_is : lead_of b first form n ≡ length (twin_items b first form)
  end_is = sym (length_twin b first form)
