-- Each place of an instruction's segment in a twin is sound: the probes in front of its image, and the image.
use Rattle.std.proofs.Common.{◌≡◌, ℕ, ◌+◌, ◌<◌, true, false, List, ◌++◌, length, Option, Some, None, refl, sym, ap, subst, arith}
use Rattle.jc_methods.specs.Flow.{flow_of}
use Rattle.jc_methods.specs.declared.insn.Insn.{Insn}
use Rattle.jc_methods.specs.declared.kind.State.{State}
use Rattle.jc_methods.specs.declared.body.Body.{Body}
use Rattle.jc_methods.specs.VerificationTypes.{Names, TypeState, type_state}
use Rattle.jc_kinds.specs.States.{state_of}
use Rattle.jc_kinds_after.specs.Shift.{shifted}
use Rattle.jc_plan.specs.Plan.{lead_probe}
use Rattle.jc_emit.specs.Marks.{TwinPlaces}
use Rattle.jc_emit.specs.Sizes.{TwinForm, early_probe, probe_size}
use Rattle.jc_emit.specs.TwinFrames.{state_at}
use Rattle.jc_emit.specs.Items.{Item, lead_part, early_part, lead_of, land_of, image_of, image_part, segment, twin_items}
use Rattle.jc_kinds.specs.Flows.{ThereBy}
use Rattle.jc_emit.proofs.FlowLaws.{each_same, state_shift, fit_there}
use Rattle.jc_emit.proofs.PiecesLaws.{HasAt, Each, each_append}
use Rattle.jc_emit.proofs.BuiltLaws.{length-lead, length-early}
use Rattle.jc_emit.proofs.ToldLaws.{lead_at, early_at, main_at}
use Rattle.jc_emit.proofs.TwinPremisesLaws.{Premises}
use Rattle.jc_emit.proofs.TwinStatesLaws.{S_low, S_long}
use Rattle.jc_emit.proofs.TwinLeadsLaws.{led_long, all_led, all_landed, all_imaged}
use Rattle.jc_emit.specs.Sizes as sizes
use Rattle.jc_emit.proofs.TwinSoundLaws.{Fine, main_fine, probe_fine, same_fits}

module _ (names new_names : Names) (states : List State) (first : ℕ) (form : TwinForm) (named : TwinPlaces) (b b' : Body) (p : Premises names new_names states first form named b b') where
  abbrev v : ℕ
  v = b.arg_slots

  abbrev items : List Item
  items = twin_items b first form

  abbrev q_of : ℕ → ℕ
  q_of i = image_of b first form i

  abbrev land : ℕ → ℕ
  land i = land_of b first form i

  abbrev lead : ℕ → ℕ
  lead i = lead_of b first form i

  abbrev old : ℕ → Insn
  old i = sizes.insn_at b.code i

  abbrev moved : TypeState → TypeState
  moved s = shifted (image_of b first form) b.arg_slots s

  abbrev S : ℕ → TypeState
  S i = type_state names (state_at states i)

  abbrev N : ℕ → Option TypeState
  N q = state_of new_names b' q

  lead_fine : (i : ℕ) (lt : i < length b.code) → Each (Fine names new_names states first form named b b' p i) (lead i) (lead_part (lead_probe b first i) i)
  lead_fine i lt = by (lead_probe b first i) refl (lead_at b first form named i lt)
    where
      by : (o : Option ℕ) → lead_probe b first i ≡ o → HasAt items (lead i) (lead_part o i) → Each (Fine names new_names states first form named b b' p i) (lead i) (lead_part o i)
      by None none h = tt
      by (Some id) some h =
          let l = all_led names new_names states first form named b b' p i lt in
          let size = ap probe_size some in
          let place : lead i + 1 + 1 + 1 + 1 ≡ land i = omega (arith, size) in
          let fits = state_shift p.flow (image_of b first form) v l.before (S i) l.fits in
          probe_fine names new_names states first form named b b' p i (lead i) id i true l.before h l.state_is l.low (led_long names new_names states first form named b b' p i lt l) fits.locals
          (subst (λ k. ThereBy p.passes (Some (moved l.before)) (N k)) (sym place)
          (fit_there p.passes (N (land i)) (moved l.before) (moved (S i)) (all_landed names new_names states first form named b b' p i lt) fits))

  early_fine : (i : ℕ) (lt : i < length b.code) → Each (Fine names new_names states first form named b b' p i) (land i) (early_part (early_probe b first i) i)
  early_fine i lt = by (early_probe b first i) refl (early_at b first form named i lt)
    where
      by : (o : Option ℕ) → early_probe b first i ≡ o → HasAt items (land i) (early_part o i) → Each (Fine names new_names states first form named b b' p i) (land i) (early_part o i)
      by None none h = tt
      by (Some id) some h =
          let size = ap probe_size some in
          let place : land i + 1 + 1 + 1 + 1 ≡ q_of i = omega (arith, size) in
          probe_fine names new_names states first form named b b' p i (land i) id i false (S i) h (all_landed names new_names states first form named b b' p i lt)
          (S_low names new_names states first form named b b' p i lt) (S_long names new_names states first form named b b' p i lt)
          (each_same p.flow (moved (S i)).locals)
          (subst (λ k. ThereBy p.passes (Some (moved (S i))) (N k)) (sym place)
          (same_fits names new_names states first form named b b' p (N (q_of i)) (moved (S i)) (all_imaged names new_names states first form named b b' p i lt)))

  pub segment_fine : (i : ℕ) (lt : i < length b.code) → Each (Fine names new_names states first form named b b' p i) (lead i) (segment b first form i)
  segment_fine i lt =
      each_append (Fine names new_names states first form named b b' p i) (lead i) (lead_part (lead_probe b first i) i) _ (lead_fine i lt)
      (subst
      (λ k. Each (Fine names new_names states first form named b b' p i) (lead i + k) (early_part (early_probe b first i) i ++ image_part b first form i (old i) (flow_of (old i))))
      (sym (length-lead (lead_probe b first i) i))
      (each_append (Fine names new_names states first form named b b' p i) (land i) (early_part (early_probe b first i) i) _ (early_fine i lt)
      (subst (λ k. Each (Fine names new_names states first form named b b' p i) (land i + k) (image_part b first form i (old i) (flow_of (old i)))) (sym (length-early (early_probe b first i) i))
      (main_fine names new_names states first form named b b' p i (flow_of (old i)) lt refl (main_at b first form named i lt)))))
