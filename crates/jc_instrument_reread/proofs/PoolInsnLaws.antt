-- The instructions of a body that name entries of the pool stand in its twin as they were.
use Rattle.std.proofs.Common.{◌≡◌, ℕ, List, map, Some, refl, ap, ◌∙◌, subst}
use Rattle.std.specs.Prelude.{slice_get}
use Rattle.std.specs.Option.{option_map}
use Rattle.std.proofs.lemmas.Option.{none-some, get_or_from_slice_get, slice_get_within, slice_get-map}
use Rattle.jc_methods.specs.Flow.{flow_of}
use Rattle.jc_methods.specs.InsnUse.{pool_place}
use Rattle.jc_methods.specs.WellMade.{IsCode}
use Rattle.jc_methods.specs.declared.body.Body.{Body}
use Rattle.jc_methods.specs.declared.insn.Insn.{Insn}
use Rattle.jc_methods.specs.declared.insn.Insn.TheVariants as insns
use Rattle.jc_methods.specs.declared.insn.Flow.{Flow}
use Rattle.jc_methods.specs.declared.insn.Flow.TheVariants as flows
use Rattle.jc_kinds_after.specs.Shift.{with_slot}
use Rattle.jc_emit.specs.Marks.{TwinPlaces}
use Rattle.jc_emit.specs.Items.{Item, insn_of, image_part, image_of, twin_items}
use Rattle.jc_emit.specs.Sizes.{TwinForm, insn_at}
use Rattle.jc_emit.proofs.PiecesLaws.{HasAt}
use Rattle.jc_emit.proofs.ToldLaws.{main_at}

-- it goes on, and has no local variable
pool_goes_on : (v place : ℕ) (insn : Insn) → pool_place insn ≡ Some place → (flow_of insn ≡ flows.GoesOn) × (with_slot v insn ≡ insn)
pool_goes_on v place (insns.Local op slot) e = absurd (none-some place e)
pool_goes_on v place (insns.Inc slot by) e = absurd (none-some place e)
pool_goes_on v place (insns.Simple op) e = absurd (none-some place e)
pool_goes_on v place (insns.Push op value) e = absurd (none-some place e)
pool_goes_on v place (insns.NewArray elem) e = absurd (none-some place e)
pool_goes_on v place (insns.Jump op to) e = absurd (none-some place e)
pool_goes_on v place (insns.Table low default arms) e = absurd (none-some place e)
pool_goes_on v place (insns.Lookup default arms) e = absurd (none-some place e)
pool_goes_on v place insn e = (refl, refl)

module _ (b : Body) (first : ℕ) (form : TwinForm) (named : TwinPlaces) (is_code : IsCode b.code) where
  abbrev items : List Item
  items = twin_items b first form

  -- such an instruction stands in the twin at its image as it was
  pub same_there : (i place : ℕ) (insn : Insn) → slice_get b.code i ≡ Some insn → pool_place insn ≡ Some place
      → slice_get (map (insn_of named b.arg_slots) items) (image_of b first form i) ≡ Some insn
  same_there i place insn at names =
      let lt = slice_get_within b.code i insn at in
      let old : insn_at b.code i ≡ insn = get_or_from_slice_get b.code i insn (insns.Simple 0) at in
      let plain = pool_goes_on b.arg_slots place insn names in
      let flow : flow_of (insn_at b.code i) ≡ flows.GoesOn = ap flow_of old ∙ plain.0 in
      let there = subst (λ (f : Flow). HasAt items (image_of b first form i) (image_part b first form i (insn_at b.code i) f)) flow (main_at b first form named i lt) in
      slice_get-map (insn_of named b.arg_slots) items (image_of b first form i) ∙ ap (option_map (insn_of named b.arg_slots)) there.0 ∙ ap Some (ap (with_slot b.arg_slots) old ∙ plain.1)
