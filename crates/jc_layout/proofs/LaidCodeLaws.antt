-- The code of a layout is that of the twin.
use Rattle.std.proofs.Common.{◌≡◌, ℕ, zero, suc, ◌+◌, Bool, true, false, List, [], ◌∷◌, ◌++◌, map, length, Option, Some, None, refl, sym, ap, ap₂}
use Rattle.std.specs.List.{AllByRecursion}
use Rattle.jc_bytes.specs.PlainLists.{pieces}
use Rattle.jc_bytes.proofs.EachLaws.{all_both}
use Rattle.jc_methods.specs.Flow.{flow_of, jump_target}
use Rattle.jc_methods.specs.Insn.{with_places}
use Rattle.jc_methods.specs.WellMade.{IsCode}
use Rattle.jc_methods.specs.declared.insn.Insn.{Insn}
use Rattle.jc_methods.specs.declared.insn.Flow.{Flow}
use Rattle.jc_methods.specs.declared.insn.Flow.TheVariants as flows
use Rattle.jc_methods.specs.declared.body.Body.{Body}
use Rattle.jc_methods.specs.declared.insn.Insn.TheVariants as insns
use Rattle.jc_methods.specs.declared.probe_members.Fetch.{Fetch}
use Rattle.jc_methods.specs.declared.probe_members.Fetch.TheVariants as fetches
use Rattle.jc_methods.specs.Opcode as opcode
use Rattle.jc_methods.specs.Widened.{inverted, listed}
use Rattle.jc_plan.specs.declared.branch.Branch.{Branch}
use Rattle.jc_plan.specs.Probed.{probe_of}
use Rattle.jc_plan.specs.Plan.{lead_probe}
use Rattle.jc_emit.specs.Marks.{TwinPlaces, invokestatic, astore, push_by}
use Rattle.jc_emit.specs.Sizes.{TwinForm, narrow, is_wide, insn_at, early_probe, late_probe, arms_at}
use Rattle.jc_emit.specs.TwinCode.{to_of}
use Rattle.jc_emit.specs.Items.{Item, start, probe_id, insn_of, prelude, lead_part, early_part, hop_part, arm_parts, test_part, lead_of, land_of, image_of, tests_part, image_part, segment, twin_items}
use Rattle.jc_emit.specs.Local.{IsBehind}
use Rattle.jc_emit.proofs.WidenedPartsLaws.{widened_is}
use Rattle.jc_layout.specs.LaidBody.{with_prelude, laid_form}
use Rattle.jc_layout.specs.Layout.{laid_code}

-- ---- behind the prelude no instruction names what the prelude does

same_insn : (c d : TwinPlaces) → c.integer ≡ d.integer → (v : ℕ) (x : Item) → IsBehind x → insn_of c v x ≡ insn_of d v x
same_insn c d e v (start fetch k) h = absurd h
same_insn c d e v (probe_id id at late) h = ap (λ (integer : ℕ → ℕ). push_by integer id) e
same_insn c d e v x h = refl

same_insns : (c d : TwinPlaces) → c.integer ≡ d.integer → (v : ℕ) (items : List Item) → AllByRecursion IsBehind items
    → map (insn_of c v) items ≡ map (insn_of d v) items
same_insns c d e v [] h = refl
same_insns c d e v (x ∷ items) h = ap₂ (λ y l. y ∷ l) (same_insn c d e v x h.0) (same_insns c d e v items h.1)

abbrev AllBehind : List Item → Type 0
AllBehind items = AllByRecursion IsBehind items

lead_behind : (o : Option ℕ) (i : ℕ) → AllBehind (lead_part o i)
lead_behind None i = tt
lead_behind (Some id) i = (tt, (tt, (tt, (tt, tt))))

early_behind : (o : Option ℕ) (i : ℕ) → AllBehind (early_part o i)
early_behind None i = tt
early_behind (Some id) i = (tt, (tt, (tt, (tt, tt))))

hop_behind : (land : ℕ → ℕ) (o : Option ℕ) (to : ℕ) → AllBehind (hop_part land o to)
hop_behind land None to = tt
hop_behind land (Some id) to = (tt, (tt, (tt, (tt, (tt, tt)))))

arms_behind : (land : ℕ → ℕ) (ids : Branch → Option ℕ) (xs : List Branch) → AllBehind (arm_parts land ids xs)
arms_behind land ids [] = tt
arms_behind land ids (x ∷ xs) =
    all_both IsBehind (hop_part land (ids x) (to_of x)) (arm_parts land ids xs) (hop_behind land (ids x) (to_of x)) (arms_behind land ids xs)

test_behind : (wide : Bool) (q : ℕ) (insn : Insn) (i on : ℕ) (due : Option ℕ) → AllBehind (test_part wide q insn i on due)
test_behind false q insn i on due = (tt, tt)
test_behind true q insn i on due = (tt, (tt, tt))

module _ (b : Body) (first : ℕ) (form : TwinForm) where
  abbrev land : ℕ → ℕ
  land i = land_of b first form i

  abbrev old : ℕ → Insn
  old i = insn_at b.code i

  tests_behind : (i : ℕ) (insn : Insn) (o : Option ℕ) → AllBehind (tests_part b first form i insn o)
  tests_behind i insn None = test_behind (is_wide form i) (image_of b first form i) (with_places (land_of b first form) insn) i (jump_target insn) None
  tests_behind i insn (Some id) =
      all_both IsBehind (test_part (is_wide form i) (image_of b first form i) (inverted (lead_of b first form (i + 1)) insn) i (i + 1) (lead_probe b first (i + 1)))
      (hop_part (land_of b first form) (Some id) (jump_target insn))
      (test_behind (is_wide form i) (image_of b first form i) (inverted (lead_of b first form (i + 1)) insn) i (i + 1) (lead_probe b first (i + 1)))
      (hop_behind (land_of b first form) (Some id) (jump_target insn))

  main_behind : (i : ℕ) (flow : Flow) → AllBehind (image_part b first form i (old i) flow)
  main_behind i flows.GoesOn = (tt, tt)
  main_behind i flows.Branches = tests_behind i (old i) (late_probe b first i)
  main_behind i flows.Jumps = (tt, tt)
  main_behind i flows.Switches = (tt, arms_behind (land_of b first form) (probe_of b first) (arms_at b.code i))
  main_behind i flows.Returns = (tt, tt)
  main_behind i flows.Throws = (tt, tt)

  segment_behind : (i : ℕ) → AllBehind (segment b first form i)
  segment_behind i =
      all_both IsBehind (lead_part (lead_probe b first i) i) (early_part (early_probe b first i) i ++ image_part b first form i (old i) (flow_of (old i)))
      (lead_behind (lead_probe b first i) i)
      (all_both IsBehind (early_part (early_probe b first i) i) (image_part b first form i (old i) (flow_of (old i)))
      (early_behind (early_probe b first i) i) (main_behind i (flow_of (old i))))

  pieces_behind : (n : ℕ) → AllBehind (pieces (segment b first form) n)
  pieces_behind zero = tt
  pieces_behind (suc n) = all_both IsBehind (pieces (segment b first form) n) (segment b first form n) (pieces_behind n) (segment_behind n)

  -- ---- the code

  abbrev behind : List Item
  behind = pieces (segment b first form) (length b.code)

  -- the code behind the prelude
  abbrev body_of : TwinPlaces → List Insn
  body_of p = map (insn_of p b.arg_slots) behind

  -- the code behind the call, or behind the cast of the constant
  abbrev pub rest_of : TwinPlaces → List Insn
  rest_of p = astore b.arg_slots ∷ map (insn_of p b.arg_slots) (pieces (segment b first form) (length b.code))

  pub begins_so : form.fetch ≡ fetches.Member → (p : TwinPlaces) → map (insn_of p b.arg_slots) (twin_items b first form) ≡ invokestatic p.giver ∷ rest_of p
  unfolding twin_items
  begins_so is p = ap (λ (fetch : Fetch). map (insn_of p b.arg_slots) (prelude fetch ++ behind)) is

  pub begins_by_constant : form.fetch ≡ fetches.Constant → (p : TwinPlaces)
      → map (insn_of p b.arg_slots) (twin_items b first form) ≡ insns.Constant p.giver ∷ insns.OfClass opcode.checkcast p.array ∷ rest_of p
  unfolding twin_items
  begins_by_constant is p = ap (λ (fetch : Fetch). map (insn_of p b.arg_slots) (prelude fetch ++ behind)) is

  same_body : (p q : TwinPlaces) → p.integer ≡ q.integer → body_of q ≡ body_of p
  same_body p q e = same_insns q p (sym e) b.arg_slots behind (pieces_behind (length b.code))

  pub called : (p q : TwinPlaces) → p.integer ≡ q.integer
      → with_prelude form.fetch p (map (insn_of q b.arg_slots) (twin_items b first form)) ≡ map (insn_of p b.arg_slots) (twin_items b first form)
  unfolding twin_items
  called p q e = by form.fetch
    where
      by : (fetch : Fetch) → with_prelude fetch p (map (insn_of q b.arg_slots) (prelude fetch ++ behind)) ≡ map (insn_of p b.arg_slots) (prelude fetch ++ behind)
      by fetches.Member = ap (λ (l : List Insn). invokestatic p.giver ∷ astore b.arg_slots ∷ l) (same_body p q e)
      by fetches.Constant =
          ap (λ (l : List Insn). insns.Constant p.giver ∷ insns.OfClass opcode.checkcast p.array ∷ astore b.arg_slots ∷ l) (same_body p q e)

-- the emitted code, where these jumps are wide
pub laid_is : (b : Body) (first : ℕ) (fetch : Fetch) (p : TwinPlaces) (wide : List Bool) → IsCode b.code
    → laid_code wide (map (insn_of p b.arg_slots) (twin_items b first (narrow fetch))) ≡ map (insn_of p b.arg_slots) (twin_items b first (laid_form b first fetch wide))
laid_is b first fetch p wide is_code = widened_is b first fetch (listed wide) p is_code
