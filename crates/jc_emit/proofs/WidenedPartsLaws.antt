-- The wide form of the narrow code is the code in which the same jumps are wide.
use Rattle.std.proofs.Common.{◌≡◌, inl, inr, ℕ, zero, suc, ◌+◌, ◌-◌, ◌<◌, ◌≤◌, Bool, true, false, List, [], ◌∷◌, ◌++◌, map, length, Option, Some, None, refl, sym, ap, ap₂, ◌∙◌, subst, arith, zero-add, append_assoc, append-nil}
use Rattle.jc_bytes.specs.PlainLists.{pieces}
use Rattle.jc_methods.specs.Flow.{flow_of, jump_target}
use Rattle.jc_methods.specs.Insn.{with_places}
use Rattle.jc_methods.specs.WellMade.{IsCode}
use Rattle.jc_methods.specs.declared.insn.Insn.{Insn}
use Rattle.jc_methods.specs.declared.insn.Flow.{Flow}
use Rattle.jc_methods.specs.declared.body.Body.{Body}
use Rattle.jc_methods.specs.declared.probe_members.Fetch.{Fetch}
use Rattle.jc_methods.specs.declared.probe_members.Fetch.TheVariants as fetches
use Rattle.jc_plan.specs.declared.branch.Branch.{Branch}
use Rattle.jc_plan.specs.Probed.{probe_of}
use Rattle.jc_plan.specs.Plan.{lead_probe}
use Rattle.jc_kinds_after.specs.Shift.{with_slot}
use Rattle.jc_emit.proofs.PlacedLaws.{flow_push_by, places_push_by, flow_shifted, places_on, places_out}
use Rattle.jc_emit.specs.Sizes.{TwinForm, narrow, insn_at, early_probe, late_probe, arms_at}
use Rattle.jc_emit.specs.Marks.{TwinPlaces, aload, iconst_1, bastore, push_by}
use Rattle.jc_methods.specs.Widened.{WideSet, goto, inverted, widths_by, wide_place, widened_by, widened_from, widened}
use Rattle.jc_emit.specs.TwinCode.{to_of, arm_place}
use Rattle.jc_emit.specs.Items.{Item, insn_of, prelude, probe, lead_part, early_part, hop_part, arm_parts, test_part, lead_of, land_of, image_of, tests_part, image_part, segment, twin_items}
use Rattle.jc_emit.specs.Emission.{form_by}
use Rattle.jc_emit.specs.Told.{twin_code}
use Rattle.jc_emit.proofs.LocalLaws.{test_is, placed_target, inverted_target}
use Rattle.jc_methods.specs.declared.insn.Insn.TheVariants as insns
use Rattle.jc_methods.specs.declared.insn.Flow.TheVariants as flows
use Rattle.jc_methods.proofs.PlacedInsnLaws.{flow_placed, places_twice}
use Rattle.jc_emit.proofs.WidenedLaws.{code_both, inverse_flow, number, lead_width, early_width, built_number, built_width, lead_is, land_is, lands_are, arm_is, widened_plain, widened_both, widths}

module _ (b : Body) (first : ℕ) (fetch : Fetch) (wide : WideSet) (named : TwinPlaces) (is_code : IsCode b.code) where
  abbrev n : ℕ
  n = length b.code

  abbrev code_of : List Item → List Insn
  code_of items = map (insn_of named b.arg_slots) items

  abbrev old : ℕ → Insn
  old i = insn_at b.code i

  -- how many places the code of these items takes
  abbrev width : ℕ → List Item → ℕ
  width m items = widths wide m (code_of items)

  abbrev narrow_form : TwinForm
  narrow_form = narrow fetch

  abbrev wide_form : TwinForm
  wide_form = form_by b first fetch wide

  abbrev lead_n : ℕ → ℕ
  lead_n i = lead_of b first narrow_form i

  abbrev lead_w : ℕ → ℕ
  lead_w i = lead_of b first wide_form i

  abbrev image_n : ℕ → ℕ
  image_n i = image_of b first narrow_form i

  abbrev image_w : ℕ → ℕ
  image_w i = image_of b first wide_form i

  -- whether the image of i is a wide jump
  abbrev wide_at : ℕ → Bool
  wide_at i = wide (image_n i)

  abbrev main_n : ℕ → Flow → List Item
  main_n i flow = image_part b first narrow_form i (old i) flow

  abbrev main_w : ℕ → Flow → List Item
  main_w i flow = image_part b first wide_form i (old i) flow

  abbrev seg_n : ℕ → List Item
  seg_n i = segment b first narrow_form i

  abbrev seg_w : ℕ → List Item
  seg_w i = segment b first wide_form i

  abbrev hop_n : Option ℕ → ℕ → List Item
  hop_n o to = hop_part (land_of b first narrow_form) o to

  abbrev hop_w : Option ℕ → ℕ → List Item
  hop_w o to = hop_part (land_of b first wide_form) o to

  abbrev arms_n : List Branch → List Item
  arms_n xs = arm_parts (land_of b first narrow_form) (probe_of b first) xs

  abbrev arms_w : List Branch → List Item
  arms_w xs = arm_parts (land_of b first wide_form) (probe_of b first) xs

  -- where the switch at i leads for each target
  abbrev arm_n : ℕ → ℕ → ℕ
  arm_n i = arm_place (probe_of b first) (land_of b first narrow_form) (image_n i + 1) (arms_at b.code i)

  abbrev arm_w : ℕ → ℕ → ℕ
  arm_w i = arm_place (probe_of b first) (land_of b first wide_form) (image_w i + 1) (arms_at b.code i)

  -- the probes in front of an image
  abbrev lead_items : ℕ → List Item
  lead_items i = lead_part (lead_probe b first i) i

  abbrev early_items : ℕ → List Item
  early_items i = early_part (early_probe b first i) i

  abbrev built : ℕ → List Item
  built k = prelude fetch ++ pieces seg_n k

  abbrev W : ℕ → ℕ
  W q = wide_place wide (code_of (built n)) q

  -- ---- each part

  -- the wide form of the code of these items, the first of which has the number b first fetch wide named is_code m and stands at r
  abbrev form_from : (m r : ℕ) → List Item → List Insn
  form_from m r items = widened_from W wide m r (code_of items)

  form_both : (m r : ℕ) (xs ys : List Item) → form_from m r (xs ++ ys) ≡ form_from m r xs ++ form_from (m + length (code_of xs)) (r + width m xs) ys
  form_both m r xs ys = ap (widened_from W wide m r) (code_both b first fetch wide named is_code xs ys) ∙ widened_both wide W m r (code_of xs) (code_of ys)

  not_tests_on : flows.GoesOn ≡ flows.Branches → ⊥
  not_tests_on e = cc

  push_widened : (r id : ℕ) (w : Bool)
      → widened_by W r (push_by named.integer id) (flow_of (push_by named.integer id)) w ≡ push_by named.integer id ∷ []
  push_widened r id w =
      widened_plain W r (push_by named.integer id) flows.GoesOn w (flow_push_by named.integer id) not_tests_on
      ∙ ap (λ x. x ∷ []) (places_push_by W named.integer id)

  prelude_widened : (f : Fetch) → form_from 0 0 (prelude f) ≡ code_of (prelude f)
  prelude_widened fetches.Member = refl
  prelude_widened fetches.Constant = refl

  probe_widened : (m r id at : ℕ) (late : Bool) → form_from m r (probe id at late) ≡ code_of (probe id at late)
  probe_widened m r id at late = ap (λ l. aload b.arg_slots ∷ (l ++ iconst_1 ∷ bastore ∷ [])) (push_widened (r + 1) id (wide (suc m)))

  hop_widened : (m r to : ℕ) (o : Option ℕ) → form_from m r (hop_n o to) ≡ code_of (hop_w o to)
  hop_widened m r to None = refl
  hop_widened m r to (Some id) =
      ap₂ (λ l t. aload b.arg_slots ∷ (l ++ iconst_1 ∷ bastore ∷ goto t ∷ [])) (push_widened (r + 1) id (wide (suc m))) (land_is b first fetch wide named is_code to)

  arms_widened : (m r : ℕ) (xs : List Branch) → form_from m r (arms_n xs) ≡ code_of (arms_w xs)
  arms_widened m r [] = refl
  arms_widened m r (x ∷ xs) =
      let front = hop_n (probe_of b first x) (to_of x) in
      form_both m r front (arms_n xs)
      ∙ ap₂ (λ a c. a ++ c) (hop_widened m r (to_of x) (probe_of b first x)) (arms_widened (m + length (code_of front)) (r + width m front) xs)
      ∙ sym (code_both b first fetch wide named is_code (hop_w (probe_of b first x) (to_of x)) (arms_w xs))

  lead_widened : (m r i : ℕ) (o : Option ℕ) → form_from m r (lead_part o i) ≡ code_of (lead_part o i)
  lead_widened m r i None = refl
  lead_widened m r i (Some id) = probe_widened m r id i true

  early_widened : (m r i : ℕ) (o : Option ℕ) → form_from m r (early_part o i) ≡ code_of (early_part o i)
  early_widened m r i None = refl
  early_widened m r i (Some id) = probe_widened m r id i false

  -- ---- conditional jumps

  -- the second one is the first one with the places of the wide form
  record IsPlaced (x y : Insn) : Type 0 where
    placed : with_places W x ≡ y
    inverse : (t : ℕ) → inverted t x ≡ inverted t y
    target : W (jump_target x) ≡ jump_target y

  test_placed : (x : Insn) → flow_of x ≡ flows.Branches → IsPlaced (with_places (land_of b first narrow_form) x) (with_places (land_of b first wide_form) x)
  test_placed x e = record {
    placed = places_twice W (land_of b first narrow_form) x ∙ ap (λ f. with_places f x) (lands_are b first fetch wide named is_code);
    inverse = λ t.
        let j = test_is x e in
        subst (λ y. inverted t (with_places (land_of b first narrow_form) y) ≡ inverted t (with_places (land_of b first wide_form) y)) (sym j.is) refl;
    target =
        ap W (placed_target x (land_of b first narrow_form) e)
        ∙ land_is b first fetch wide named is_code (jump_target x)
        ∙ sym (placed_target x (land_of b first wide_form) e);
  }

  inverse_placed : (x : Insn) (i : ℕ) → flow_of x ≡ flows.Branches → IsPlaced (inverted (lead_n i) x) (inverted (lead_w i) x)
  inverse_placed x i e =
      let j = test_is x e in
      record {
        placed = subst (λ y. with_places W (inverted (lead_n i) y) ≡ inverted (lead_w i) y) (sym j.is) (ap (λ t. inverted t (insns.Jump j.op j.to)) (lead_is b first fetch wide named is_code i));
        inverse = λ t. subst (λ y. inverted t (inverted (lead_n i) y) ≡ inverted t (inverted (lead_w i) y)) (sym j.is) refl;
        target = ap W (inverted_target x (lead_n i) e) ∙ lead_is b first fetch wide named is_code i ∙ sym (inverted_target x (lead_w i) e);
      }

  one_widened : (x y : Insn) (r i on : ℕ) (due : Option ℕ) (w : Bool) → IsPlaced x y
      → widened_by W r x flows.Branches w ≡ code_of (test_part w r y i on due)
  one_widened x y r i on due true p = ap₂ (λ a t. a ∷ goto t ∷ []) (p.inverse (r + 2)) p.target
  one_widened x y r i on due false p = ap (λ a. a ∷ []) p.placed

  tests_widened : (i : ℕ) → i < n → flow_of (old i) ≡ flows.Branches → (o : Option ℕ)
      → form_from (image_n i) (image_w i) (tests_part b first narrow_form i (old i) o) ≡ code_of (tests_part b first wide_form i (old i) o)
  tests_widened i lt e None =
      let x = with_places (land_of b first narrow_form) (old i) in
      let y = with_places (land_of b first wide_form) (old i) in
      ap (λ f. widened_by W (image_w i) x f (wide_at i) ++ []) (flow_placed (land_of b first narrow_form) (old i) ∙ e)
      ∙ append-nil (widened_by W (image_w i) x flows.Branches (wide_at i))
      ∙ one_widened x y (image_w i) i (jump_target (old i)) None (wide_at i) (test_placed (old i) e)
  tests_widened i lt e (Some id) =
      let x = inverted (lead_n (i + 1)) (old i) in
      let y = inverted (lead_w (i + 1)) (old i) in
      let rest = hop_n (Some id) (jump_target (old i)) in
      ap (λ f. widened_by W (image_w i) x f (wide_at i) ++ form_from (suc (image_n i)) (image_w i + widths_by f (wide_at i)) rest)
      (inverse_flow b first fetch wide named is_code i (lead_n (i + 1)) lt e)
      ∙ ap₂ (λ a c. a ++ c)
      (one_widened x y (image_w i) i (i + 1) (lead_probe b first (i + 1)) (wide_at i) (inverse_placed (old i) (i + 1) e))
      (hop_widened (suc (image_n i)) (image_w i + widths_by flows.Branches (wide_at i)) (jump_target (old i)) (Some id))
      ∙ sym (code_both b first fetch wide named is_code (test_part (wide_at i) (image_w i) y i (i + 1) (lead_probe b first (i + 1))) (hop_w (Some id) (jump_target (old i))))

  -- ---- what belongs to an instruction

  jumps_apart : flows.Jumps ≡ flows.Branches → ⊥
  jumps_apart e = cc

  switches_apart : flows.Switches ≡ flows.Branches → ⊥
  switches_apart e = cc

  returns_apart : flows.Returns ≡ flows.Branches → ⊥
  returns_apart e = cc

  throws_apart : flows.Throws ≡ flows.Branches → ⊥
  throws_apart e = cc

  arms_are : (i : ℕ) → i < n → flow_of (old i) ≡ flows.Switches → (λ to. W (arm_n i to)) ≡ arm_w i
  arms_are i lt e = λ k to. arm_is b first fetch wide named is_code i lt e to k

  main_widened : (i : ℕ) (flow : Flow) → i < n → flow_of (old i) ≡ flow → form_from (image_n i) (image_w i) (main_n i flow) ≡ code_of (main_w i flow)
  main_widened i flows.GoesOn lt e =
      let x = with_slot b.arg_slots (old i) in
      let on = flow_shifted b.arg_slots (old i) ∙ e in
      ap (λ l. l ++ []) (widened_plain W (image_w i) x flows.GoesOn (wide_at i) on not_tests_on) ∙ ap (λ y. y ∷ []) (places_on W x on)
  main_widened i flows.Branches lt e = tests_widened i lt e (late_probe b first i)
  main_widened i flows.Jumps lt e =
      let x = with_places (land_of b first narrow_form) (old i) in
      ap (λ l. l ++ []) (widened_plain W (image_w i) x flows.Jumps (wide_at i) (flow_placed (land_of b first narrow_form) (old i) ∙ e) jumps_apart)
      ∙ ap (λ y. y ∷ []) (places_twice W (land_of b first narrow_form) (old i) ∙ ap (λ f. with_places f (old i)) (lands_are b first fetch wide named is_code))
  main_widened i flows.Switches lt e =
      let arms = arms_at b.code i in
      let x = with_places (arm_n i) (old i) in
      ap₂ (λ l c. l ++ c)
      (widened_plain W (image_w i) x flows.Switches (wide_at i) (flow_placed (arm_n i) (old i) ∙ e) switches_apart
      ∙ ap (λ y. y ∷ []) (places_twice W (arm_n i) (old i) ∙ ap (λ f. with_places f (old i)) (arms_are i lt e)))
      (arms_widened (suc (image_n i)) (image_w i + widths_by (flow_of x) (wide_at i)) arms)
  main_widened i flows.Returns lt e =
      ap (λ l. l ++ []) (widened_plain W (image_w i) (old i) flows.Returns (wide_at i) e returns_apart)
      ∙ ap (λ y. y ∷ []) (places_out W (old i) (inl e))
  main_widened i flows.Throws lt e =
      ap (λ l. l ++ []) (widened_plain W (image_w i) (old i) flows.Throws (wide_at i) e throws_apart)
      ∙ ap (λ y. y ∷ []) (places_out W (old i) (inr e))

  segment_widened : (i : ℕ) → i < n → form_from (lead_n i) (lead_w i) (seg_n i) ≡ code_of (seg_w i)
  segment_widened i lt =
      let a = lead_items i in
      let c = early_items i in
      let d = main_n i (flow_of (old i)) in
      let d' = main_w i (flow_of (old i)) in
      let behind = lead_n i + length (code_of a) in
      let after = lead_w i + width (lead_n i) a in
      let place : after + width behind c ≡ image_w i = omega (arith, lead_width b first fetch wide named is_code (lead_n i) i, early_width b first fetch wide named is_code behind i) in
      form_both (lead_n i) (lead_w i) a (c ++ d)
      ∙ ap₂ (λ x y. x ++ y) (lead_widened (lead_n i) (lead_w i) i (lead_probe b first i))
      (form_both behind after c d
      ∙ ap₂ (λ x y. x ++ y) (early_widened behind after i (early_probe b first i))
      (ap₂ (λ m q. form_from m q d) (number b first fetch wide named is_code i) place ∙ main_widened i (flow_of (old i)) lt refl))
      ∙ sym (code_both b first fetch wide named is_code a (c ++ d') ∙ ap (λ l. code_of a ++ l) (code_both b first fetch wide named is_code c d'))

  built_widened : (k : ℕ) → k ≤ n → form_from 0 0 (built k) ≡ code_of (prelude fetch ++ pieces seg_w k)
  built_widened zero le =
      ap (form_from 0 0) (append-nil (prelude fetch)) ∙ prelude_widened fetch ∙ ap code_of (sym (append-nil (prelude fetch)))
  built_widened (suc k) le =
      ap (form_from 0 0) (sym (append_assoc (prelude fetch) (pieces seg_n k) (seg_n k)))
      ∙ form_both 0 0 (built k) (seg_n k)
      ∙ ap₂ (λ x y. x ++ y) (built_widened k (omega (arith, le)))
      (ap₂ (λ m q. form_from m q (seg_n k)) (built_number b first fetch wide named is_code k)
      (zero-add (width 0 (built k)) ∙ built_width b first fetch wide named is_code k (omega (arith, le)))
      ∙ segment_widened k (omega (arith, le)))
      ∙ sym (code_both b first fetch wide named is_code (prelude fetch ++ pieces seg_w k) (seg_w k))
      ∙ ap code_of (append_assoc (prelude fetch) (pieces seg_w k) (seg_w k))

pub widened_is : (b : Body) (first : ℕ) (fetch : Fetch) (wide : WideSet) (named : TwinPlaces) → IsCode b.code
    → widened wide (twin_code b first (narrow fetch) named) ≡ twin_code b first (form_by b first fetch wide) named
unfolding twin_items widened
widened_is b first fetch wide named is_code = built_widened b first fetch wide named is_code (length b.code) (omega arith)
