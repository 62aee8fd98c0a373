-- The twin that the function gives is as the sentences say.
use Rattle.std.proofs.Common.{◌≡◌, ℕ, ◌+◌, ◌<◌, Bool, true, false, List, [], ◌∷◌, ◌++◌, map, length, Option, Some, None, sym, ap, ◌∙◌, subst, arith, add-one}
use Rattle.std.specs.Prelude.{slice_get, option_map}
use Rattle.std.proofs.lemmas.List.{length-map}
use Rattle.std.proofs.lemmas.Option.{slice_get-map}
use Rattle.jc_bytes.specs.PlainLists.{total}
use Rattle.jc_methods.specs.Flow.{flow_of, jump_target}
use Rattle.jc_methods.specs.Insn.{with_places}
use Rattle.jc_methods.specs.declared.insn.Insn.{Insn}
use Rattle.jc_methods.specs.declared.insn.Flow.{Flow}
use Rattle.jc_methods.specs.declared.body.Body.{Body}
use Rattle.jc_plan.specs.declared.branch.Branch.{Branch}
use Rattle.jc_plan.specs.Probed.{probe_of}
use Rattle.jc_plan.specs.Plan.{lead_probe}
use Rattle.jc_methods.specs.declared.probe_members.Fetch.{Fetch}
use Rattle.jc_methods.specs.declared.probe_members.Fetch.TheVariants as fetches
use Rattle.jc_emit.specs.Sizes.{TwinForm, is_wide, insn_at, early_probe, late_probe, arms_at, hop_size, wide_by, wide_size}
use Rattle.jc_emit.specs.Marks.{TwinPlaces, Marks, HasInsn, IsProbe, iconst_1, bastore, prelude_insns, prelude_size}
use Rattle.jc_methods.specs.Widened.{goto, inverted}
use Rattle.jc_emit.specs.TwinCode.{to_of, Prelude, HasPrelude, Images, Places, Jumps, Switches, Lengths, HasTest, HasProbe, HasHop, HasArm, HasArms}
use Rattle.jc_emit.specs.Items.{Item, marks_of_items, prelude, image, hop, insn_of, at_of, own_of, extra_of, probe, lead_part, early_part, hop_part, arm_parts, test_part, segment_size, lead_of, land_of, image_of, tests_part, image_part, twin_items, probe_array, probe_id, probe_one, probe_store, start}
use Rattle.jc_emit.proofs.PiecesLaws.{HasAt, has_front, has_back}
use Rattle.jc_emit.proofs.ImagesLaws.{trues_counted}
use Rattle.jc_emit.proofs.BuiltLaws.{length-lead, length-early, length-hop, length-test, own_twin, segment_at, prelude_at}
use Rattle.jc_methods.specs.declared.insn.Flow.TheVariants as flows

pub mapped : {B : Type 0} (f : Item → B) (items : List Item) (q : ℕ) (x : Item) → slice_get items q ≡ Some x
    → slice_get (map f items) q ≡ Some (f x)
mapped f items q x h = slice_get-map f items q ∙ ap (option_map f) h

pub item_stands : (named : TwinPlaces) (v : ℕ) (items : List Item) (q : ℕ) (x : Item) → slice_get items q ≡ Some x
    → HasInsn (map (insn_of named v) items) (marks_of_items items) q (insn_of named v x) (at_of x) (own_of x) (extra_of x)
item_stands named v items q x h = record {
  insn_is = mapped (insn_of named v) items q x h;
  at_is = mapped at_of items q x h;
  own_is = mapped own_of items q x h;
  extra_is = mapped extra_of items q x h;
}

module _ (b : Body) (first : ℕ) (form : TwinForm) (named : TwinPlaces) where
  abbrev items : List Item
  items = twin_items b first form

  abbrev code : List Insn
  code = map (insn_of named b.arg_slots) items

  abbrev m : Marks
  m = marks_of_items items

  abbrev image_at : ℕ → ℕ
  image_at i = image_of b first form i

  abbrev land : ℕ → ℕ
  land i = land_of b first form i

  abbrev lead : ℕ → ℕ
  lead i = lead_of b first form i

  abbrev old : ℕ → Insn
  old i = insn_at b.code i

  stands : (q : ℕ) (x : Item) → slice_get items q ≡ Some x → HasInsn code m q (insn_of named b.arg_slots x) (at_of x) (own_of x) (extra_of x)
  stands q x h = item_stands named b.arg_slots items q x h

  probe_stands : (q id at : ℕ) (late : Bool) → HasAt items q (probe id at late) → IsProbe code m named.integer b.arg_slots q id at
  probe_stands q id at late h =
      let two : q + 1 + 1 ≡ q + 2 = omega arith in
      let three : q + 1 + 1 + 1 ≡ q + 3 = omega arith in
      record {
        array = stands q (probe_array id at late) h.0;
        number = stands (q + 1) (probe_id id at late) h.1.0;
        one = subst (λ k. HasInsn code m k iconst_1 at false 2) two (stands (q + 1 + 1) (probe_one id at late) h.1.1.0);
        store = subst (λ k. HasInsn code m k bastore at false 3) three (stands (q + 1 + 1 + 1) (probe_store id at late) h.1.1.1.0);
      }

  -- ---- the parts of what belongs to an instruction

  pub lead_at : (i : ℕ) → i < length b.code → HasAt items (lead i) (lead_part (lead_probe b first i) i)
  lead_at i lt = has_front items (lead i) (lead_part (lead_probe b first i) i) _ (segment_at b first form i lt)

  pub rest_at : (i : ℕ) → i < length b.code
      → HasAt items (land i) (early_part (early_probe b first i) i ++ image_part b first form i (old i) (flow_of (old i)))
  rest_at i lt =
      subst (λ k. HasAt items (lead i + k) (early_part (early_probe b first i) i ++ image_part b first form i (old i) (flow_of (old i)))) (length-lead (lead_probe b first i) i)
      (has_back items (lead i) (lead_part (lead_probe b first i) i) _ (segment_at b first form i lt))

  pub early_at : (i : ℕ) → i < length b.code → HasAt items (land i) (early_part (early_probe b first i) i)
  early_at i lt = has_front items (land i) (early_part (early_probe b first i) i) _ (rest_at i lt)

  pub main_at : (i : ℕ) → i < length b.code → HasAt items (image_at i) (image_part b first form i (old i) (flow_of (old i)))
  main_at i lt =
      subst (λ k. HasAt items (land i + k) (image_part b first form i (old i) (flow_of (old i)))) (length-early (early_probe b first i) i)
      (has_back items (land i) (early_part (early_probe b first i) i) _ (rest_at i lt))

  pub main_by : (i : ℕ) (flow : Flow) → i < length b.code → flow_of (old i) ≡ flow
      → HasAt items (image_at i) (image_part b first form i (old i) flow)
  main_by i flow lt e = subst (λ f. HasAt items (image_at i) (image_part b first form i (old i) f)) e (main_at i lt)

  -- ---- conditional jumps

  test_stands : (w : Bool) (i : ℕ) (insn : Insn) (on : ℕ) (due : Option ℕ)
      → HasAt items (image_at i) (test_part w (image_at i) insn i on due)
      → HasTest b first form named code m image_at land lead w i insn on
  test_stands false i insn on due h = stands (image_at i) (image insn i None) h.0
  test_stands true i insn on due h =
      (stands (image_at i) (image (inverted (image_at i + 2) insn) i None) h.0, stands (image_at i + 1) (hop (jump_target insn) on due) h.1.0)

  pub plain_test : (i : ℕ) → i < length b.code → flow_of (old i) ≡ flows.Branches → late_probe b first i ≡ None
      → HasAt items (image_at i) (test_part (is_wide form i) (image_at i) (with_places land (old i)) i (jump_target (old i)) None)
  plain_test i lt e none = subst (λ o. HasAt items (image_at i) (tests_part b first form i (old i) o)) none (main_by i flows.Branches lt e)

  abbrev inverse_part : ℕ → List Item
  inverse_part i = test_part (is_wide form i) (image_at i) (inverted (lead (i + 1)) (old i)) i (i + 1) (lead_probe b first (i + 1))

  pub probed_test : (i id : ℕ) → i < length b.code → flow_of (old i) ≡ flows.Branches → late_probe b first i ≡ Some id
      → HasAt items (image_at i) (inverse_part i ++ hop_part land (Some id) (jump_target (old i)))
  probed_test i id lt e some =
      subst (λ o. HasAt items (image_at i) (tests_part b first form i (old i) o)) some (main_by i flows.Branches lt e)

  pub hop_at : (i id : ℕ) → i < length b.code → flow_of (old i) ≡ flows.Branches → late_probe b first i ≡ Some id
      → HasAt items (image_at i + 1 + wide_size b form i) (hop_part land (Some id) (jump_target (old i)))
  hop_at i id lt e some =
      let long = length-test (is_wide form i) (image_at i) (inverted (lead (i + 1)) (old i)) i (i + 1) (lead_probe b first (i + 1)) in
      let same : wide_size b form i ≡ wide_by flows.Branches (is_wide form i) = ap (λ f. wide_by f (is_wide form i)) e in
      let place : image_at i + length (inverse_part i) ≡ image_at i + 1 + wide_size b form i = omega (arith, long, same) in
      subst (λ k. HasAt items k (hop_part land (Some id) (jump_target (old i)))) place
      (has_back items (image_at i) (inverse_part i) _ (probed_test i id lt e some))

  -- a probe and a goto behind it
  hop_stands : (q id to : ℕ) → HasAt items q (hop_part land (Some id) to)
      → HasProbe b first form named code m image_at land lead q id to × HasHop b first form named code m image_at land lead (q + 4) to
  hop_stands q id to h =
      let four : q + 1 + 1 + 1 + 1 ≡ q + 4 = omega arith in (
        probe_stands q id to true (has_front items q (probe id to true) (hop (land to) to None ∷ []) h),
        subst (λ k. HasInsn code m k (goto (land to)) to false 0) four (stands (q + 1 + 1 + 1 + 1) (hop (land to) to None) h.1.1.1.1.0),
      )

  -- ---- switches

  arm_stands : (q to : ℕ) (o : Option ℕ) → HasAt items q (hop_part land o to) → HasArm b first form named code m image_at land lead q to o
  arm_stands q to None h = tt
  arm_stands q to (Some id) h = hop_stands q id to h

  arms_stand : (q : ℕ) (xs : List Branch) → HasAt items q (arm_parts land (probe_of b first) xs)
      → HasArms b first form named code m image_at land lead q xs
  arms_stand q [] h = tt
  arms_stand q (x ∷ xs) h =
      let part = hop_part land (probe_of b first x) (to_of x) in (
        arm_stands q (to_of x) (probe_of b first x) (has_front items q part _ h),
        arms_stand (q + hop_size (probe_of b first x)) xs
            (subst (λ k. HasAt items (q + k) (arm_parts land (probe_of b first) xs)) (length-hop land (probe_of b first x) (to_of x)) (has_back items q part _ h)),
      )

  -- ---- the sentences

  pub lengths_told : Lengths b first form named code m image_at land lead
  lengths_told = record {
    at_length = length-map items at_of ∙ sym (length-map items (insn_of named b.arg_slots));
    own_length = length-map items own_of ∙ sym (length-map items (insn_of named b.arg_slots));
    extra_length = length-map items extra_of ∙ sym (length-map items (insn_of named b.arg_slots));
  }

  prelude_stands : (fetch : Fetch) → HasAt items 0 (prelude fetch)
      → HasPrelude b first form named code m image_at land lead 0 (prelude_insns fetch named b.arg_slots)
  prelude_stands fetches.Member h = (stands 0 (start fetches.Member 0) h.0, (stands 1 (start fetches.Member 1) h.1.0, tt))
  prelude_stands fetches.Constant h = (
    stands 0 (start fetches.Constant 0) h.0,
    (stands 1 (start fetches.Constant 1) h.1.0, (stands 2 (start fetches.Constant 2) h.1.1.0, tt)),
  )

  pub prelude_told : Prelude b first form named code m image_at land lead
  prelude_told = record { first_insns = prelude_stands form.fetch (prelude_at b first form) }

  pub images_told : Images b first form named code m image_at land lead
  images_told = record {
    single = trues_counted (map own_of items) ∙ own_twin b first form;
    plain = λ i f. stands (image_at i) _ (main_by i flows.GoesOn f.0 f.1).0;
    returns = λ i f. stands (image_at i) _ (main_by i flows.Returns f.0 f.1).0;
    throws = λ i f. stands (image_at i) _ (main_by i flows.Throws f.0 f.1).0;
  }

  pub places_told : Places b first form named code m image_at land lead
  places_told = record {
    early = λ i id lt e. probe_stands (land i) id i false (subst (λ o. HasAt items (land i) (early_part o i)) e (early_at i lt));
    leads = λ i id lt e. probe_stands (lead i) id i true (subst (λ o. HasAt items (lead i) (lead_part o i)) e (lead_at i lt));
    first_place = omega arith;
    next_place = λ i lt. ap (λ k. prelude_size form.fetch + total (segment_size b first form) k) (add-one i) ∙ omega arith;
  }

  pub jumps_told : Jumps b first form named code m image_at land lead
  jumps_told = record {
    gotos = λ i f. stands (image_at i) _ (main_by i flows.Jumps f.0 f.1).0;
    tests = λ i f none. test_stands (is_wide form i) i (with_places land (old i)) (jump_target (old i)) None (plain_test i f.0 f.1 none);
    inverses = λ i id f some. test_stands (is_wide form i) i (inverted (lead (i + 1)) (old i)) (i + 1) (lead_probe b first (i + 1))
        (has_front items (image_at i) (inverse_part i) _ (probed_test i id f.0 f.1 some));
    probes = λ i id f some. (hop_stands (image_at i + 1 + wide_size b form i) id (jump_target (old i)) (hop_at i id f.0 f.1 some)).0;
    hops = λ i id f some. (hop_stands (image_at i + 1 + wide_size b form i) id (jump_target (old i)) (hop_at i id f.0 f.1 some)).1;
  }

  pub switches_told : Switches b first form named code m image_at land lead
  switches_told = record {
    images = λ i f. stands (image_at i) _ (main_by i flows.Switches f.0 f.1).0;
    arms = λ i f. arms_stand (image_at i + 1) (arms_at b.code i) (main_by i flows.Switches f.0 f.1).1;
  }
