-- Where each part of the narrow code stands in its wide form.
use Rattle.std.proofs.Common.{◌≡◌, ⊎_elim, ℕ, zero, suc, ◌+◌, ◌-◌, ◌<◌, ◌≤◌, Bool, true, false, cond, nat_eq, List, [], ◌∷◌, ◌++◌, map, length, Option, Some, None, refl, sym, ap, ap₂, ◌∙◌, subst, arith, zero-add, append_assoc, append-nil, length-append}
use Rattle.std.proofs.lemmas.List.{map-append, length-map}
use Rattle.std.proofs.lemmas.Bool.{cases_lt}
use Rattle.jc_bytes.specs.PlainLists.{pieces}
use Rattle.jc_methods.specs.Flow.{flow_of, jump_target}
use Rattle.jc_methods.specs.Insn.{with_places, IsWellFormed}
use Rattle.jc_methods.specs.WellMade.{IsCode}
use Rattle.jc_methods.specs.declared.insn.Insn.{Insn}
use Rattle.jc_methods.specs.declared.insn.Flow.{Flow}
use Rattle.jc_methods.specs.declared.body.Body.{Body}
use Rattle.jc_methods.specs.declared.probe_members.Fetch.{Fetch}
use Rattle.jc_methods.specs.declared.probe_members.Fetch.TheVariants as fetches
use Rattle.jc_plan.specs.declared.branch.Branch.{Branch}
use Rattle.jc_plan.specs.Probed.{probe_of}
use Rattle.jc_plan.specs.Plan.{lead_probe}
use Rattle.jc_emit.proofs.PlacedLaws.{flow_push_by, flow_shifted}
use Rattle.jc_emit.specs.Sizes.{TwinForm, narrow, insn_at, early_probe, late_probe, arms_at, probe_size, hop_size, arm_sizes, wide_by, behind_size}
use Rattle.jc_emit.specs.Marks.{TwinPlaces}
use Rattle.jc_methods.specs.Widened.{WideSet, inverted, widths_by, wide_place_from, wide_place, widened_by, widened_from}
use Rattle.jc_emit.specs.TwinCode.{to_of, here_or, arm_place}
use Rattle.jc_emit.specs.Items.{Item, insn_of, prelude, probe, lead_part, early_part, hop_part, arm_parts, segment_size, lead_of, land_of, image_of, tests_part, image_part, segment}
use Rattle.jc_emit.specs.Emission.{form_by}
use Rattle.jc_emit.proofs.BuiltLaws.{length-lead, length-early, length-arms, length_prelude, size_is, size_tests, size_switches, sized}
use Rattle.jc_emit.proofs.PiecesLaws.{length-pieces}
use Rattle.jc_emit.proofs.EndsLaws.{lead_none, lead_past, image_past}
use Rattle.jc_emit.proofs.LocalLaws.{test_is}
use Rattle.jc_emit.proofs.InverseLaws.{inverse_tests_too}
use Rattle.jc_methods.specs.declared.insn.Insn.TheVariants as insns
use Rattle.jc_methods.specs.declared.insn.Flow.TheVariants as flows
use Rattle.jc_methods.proofs.PlacedInsnLaws.{flow_placed}

-- ---- lists

-- none of them is a conditional jump, so each takes one place
abbrev AllOne : List Insn → Type 0
AllOne [] = Unit {0}
AllOne (x ∷ xs) = (widths_by (flow_of x) true ≡ 1) × AllOne xs

ones_both : (xs ys : List Insn) → AllOne xs → AllOne ys → AllOne (xs ++ ys)
ones_both [] ys a c = c
ones_both (x ∷ xs) ys a c = (a.0, ones_both xs ys a.1 c)

one_place : (flow : Flow) (w : Bool) → widths_by flow true ≡ 1 → widths_by flow w ≡ 1
one_place flow true one = one
one_place flows.Branches false one = refl
one_place flow false one = refl

-- a conditional jump takes two places where it is wide
test_width : (w : Bool) → widths_by flows.Branches w ≡ 1 + wide_by flows.Branches w
test_width true = refl
test_width false = refl

module _ (wide : WideSet) where
  -- how many places these take, where the first of them has the number n
  abbrev pub widths : (n : ℕ) → List Insn → ℕ
  widths n [] = 0
  widths n (x ∷ xs) = widths_by (flow_of x) (wide n) + widths (suc n) xs

  widths_both : (n : ℕ) (xs ys : List Insn) → widths n (xs ++ ys) ≡ widths n xs + widths (n + length xs) ys
  widths_both n [] ys = let here : n ≡ n + 0 = omega arith in ap (λ m. widths m ys) here ∙ omega arith
  widths_both n (x ∷ xs) ys =
      let up : suc n + length xs ≡ n + length (x ∷ xs) = omega arith in
      omega (arith, widths_both (suc n) xs ys, ap (λ m. widths m ys) up)

  first_from : (n : ℕ) (code : List Insn) → wide_place_from wide n code 0 ≡ 0
  first_from n [] = refl
  first_from n (x ∷ code) = refl

  place_behind : (n : ℕ) (xs ys : List Insn) (k : ℕ)
      → wide_place_from wide n (xs ++ ys) (length xs + k) ≡ widths n xs + wide_place_from wide (n + length xs) ys k
  place_behind n [] ys k =
      let here : n ≡ n + 0 = omega arith in
      ap₂ (λ m j. wide_place_from wide m ys j) here (zero-add k) ∙ omega arith
  place_behind n (x ∷ xs) ys k =
      let e : length (x ∷ xs) + k ≡ suc (length xs + k) = omega arith in
      let up : suc n + length xs ≡ n + length (x ∷ xs) = omega arith in
      ap (wide_place_from wide n (x ∷ xs ++ ys)) e
      ∙ omega (arith, place_behind (suc n) xs ys k, ap (λ m. wide_place_from wide m ys k) up)

  place_in_front : (n : ℕ) (xs ys : List Insn) (k : ℕ) → k ≤ length xs → wide_place_from wide n (xs ++ ys) k ≡ wide_place_from wide n xs k
  place_in_front n xs ys zero le = first_from n (xs ++ ys) ∙ sym (first_from n xs)
  place_in_front n [] ys (suc k) le = absurd (omega (arith, le))
  place_in_front n (x ∷ xs) ys (suc k) le = ap (λ m. widths_by (flow_of x) (wide n) + m) (place_in_front (suc n) xs ys k (omega (arith, le)))

  pub widened_both : (P : ℕ → ℕ) (n r : ℕ) (xs ys : List Insn)
      → widened_from P wide n r (xs ++ ys) ≡ widened_from P wide n r xs ++ widened_from P wide (n + length xs) (r + widths n xs) ys
  widened_both P n r [] ys =
      let number : n ≡ n + 0 = omega arith in
      let place : r ≡ r + 0 = omega arith in
      ap₂ (λ m q. widened_from P wide m q ys) number place
  widened_both P n r (x ∷ xs) ys =
      let w = widths_by (flow_of x) (wide n) in
      let part = widened_by P r x (flow_of x) (wide n) in
      let rest = widened_from P wide (suc n) (r + w) xs in
      let number : suc n + length xs ≡ n + length (x ∷ xs) = omega arith in
      let place : r + w + widths (suc n) xs ≡ r + (w + widths (suc n) xs) = omega arith in
      ap (λ l. part ++ l) (widened_both P (suc n) (r + w) xs ys)
      ∙ sym (append_assoc part rest (widened_from P wide (suc n + length xs) (r + w + widths (suc n) xs) ys))
      ∙ ap₂ (λ m q. (part ++ rest) ++ widened_from P wide m q ys) number place

  ones_widths : (n : ℕ) (xs : List Insn) → AllOne xs → widths n xs ≡ length xs
  ones_widths n [] a = refl
  ones_widths n (x ∷ xs) a = omega (arith, one_place (flow_of x) (wide n) a.0, ones_widths (suc n) xs a.1)

  ones_place : (n : ℕ) (xs : List Insn) (k : ℕ) → AllOne xs → wide_place_from wide n xs k ≡ k
  ones_place n [] k a = refl
  ones_place n (x ∷ xs) zero a = refl
  ones_place n (x ∷ xs) (suc k) a = omega (arith, one_place (flow_of x) (wide n) a.0, ones_place (suc n) xs k a.1)

-- ---- instructions

-- an instruction that is no conditional jump, by its flow
pub widened_plain : (P : ℕ → ℕ) (r : ℕ) (insn : Insn) (flow : Flow) (w : Bool) → flow_of insn ≡ flow → (flow ≡ flows.Branches → ⊥)
    → widened_by P r insn (flow_of insn) w ≡ with_places P insn ∷ []
widened_plain P r insn flow w e apart = ap (λ f. widened_by P r insn f w) e ∙ by flow apart
  where
    by : (flow : Flow) → (flow ≡ flows.Branches → ⊥) → widened_by P r insn flow w ≡ with_places P insn ∷ []
    by flows.GoesOn h = refl
    by flows.Branches h = absurd (h refl)
    by flows.Jumps h = refl
    by flows.Switches h = refl
    by flows.Returns h = refl
    by flows.Throws h = refl

module _ (b : Body) (first : ℕ) (fetch : Fetch) (wide : WideSet) (named : TwinPlaces) (is_code : IsCode b.code) where
  abbrev n : ℕ
  n = length b.code

  abbrev code_of : List Item → List Insn
  code_of items = map (insn_of named b.arg_slots) items

  abbrev old : ℕ → Insn
  old i = insn_at b.code i

  pub code_both : (xs ys : List Item) → code_of (xs ++ ys) ≡ code_of xs ++ code_of ys
  code_both xs ys = map-append (insn_of named b.arg_slots) xs ys

  -- how many places the code of these items takes
  abbrev width : ℕ → List Item → ℕ
  width m items = widths wide m (code_of items)

  -- a place in the code of these items, in the wide form
  abbrev place_in : ℕ → List Item → ℕ → ℕ
  place_in m items k = wide_place_from wide m (code_of items) k

  -- ---- what takes one place each

  prelude_ones : (f : Fetch) → AllOne (code_of (prelude f))
  prelude_ones fetches.Member = (refl, (refl, tt))
  prelude_ones fetches.Constant = (refl, (refl, (refl, tt)))

  probe_ones : (id at : ℕ) (late : Bool) → AllOne (code_of (probe id at late))
  probe_ones id at late = (refl, (ap (λ f. widths_by f true) (flow_push_by named.integer id), (refl, (refl, tt))))

  lead_ones : (o : Option ℕ) (i : ℕ) → AllOne (code_of (lead_part o i))
  lead_ones None i = tt
  lead_ones (Some id) i = probe_ones id i true

  early_ones : (o : Option ℕ) (i : ℕ) → AllOne (code_of (early_part o i))
  early_ones None i = tt
  early_ones (Some id) i = probe_ones id i false

  hop_ones : (land : ℕ → ℕ) (o : Option ℕ) (to : ℕ) → AllOne (code_of (hop_part land o to))
  hop_ones land None to = tt
  hop_ones land (Some id) to = (refl, (ap (λ f. widths_by f true) (flow_push_by named.integer id), (refl, (refl, (refl, tt)))))

  arms_ones : (land : ℕ → ℕ) (xs : List Branch) → AllOne (code_of (arm_parts land (probe_of b first) xs))
  arms_ones land [] = tt
  arms_ones land (x ∷ xs) =
      subst AllOne (sym (code_both (hop_part land (probe_of b first x) (to_of x)) (arm_parts land (probe_of b first) xs)))
      (ones_both (code_of (hop_part land (probe_of b first x) (to_of x))) _ (hop_ones land (probe_of b first x) (to_of x)) (arms_ones land xs))

  -- ---- the two forms

  abbrev narrow_form : TwinForm
  narrow_form = narrow fetch

  abbrev wide_form : TwinForm
  wide_form = form_by b first fetch wide

  abbrev lead_n : ℕ → ℕ
  lead_n i = lead_of b first narrow_form i

  abbrev lead_w : ℕ → ℕ
  lead_w i = lead_of b first wide_form i

  abbrev land_n : ℕ → ℕ
  land_n i = land_of b first narrow_form i

  abbrev land_w : ℕ → ℕ
  land_w i = land_of b first wide_form i

  abbrev image_n : ℕ → ℕ
  image_n i = image_of b first narrow_form i

  abbrev image_w : ℕ → ℕ
  image_w i = image_of b first wide_form i

  -- whether the image of i is a wide jump
  abbrev wide_at : ℕ → Bool
  wide_at i = wide (image_n i)

  abbrev main_n : ℕ → Flow → List Item
  main_n i flow = image_part b first narrow_form i (old i) flow

  abbrev main_w : ℕ → Flow → List Item
  main_w i flow = image_part b first wide_form i (old i) flow

  abbrev seg_n : ℕ → List Item
  seg_n i = segment b first narrow_form i

  abbrev seg_w : ℕ → List Item
  seg_w i = segment b first wide_form i

  abbrev hop_n : Option ℕ → ℕ → List Item
  hop_n o to = hop_part (land_of b first narrow_form) o to

  abbrev hop_w : Option ℕ → ℕ → List Item
  hop_w o to = hop_part (land_of b first wide_form) o to

  abbrev arms_n : List Branch → List Item
  arms_n xs = arm_parts (land_of b first narrow_form) (probe_of b first) xs

  abbrev arms_w : List Branch → List Item
  arms_w xs = arm_parts (land_of b first wide_form) (probe_of b first) xs

  -- where the switch at i leads for each target
  abbrev arm_n : ℕ → ℕ → ℕ
  arm_n i = arm_place (probe_of b first) (land_of b first narrow_form) (image_n i + 1) (arms_at b.code i)

  abbrev arm_w : ℕ → ℕ → ℕ
  arm_w i = arm_place (probe_of b first) (land_of b first wide_form) (image_w i + 1) (arms_at b.code i)

  -- the probes in front of an image
  abbrev lead_items : ℕ → List Item
  lead_items i = lead_part (lead_probe b first i) i

  abbrev early_items : ℕ → List Item
  early_items i = early_part (early_probe b first i) i

  -- ---- sizes

  -- the inverse of a conditional jump is one
  pub inverse_flow : (i t : ℕ) → i < n → flow_of (old i) ≡ flows.Branches → flow_of (inverted t (old i)) ≡ flows.Branches
  inverse_flow i t lt e =
      let j = test_is (old i) e in
      let formed = subst IsWellFormed j.is (is_code.well_formed i (insns.Simple 0) lt) in
      let tests = sym (ap flow_of j.is) ∙ e in
      subst (λ x. flow_of (inverted t x) ≡ flows.Branches) (sym j.is) (inverse_tests_too j.op j.to t formed tests)

  tests_width : (i : ℕ) → i < n → flow_of (old i) ≡ flows.Branches → (o : Option ℕ)
      → width (image_n i) (tests_part b first narrow_form i (old i) o) ≡ 1 + (wide_by flows.Branches (wide_at i) + hop_size o + 0)
  tests_width i lt e None =
      ap (λ f. widths_by f (wide_at i) + 0) (flow_placed (land_of b first narrow_form) (old i) ∙ e) ∙ omega (arith, test_width (wide_at i))
  tests_width i lt e (Some id) =
      let rest = hop_n (Some id) (jump_target (old i)) in
      let five : width (suc (image_n i)) rest ≡ 5 =
      ones_widths wide (suc (image_n i)) (code_of rest) (hop_ones (land_of b first narrow_form) (Some id) (jump_target (old i))) in
      ap (λ f. widths_by f (wide_at i) + width (suc (image_n i)) rest) (inverse_flow i (lead_n (i + 1)) lt e)
      ∙ omega (arith, test_width (wide_at i), five)

  arms_width : (m : ℕ) (xs : List Branch) → width m (arms_n xs) ≡ arm_sizes (probe_of b first) xs
  arms_width m xs =
      ones_widths wide m (code_of (arms_n xs)) (arms_ones (land_of b first narrow_form) xs)
      ∙ length-map (arms_n xs) (insn_of named b.arg_slots)
      ∙ length-arms (land_of b first narrow_form) (probe_of b first) xs

  main_width : (i : ℕ) (flow : Flow) → i < n → flow_of (old i) ≡ flow → width (image_n i) (main_n i flow) ≡ 1 + behind_size b first wide_form i
  main_width i flows.GoesOn lt e =
      ap (λ f. widths_by f (wide_at i) + 0) (flow_shifted b.arg_slots (old i) ∙ e) ∙ ap (λ k. 1 + k) (sym (size_is b first wide_form i flows.GoesOn e))
  main_width i flows.Branches lt e = tests_width i lt e (late_probe b first i) ∙ ap (λ k. 1 + k) (sym (size_tests b first wide_form i e))
  main_width i flows.Jumps lt e =
      ap (λ f. widths_by f (wide_at i) + 0) (flow_placed (land_of b first narrow_form) (old i) ∙ e)
      ∙ ap (λ k. 1 + k) (sym (size_is b first wide_form i flows.Jumps e))
  main_width i flows.Switches lt e =
      let first_one : widths_by (flow_of (with_places (arm_n i) (old i))) (wide_at i) ≡ 1 = ap (λ f. widths_by f (wide_at i)) (flow_placed (arm_n i) (old i) ∙ e) in
      omega (arith, first_one, arms_width (suc (image_n i)) (arms_at b.code i), size_switches b first wide_form i e)
  main_width i flows.Returns lt e =
      ap (λ f. widths_by f (wide_at i) + 0) e ∙ ap (λ k. 1 + k) (sym (size_is b first wide_form i flows.Returns e))
  main_width i flows.Throws lt e =
      ap (λ f. widths_by f (wide_at i) + 0) e ∙ ap (λ k. 1 + k) (sym (size_is b first wide_form i flows.Throws e))

  items_width : (m : ℕ) (xs ys : List Item) → width m (xs ++ ys) ≡ width m xs + width (m + length (code_of xs)) ys
  items_width m xs ys = ap (widths wide m) (code_both xs ys) ∙ widths_both wide m (code_of xs) (code_of ys)

  long_lead : (i : ℕ) → length (code_of (lead_items i)) ≡ probe_size (lead_probe b first i)
  long_lead i = length-map (lead_items i) (insn_of named b.arg_slots) ∙ length-lead (lead_probe b first i) i

  long_early : (i : ℕ) → length (code_of (early_items i)) ≡ probe_size (early_probe b first i)
  long_early i = length-map (early_items i) (insn_of named b.arg_slots) ∙ length-early (early_probe b first i) i

  -- the number of the image in the narrow code
  pub number : (i : ℕ) → lead_n i + length (code_of (lead_items i)) + length (code_of (early_items i)) ≡ image_n i
  number i = omega (arith, long_lead i, long_early i)

  pub lead_width : (m i : ℕ) → width m (lead_items i) ≡ probe_size (lead_probe b first i)
  lead_width m i = ones_widths wide m (code_of (lead_items i)) (lead_ones (lead_probe b first i) i) ∙ long_lead i

  pub early_width : (m i : ℕ) → width m (early_items i) ≡ probe_size (early_probe b first i)
  early_width m i = ones_widths wide m (code_of (early_items i)) (early_ones (early_probe b first i) i) ∙ long_early i

  segment_width : (i : ℕ) → i < n → width (lead_n i) (seg_n i) ≡ segment_size b first wide_form i
  segment_width i lt =
      let main = main_n i (flow_of (old i)) in
      let behind = lead_n i + length (code_of (lead_items i)) in
      omega (
        arith,
        items_width (lead_n i) (lead_items i) (early_items i ++ main),
        items_width behind (early_items i) main,
        lead_width (lead_n i) i,
        early_width behind i,
        ap (λ m. width m main) (number i),
        main_width i (flow_of (old i)) lt refl,
      )

  abbrev built : ℕ → List Item
  built k = prelude fetch ++ pieces seg_n k

  built_long : (k : ℕ) → length (code_of (built k)) ≡ lead_n k
  built_long k =
      length-map (built k) (insn_of named b.arg_slots)
      ∙ omega (
        arith,
        length-append (prelude fetch) (pieces seg_n k),
        length_prelude fetch,
        length-pieces ([]) seg_n (segment_size b first narrow_form) (sized b first narrow_form) k,
      )

  pub built_number : (k : ℕ) → 0 + length (code_of (built k)) ≡ lead_n k
  built_number k = zero-add (length (code_of (built k))) ∙ built_long k

  pub built_width : (k : ℕ) → k ≤ n → width 0 (built k) ≡ lead_w k
  built_width zero le =
      ap (width 0) (append-nil (prelude fetch))
      ∙ ones_widths wide 0 (code_of (prelude fetch)) (prelude_ones fetch)
      ∙ length-map (prelude fetch) (insn_of named b.arg_slots)
      ∙ length_prelude fetch
      ∙ omega arith
  built_width (suc k) le =
      ap (width 0) (sym (append_assoc (prelude fetch) (pieces seg_n k) (seg_n k)))
      ∙ omega (
        arith,
        items_width 0 (built k) (seg_n k),
        built_width k (omega (arith, le)),
        ap (λ m. width m (seg_n k)) (built_number k),
        segment_width k (omega (arith, le)),
      )

  pieces_split : (k : ℕ) → k ≤ n → (rest : List Item) × (built n ≡ built k ++ rest)
  pieces_split k le = by n k le
    where
      by : (m k : ℕ) → k ≤ m → (rest : List Item) × (built m ≡ built k ++ rest)
      by zero k le = let e : k ≡ 0 = omega arith in ([], sym (append-nil (built 0)) ∙ ap (λ j. built j ++ []) (sym e))
      by (suc m) k le =
          ⊎_elim
          (λ below.
          let front = by m k (omega arith) in
          (front.0 ++ seg_n m, sym (append_assoc (prelude fetch) (pieces seg_n m) (seg_n m)) ∙ ap (λ l. l ++ seg_n m) front.1 ∙ append_assoc (built k) front.0 (seg_n m)))
          (λ above. let e : k ≡ suc m = omega arith in ([], sym (append-nil (built (suc m))) ∙ ap (λ j. built j ++ []) (sym e)))
          (cases_lt k (suc m))

  -- ---- places

  abbrev pub W : ℕ → ℕ
  W q = wide_place wide (code_of (built n)) q

  -- a place inside what belongs to i
  inside : (i k : ℕ) → i < n → k ≤ length (seg_n i) → W (lead_n i + k) ≡ lead_w i + place_in (lead_n i) (seg_n i) k
  inside i k lt le =
      let split = pieces_split (suc i) (omega arith) in
      let parts : built n ≡ built i ++ (seg_n i ++ split.0) =
      split.1
      ∙ ap (λ l. l ++ split.0) (sym (append_assoc (prelude fetch) (pieces seg_n i) (seg_n i)))
      ∙ append_assoc (built i) (seg_n i) split.0 in
      let front = code_of (built i) in
      let rest = code_of (seg_n i) ++ code_of split.0 in
      ap (λ l. wide_place wide (code_of l) (lead_n i + k)) parts
      ∙ ap (λ l. wide_place wide l (lead_n i + k)) (code_both (built i) (seg_n i ++ split.0) ∙ ap (λ l. front ++ l) (code_both (seg_n i) split.0))
      ∙ ap (λ q. wide_place wide (front ++ rest) (q + k)) (sym (built_long i))
      ∙ place_behind wide 0 front rest k
      ∙ ap₂ (λ a c. a + c) (built_width i (omega arith))
      (ap (λ m. wide_place_from wide m rest k) (built_number i)
      ∙ place_in_front wide (lead_n i) (code_of (seg_n i)) (code_of split.0) k (omega (arith, le, length-map (seg_n i) (insn_of named b.arg_slots))))

  behind_end : (k : ℕ) → W (lead_n n + k) ≡ lead_w n + k
  behind_end k =
      ap (λ l. wide_place wide l (lead_n n + k)) (sym (append-nil (code_of (built n))))
      ∙ ap (λ q. wide_place wide (code_of (built n) ++ []) (q + k)) (sym (built_long n))
      ∙ place_behind wide 0 (code_of (built n)) ([]) k
      ∙ ap (λ a. a + k) (built_width n (omega arith))

  -- from the front of what belongs to i
  within_lead : (i : ℕ) → place_in (lead_n i) (seg_n i) (probe_size (lead_probe b first i)) ≡ probe_size (lead_probe b first i)
  within_lead i =
      let size = probe_size (lead_probe b first i) in
      let rest = early_items i ++ main_n i (flow_of (old i)) in
      ap (λ l. wide_place_from wide (lead_n i) l size) (code_both (lead_items i) rest)
      ∙ place_in_front wide (lead_n i) (code_of (lead_items i)) (code_of rest) size (omega (arith, long_lead i))
      ∙ ones_place wide (lead_n i) (code_of (lead_items i)) size (lead_ones (lead_probe b first i) i)

  -- a place so far behind the probes in front of the image, counted from the first of them
  abbrev behind_probes : (i far : ℕ) → ℕ
  behind_probes i far = probe_size (lead_probe b first i) + (probe_size (early_probe b first i) + far)

  -- at the image, and behind it
  within_main : (i k : ℕ)
      → place_in (lead_n i) (seg_n i) (behind_probes i k) ≡ behind_probes i (place_in (image_n i) (main_n i (flow_of (old i))) k)
  within_main i k =
      let a = code_of (lead_items i) in
      let c = code_of (early_items i) in
      let main = main_n i (flow_of (old i)) in
      let d = code_of main in
      ap (λ l. wide_place_from wide (lead_n i) l (behind_probes i k)) (code_both (lead_items i) (early_items i ++ main) ∙ ap (λ l. a ++ l) (code_both (early_items i) main))
      ∙ ap₂ (λ x y. wide_place_from wide (lead_n i) (a ++ (c ++ d)) (x + (y + k))) (sym (long_lead i)) (sym (long_early i))
      ∙ place_behind wide (lead_n i) a (c ++ d) (length c + k)
      ∙ ap₂ (λ x y. x + y) (lead_width (lead_n i) i)
      (place_behind wide (lead_n i + length a) c d k
      ∙ ap₂ (λ x y. x + y) (early_width (lead_n i + length a) i) (ap (λ m. wide_place_from wide m d k) (number i)))

  pub lead_is : (i : ℕ) → W (lead_n i) ≡ lead_w i
  lead_is i =
      ⊎_elim
      (λ below.
      let e : lead_n i ≡ lead_n i + 0 = omega arith in
      ap W e ∙ inside i 0 below (omega arith) ∙ ap (λ k. lead_w i + k) (first_from wide (lead_n i) (code_of (seg_n i))) ∙ omega arith)
      (λ above.
      let e : i ≡ n + (i - n) = omega arith in
      ap (λ j. W (lead_n j)) e
      ∙ ap W (lead_past b first narrow_form is_code (i - n))
      ∙ behind_end (i - n)
      ∙ sym (lead_past b first wide_form is_code (i - n))
      ∙ ap lead_w (sym e))
      (cases_lt i n)

  pub land_is : (i : ℕ) → W (land_n i) ≡ land_w i
  land_is i =
      ⊎_elim
      (λ below. inside i (probe_size (lead_probe b first i)) below (omega (arith, sized b first narrow_form i)) ∙ ap (λ k. lead_w i + k) (within_lead i))
      (λ above.
      let e : i ≡ n + (i - n) = omega arith in
      let none : probe_size (lead_probe b first i) ≡ 0 =
      ap (λ j. probe_size (lead_probe b first j)) e ∙ ap probe_size (lead_none b first narrow_form is_code (i - n)) in
      let front : land_n i ≡ lead_n i = omega (arith, none) in
      let behind : lead_w i ≡ land_w i = omega (arith, none) in
      ap W front ∙ lead_is i ∙ behind)
      (cases_lt i n)

  pub image_is : (i : ℕ) → W (image_n i) ≡ image_w i
  image_is i =
      ⊎_elim
      (λ below.
      let place : image_n i ≡ lead_n i + behind_probes i 0 = omega arith in
      ap W place
      ∙ inside i (behind_probes i 0) below (omega (arith, sized b first narrow_form i))
      ∙ ap (λ x. lead_w i + x) (within_main i 0)
      ∙ omega (arith, first_from wide (image_n i) (code_of (main_n i (flow_of (old i))))))
      (λ above.
      let e : i ≡ n + (i - n) = omega arith in
      ap (λ j. W (image_n j)) e
      ∙ ap W (image_past b first narrow_form is_code (i - n))
      ∙ behind_end (i - n)
      ∙ sym (image_past b first wide_form is_code (i - n))
      ∙ ap image_w (sym e))
      (cases_lt i n)

  pub lands_are : (λ to. W (land_n to)) ≡ land_of b first wide_form
  lands_are = λ k i. land_is i k

  -- behind the image of a switch
  arm_at : (i k : ℕ) → i < n → flow_of (old i) ≡ flows.Switches → k ≤ arm_sizes (probe_of b first) (arms_at b.code i)
      → W (image_n i + 1 + k) ≡ image_w i + 1 + k
  arm_at i k lt e le =
      let size = size_switches b first narrow_form i e in
      let place : image_n i + 1 + k ≡ lead_n i + behind_probes i (suc k) = omega arith in
      let arms = code_of (arms_n (arms_at b.code i)) in
      let main : place_in (image_n i) (main_n i (flow_of (old i))) (suc k) ≡ suc k =
      ap (λ f. place_in (image_n i) (main_n i f) (suc k)) e
      ∙ omega (
        arith,
        ap (λ f. widths_by f (wide_at i)) (flow_placed (arm_n i) (old i) ∙ e),
        ones_place wide (suc (image_n i)) arms k (arms_ones (land_of b first narrow_form) (arms_at b.code i)),
      ) in
      ap W place
      ∙ inside i (behind_probes i (suc k)) lt (omega (arith, sized b first narrow_form i, size, le))
      ∙ ap (λ x. lead_w i + x) (within_main i (suc k))
      ∙ omega (arith, main)

  abbrev narrow_rest : List Branch → ℕ → ℕ → ℕ
  narrow_rest xs to h = W (arm_place (probe_of b first) (land_of b first narrow_form) h xs to)

  abbrev wide_rest : List Branch → ℕ → ℕ → ℕ
  wide_rest xs to h = arm_place (probe_of b first) (land_of b first wide_form) h xs to

  -- the arm places that are counted from q of the narrow code are those that are counted from r of the wide code
  abbrev AreArmsAlike : List Branch → (to q r : ℕ) → Type 0
  AreArmsAlike xs to q r = narrow_rest xs to q ≡ wide_rest xs to r

  -- a place so far behind the image of a switch
  abbrev behind_n : (i far : ℕ) → ℕ
  behind_n i far = image_n i + 1 + far

  abbrev behind_w : (i far : ℕ) → ℕ
  behind_w i far = image_w i + 1 + far

  either_is : (t : Bool) (a c a' c' : ℕ) → W a ≡ a' → W c ≡ c' → W (cond t a c) ≡ cond t a' c'
  either_is true a c a' c' e f = e
  either_is false a c a' c' e f = f

  arm_places : (i : ℕ) → i < n → flow_of (old i) ≡ flows.Switches → (k : ℕ) (xs : List Branch)
      → k + arm_sizes (probe_of b first) xs ≤ arm_sizes (probe_of b first) (arms_at b.code i) → (to : ℕ)
      → AreArmsAlike xs to (behind_n i k) (behind_w i k)
  arm_places i lt e k [] le to = land_is to
  arm_places i lt e k (x ∷ xs) le to =
      let size = hop_size (probe_of b first x) in
      either_is (nat_eq (to_of x) to)
      (here_or (probe_of b first x) (behind_n i k) (land_n to))
      (arm_place (probe_of b first) (land_of b first narrow_form) (behind_n i k + size) xs to)
      (here_or (probe_of b first x) (behind_w i k) (land_w to))
      (wide_rest xs to (behind_w i k + size))
      (one (probe_of b first x))
      (later size (arm_places i lt e (k + size) xs (omega arith) to))
    where
      one : (o : Option ℕ) → W (here_or o (behind_n i k) (land_n to)) ≡ here_or o (behind_w i k) (land_w to)
      one None = land_is to
      one (Some id) = arm_at i k lt e (omega arith)

      later : (size : ℕ) → AreArmsAlike xs to (behind_n i (k + size)) (behind_w i (k + size))
          → AreArmsAlike xs to (behind_n i k + size) (behind_w i k + size)
      later size more =
          let front : behind_n i k + size ≡ behind_n i (k + size) = omega arith in
          let end : behind_w i (k + size) ≡ behind_w i k + size = omega arith in
          ap (narrow_rest xs to) front ∙ more ∙ ap (wide_rest xs to) end

  -- where a switch leads
  pub arm_is : (i : ℕ) → i < n → flow_of (old i) ≡ flows.Switches → (to : ℕ) → W (arm_n i to) ≡ arm_w i to
  arm_is i lt e to =
      let z : image_n i + 1 ≡ image_n i + 1 + 0 = omega arith in
      let y : image_w i + 1 + 0 ≡ image_w i + 1 = omega arith in
      ap (narrow_rest (arms_at b.code i) to) z ∙ arm_places i lt e 0 (arms_at b.code i) (omega arith) to ∙ ap (wide_rest (arms_at b.code i) to) y

  -- behind the conditional jump itself
  tests_one : (i : ℕ) → i < n → flow_of (old i) ≡ flows.Branches → (o : Option ℕ)
      → place_in (image_n i) (tests_part b first narrow_form i (old i) o) 1 ≡ 1 + wide_by flows.Branches (wide_at i)
  tests_one i lt e None =
      ap (λ f. widths_by f (wide_at i) + 0) (flow_placed (land_of b first narrow_form) (old i) ∙ e) ∙ omega (arith, test_width (wide_at i))
  tests_one i lt e (Some id) =
      ap (λ f. widths_by f (wide_at i) + 0) (inverse_flow i (lead_n (i + 1)) lt e) ∙ omega (arith, test_width (wide_at i))

  main_test : (i : ℕ) → i < n → flow_of (old i) ≡ flows.Branches
      → place_in (image_n i) (main_n i (flow_of (old i))) 1 ≡ 1 + wide_by flows.Branches (wide_at i)
  main_test i lt e = ap (λ f. place_in (image_n i) (main_n i f) 1) e ∙ tests_one i lt e (late_probe b first i)

  pub behind_test : (i : ℕ) → i < n → flow_of (old i) ≡ flows.Branches → W (image_n i + 1) ≡ image_w i + 1 + wide_by flows.Branches (wide_at i)
  behind_test i lt e =
      let place : image_n i + 1 ≡ lead_n i + behind_probes i 1 = omega arith in
      ap W place
      ∙ inside i (behind_probes i 1) lt (omega (arith, sized b first narrow_form i))
      ∙ ap (λ x. lead_w i + x) (within_main i 1)
      ∙ omega (arith, main_test i lt e)
