-- How many bytes instrumented code takes at least: seven for each probe behind an arm of a switch.
use Rattle.std.proofs.Common.{◌≡◌, ℕ, zero, suc, ◌+◌, ◌*◌, ◌≤◌, Bool, true, false, List, [], ◌∷◌, ◌++◌, length, map, Option, Some, None, slice_index, refl, ap, arith}
use Rattle.jc_methods.specs.Flow.{flow_of}
use Rattle.jc_bytes.specs.PlainLists.{pieces, total}
use Rattle.jc_methods.specs.declared.body.Body.{Body}
use Rattle.jc_methods.specs.declared.insn.Flow.{Flow}
use Rattle.jc_methods.specs.declared.insn.Flow.TheVariants as flows
use Rattle.jc_methods.specs.declared.insn.Insn.{Insn}
use Rattle.jc_methods.specs.declared.probe_members.Fetch.{Fetch}
use Rattle.jc_methods.specs.declared.probe_members.Fetch.TheVariants as fetches
use Rattle.jc_methods.specs.declared.insn.Insn.TheVariants as insns
use Rattle.jc_methods.specs.Opcode as opcode
use Rattle.jc_methods.specs.Widened.{WideSet}
use Rattle.jc_insn.specs.Sizes.{jump_size, size_of}
use Rattle.jc_insn.proofs.SizeSumsLaws.{some_size}
use Rattle.jc_plan.specs.declared.branch.Branch.{Branch}
use Rattle.jc_plan.specs.Plan.{lead_probe}
use Rattle.jc_plan.specs.Probed.{probe_of}
use Rattle.jc_emit.specs.Marks.{TwinPlaces, unplaced}
use Rattle.jc_emit.specs.Items.{Item, start, image, probe_array, probe_id, probe_one, probe_store, hop, insn_of, lead_part, early_part, hop_part, arm_parts, image_part, tests_part, land_of, prelude, segment, twin_items}
use Rattle.jc_emit.specs.Sizes.{narrow, insn_at, early_probe, late_probe, arms_by, arms_at, arm_sizes, hop_size}
use Rattle.jc_emit.specs.TwinCode.{to_of}
use Rattle.jc_emit.specs.Written.{integer_in}
use Rattle.jc_layout.specs.Layout.{chosen, chosen_starts, chosen_length, starts_from, starts_of}
use Rattle.jc_layout.specs.LaidBody.{ready_code}
use Rattle.jc_instrument.specs.Constants.{probed_code}
use Rattle.jc_instrument.specs.declared.constants.ProbeConstants.{ProbeConstants}
use Rattle.jc_instrument_laws.proofs.EmittedFramesLaws.{arms_size}

-- a goto has three bytes or more, and each other instruction one or more
abbrev least : Item → ℕ
least (hop to at due) = 3
least other = 1

abbrev weight : List Item → ℕ
weight [] = 0
weight (x ∷ xs) = least x + weight xs

weight_both : (xs ys : List Item) → weight (xs ++ ys) ≡ weight xs + weight ys
weight_both [] ys = omega arith
weight_both (x ∷ xs) ys = let rest = weight_both xs ys in omega (arith, rest)

-- ---- the parts of a segment

module _ (b : Body) (first : ℕ) (fetch : Fetch) where
  arms_weight : (land : ℕ → ℕ) (xs : List Branch) → 7 * arm_sizes (probe_of b first) xs ≤ 5 * weight (arm_parts land (probe_of b first) xs)
  arms_weight land [] = omega arith
  arms_weight land (x ∷ xs) = by (probe_of b first x) (arms_weight land xs)
    where
      by : (o : Option ℕ) → 7 * arm_sizes (probe_of b first) xs ≤ 5 * weight (arm_parts land (probe_of b first) xs)
          → 7 * (hop_size o + arm_sizes (probe_of b first) xs) ≤ 5 * weight (hop_part land o (to_of x) ++ arm_parts land (probe_of b first) xs)
      by None rest = omega (arith, rest)
      by (Some id) rest = omega (arith, rest)

  tests_weight : (i : ℕ) (insn : Insn) (o : Option ℕ) → 1 ≤ weight (tests_part b first (narrow fetch) i insn o)
  tests_weight i insn None = omega arith
  tests_weight i insn (Some id) = omega arith

  image_weight : (i : ℕ) (insn : Insn) (flow : Flow) → arms_at b.code i ≡ arms_by i insn flow
      → 5 + 7 * arms_size b first i ≤ 5 * weight (image_part b first (narrow fetch) i insn flow)
  image_weight i insn flows.GoesOn none = let no_arms = ap (arm_sizes (probe_of b first)) none in omega (arith, no_arms)
  image_weight i insn flows.Branches none =
      let no_arms = ap (arm_sizes (probe_of b first)) none in
      let some = tests_weight i insn (late_probe b first i) in
      omega (arith, no_arms, some)
  image_weight i insn flows.Jumps none = let no_arms = ap (arm_sizes (probe_of b first)) none in omega (arith, no_arms)
  image_weight i insn flows.Switches are = let arms = arms_weight (land_of b first (narrow fetch)) (arms_at b.code i) in omega (arith, arms)
  image_weight i insn flows.Returns none = let no_arms = ap (arm_sizes (probe_of b first)) none in omega (arith, no_arms)
  image_weight i insn flows.Throws none = let no_arms = ap (arm_sizes (probe_of b first)) none in omega (arith, no_arms)

  segment_weight : (i : ℕ) → 5 + 7 * arms_size b first i ≤ 5 * weight (segment b first (narrow fetch) i)
  segment_weight i =
      let insn = insn_at b.code i in
      let rest = early_part (early_probe b first i) i ++ image_part b first (narrow fetch) i insn (flow_of insn) in
      let one = weight_both (lead_part (lead_probe b first i) i) rest in
      let two = weight_both (early_part (early_probe b first i) i) (image_part b first (narrow fetch) i insn (flow_of insn)) in
      let most = image_weight i insn (flow_of insn) refl in
      omega (arith, one, two, most)

  pieces_weight : (n : ℕ) → 5 * n + 7 * total (arms_size b first) n ≤ 5 * weight (pieces (segment b first (narrow fetch)) n)
  pieces_weight zero = omega arith
  pieces_weight (suc n) =
      let rest = pieces_weight n in
      let one = segment_weight n in
      let both = weight_both (pieces (segment b first (narrow fetch)) n) (segment b first (narrow fetch) n) in
      omega (arith, rest, one, both)

  items_weight : 5 * length b.code + 7 * total (arms_size b first) (length b.code) ≤ 5 * weight (twin_items b first (narrow fetch))
  unfolding twin_items
  items_weight =
      let most = pieces_weight (length b.code) in
      let both = weight_both (prelude fetch) (pieces (segment b first (narrow fetch)) (length b.code)) in
      omega (arith, most, both)

-- ---- the bytes

size_least : (at : ℕ) (wide : Bool) (named : TwinPlaces) (v : ℕ) (x : Item) → least x ≤ size_of at wide (insn_of named v x)
size_least at wide named v (hop to from due) = by wide
  where
    by : (t : Bool) → 3 ≤ jump_size t opcode.goto
    by true = omega arith
    by false = omega arith
size_least at wide named v (start fetch k) = some_size at wide (insn_of named v (start fetch k))
size_least at wide named v (image insn from early) = some_size at wide insn
size_least at wide named v (probe_array id from late) = some_size at wide (insn_of named v (probe_array id from late))
size_least at wide named v (probe_id id from late) = some_size at wide (insn_of named v (probe_id id from late))
size_least at wide named v (probe_one id from late) = some_size at wide (insn_of named v (probe_one id from late))
size_least at wide named v (probe_store id from late) = some_size at wide (insn_of named v (probe_store id from late))

ends_at : (wide : WideSet) (n at : ℕ) (named : TwinPlaces) (v : ℕ) (xs : List Item)
    → at + weight xs ≤ slice_index (starts_from wide n at (map (insn_of named v) xs)) (length (map (insn_of named v) xs))
ends_at wide n at named v [] = omega arith
ends_at wide n at named v (x ∷ xs) =
    let size = size_least at (wide n) named v x in
    let rest = ends_at wide (suc n) (at + size_of at (wide n) (insn_of named v x)) named v xs in
    omega (arith, size, rest)

-- the same where the first instruction loads a constant
ready_ends : (wide : WideSet) (fetch : Fetch) (giver : ℕ) (named : TwinPlaces) (v : ℕ) (xs : List Item)
    → weight (prelude fetch ++ xs) ≤ slice_index (starts_from wide 0 0 (ready_code fetch giver (map (insn_of named v) (prelude fetch ++ xs))))
    (length (ready_code fetch giver (map (insn_of named v) (prelude fetch ++ xs))))
ready_ends wide fetches.Member giver named v xs = let rest = ends_at wide 0 0 named v (prelude fetches.Member ++ xs) in omega (arith, rest)
ready_ends wide fetches.Constant giver named v xs =
    let size = some_size 0 (wide 0) (insns.Constant giver) in
    let rest =
    ends_at wide 1 (0 + size_of 0 (wide 0) (insns.Constant giver)) named v (start fetches.Constant 1 ∷ start fetches.Constant 2 ∷ xs) in
    omega (arith, size, rest)

pub code_least : (constants : ProbeConstants) (b : Body) (first : ℕ)
    → 5 * length b.code + 7 * total (arms_size b first) (length b.code) ≤ 5 * chosen_length (probed_code constants b first)
unfolding chosen_starts starts_of twin_items
code_least constants b first =
    let items = items_weight b first constants.fetch in
    let end = ready_ends (chosen (probed_code constants b first)) constants.fetch constants.giver (unplaced (integer_in constants.integers)) b.arg_slots
    (pieces (segment b first (narrow constants.fetch)) (length b.code)) in
    omega (arith, items, end)
