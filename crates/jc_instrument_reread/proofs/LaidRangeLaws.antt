-- The numbers of instrumented code fit their types, so its layout spells it.
use Rattle.std.proofs.Common.{◌≡◌, ◌⊎◌, inl, inr, ℕ, zero, suc, ◌+◌, ◌<◌, ◌≤◌, Bool, true, false, List, [], ◌∷◌, ◌++◌, length, map, get_or, nat_le, nat_lt, pos, w16, All, Option, Some, None, if◌then◌else◌, refl, sym, subst, arith}
use Rattle.std.specs.List.{AllByRecursion}
use Rattle.std.proofs.lemmas.Bool.{cases_lt, leb-true}
use Rattle.std.proofs.lemmas.Int.{fits_signed_from_abs}
use Rattle.std.proofs.lemmas.List.{get_or_past}
use Rattle.std.proofs.lemmas.List.Elements.{All-cons, All-map, All-nil, All-tail}
use Rattle.jc_bytes.proofs.EachLaws.{all_both, all_of_each}
use Rattle.jc_methods.specs.Flow.{flow_of, jump_target, targets_of}
use Rattle.jc_methods.specs.Insn.{with_places}
use Rattle.jc_methods.specs.InsnUse.{LocalsWithin, is_of_two_slots}
use Rattle.jc_bytes.specs.PlainLists.{pieces}
use Rattle.jc_methods.specs.ProbeMembers.{most_short}
use Rattle.jc_methods.specs.WellMade.{IsWellMadeOfAnySize}
use Rattle.jc_methods.specs.Widened.{inverted}
use Rattle.jc_methods.specs.declared.body.Body.{Body}
use Rattle.jc_methods.specs.declared.insn.Flow.{Flow}
use Rattle.jc_methods.specs.declared.insn.Flow.TheVariants as flows
use Rattle.jc_methods.specs.declared.insn.Insn.{Insn}
use Rattle.jc_methods.specs.declared.insn.Insn.TheVariants as insns
use Rattle.jc_methods.specs.declared.kind.State.{State}
use Rattle.jc_methods.specs.declared.probe_members.Fetch.{Fetch}
use Rattle.jc_methods.specs.declared.probe_members.Fetch.TheVariants as fetches
use Rattle.jc_methods.specs.Opcode as opcode
use Rattle.jc_kinds_after.specs.Shift.{slot_of, with_slot}
use Rattle.jc_plan.specs.declared.branch.Branch.{Branch}
use Rattle.jc_plan.specs.Plan.{lead_probe}
use Rattle.jc_plan.specs.Probed.{probe_of}
use Rattle.jc_frames.proofs.ReadLaws.{each_of}
use Rattle.jc_insn.specs.Spells.{Spells}
use Rattle.jc_insn.specs.Writing.{IsInRange}
use Rattle.jc_insn.proofs.PlacesLaws.{in_range_with}
use Rattle.jc_insn.proofs.WideCodeLaws.{spells_wide}
use Rattle.jc_emit.specs.Emission.{Emitting, emission}
use Rattle.jc_emit.specs.Items.{Item, arm_parts, prelude, early_part, hop_part, image_part, insn_of, lead_part, probe, segment, test_part, tests_part, twin_items, image_of, land_of, lead_of}
use Rattle.jc_emit.specs.Marks.{unplaced, push, push_by}
use Rattle.jc_emit.specs.Sizes.{narrow, arms_at, early_probe, insn_at, late_probe}
use Rattle.jc_emit.specs.TwinCode.{arm_place, to_of}
use Rattle.jc_layout.specs.LaidBody.{ready_code}
use Rattle.jc_layout.specs.Layout.{laid_code, laid_starts, chosen, chosen_length, chosen_list, chosen_starts, chosen_text}
use Rattle.jc_layout.proofs.ChoiceLaws.{chosen_stand, near}
use Rattle.jc_layout.proofs.LayableLaws.{all_formed, all_within, ready_formed, ready_length}
use Rattle.jc_instrument_reread.specs.WrittenCode.{ready_emission}

-- ---- numbers of instructions

slot_small : (v slot max : ℕ) → slot < max → max + 1 ≤ 65535 → slot_of v slot < 65536
slot_small v slot max lt few = by (nat_lt slot v)
  where
    by : (t : Bool) → (if t then slot else slot + 1) < 65536
    by true = omega (arith, lt, few)
    by false = omega (arith, lt, few)

first_within : (test : Bool) (slot max : ℕ) → AllByRecursion (λ k. k < max) (if test then slot ∷ (slot + 1) ∷ [] else slot ∷ []) → slot < max
first_within true slot max all = all.0
first_within false slot max all = all.0

slot_range : (v max : ℕ) (insn : Insn) → max + 1 ≤ 65535 → LocalsWithin max insn → IsInRange insn → IsInRange (with_slot v insn)
slot_range v max (insns.Local op slot) few within h = slot_small v slot max (first_within (is_of_two_slots op) slot max within) few
slot_range v max (insns.Inc slot by) few within h = (slot_small v slot max within.0 few, h.1)
slot_range v max insn few within h = h

inverted_range : (to : ℕ) (insn : Insn) → IsInRange insn → IsInRange (inverted to insn)
inverted_range to (insns.Jump op other) h = tt
inverted_range to insn h = h

push_range : (n : ℕ) → n ≤ most_short → IsInRange (push n)
push_range n le = by (nat_le n 5) (nat_le n 127)
  where
    by : (s t : Bool) → IsInRange (if s then insns.Simple (opcode.iconst_0 + n) else if t then insns.Push opcode.bipush (pos n) else insns.Push opcode.sipush (pos n))
    by true t = tt
    by false true = fits_signed_from_abs w16 (pos n) (omega (arith, le))
    by false false = fits_signed_from_abs w16 (pos n) (omega (arith, le))

module _ (b : Body) (first : ℕ) (states : List State) (given : Emitting) (well : IsWellMadeOfAnySize b) (ranges : All IsInRange b.code)
    (locals : b.max_locals + 1 ≤ 65535) (integers : (id : ℕ) → given.integer id < 65536) where
  -- ---- items

  id_range : (id : ℕ) → IsInRange (push_by given.integer id)
  id_range id = by (nat_le id most_short) refl
    where
      by : (t : Bool) → nat_le id most_short ≡ t → IsInRange (if t then push id else insns.Constant (given.integer id))
      by true e = push_range id (leb-true id most_short e)
      by false e = integers id

  abbrev Fits : Item → Type 0
  Fits x = IsInRange (insn_of (unplaced given.integer) b.arg_slots x)

  abbrev All_fit : List Item → Type 0
  All_fit xs = AllByRecursion Fits xs

  slot_fits : b.arg_slots < 65536
  slot_fits = let le = well.arguments_fit in omega (arith, le, locals)

  probe_fits : (id at : ℕ) (late : Bool) → All_fit (probe id at late)
  probe_fits id at late = (slot_fits, (id_range id, (tt, (tt, tt))))

  lead_fits : (o : Option ℕ) (i : ℕ) → All_fit (lead_part o i)
  lead_fits None i = tt
  lead_fits (Some id) i = probe_fits id i true

  early_fits : (o : Option ℕ) (i : ℕ) → All_fit (early_part o i)
  early_fits None i = tt
  early_fits (Some id) i = probe_fits id i false

  hop_fits : (land : ℕ → ℕ) (o : Option ℕ) (to : ℕ) → All_fit (hop_part land o to)
  hop_fits land None to = tt
  hop_fits land (Some id) to = (slot_fits, (id_range id, (tt, (tt, (tt, tt)))))

  arms_fit : (land : ℕ → ℕ) (xs : List Branch) → All_fit (arm_parts land (probe_of b first) xs)
  arms_fit land [] = tt
  arms_fit land (x ∷ xs) =
      all_both Fits (hop_part land (probe_of b first x) (to_of x)) (arm_parts land (probe_of b first) xs)
      (hop_fits land (probe_of b first x) (to_of x)) (arms_fit land xs)

  test_fits : (w : Bool) (q : ℕ) (insn : Insn) (i on : ℕ) (due : Option ℕ) → IsInRange insn → All_fit (test_part w q insn i on due)
  test_fits false q insn i on due h = (h, tt)
  test_fits true q insn i on due h = (inverted_range (q + 2) insn h, (tt, tt))

  tests_fit : (i : ℕ) (insn : Insn) (o : Option ℕ) → IsInRange insn → All_fit (tests_part b first (narrow given.fetch) i insn o)
  tests_fit i insn None h =
      test_fits false (image_of b first (narrow given.fetch) i) (with_places (land_of b first (narrow given.fetch)) insn) i (jump_target insn) None
      (in_range_with (land_of b first (narrow given.fetch)) insn h)
  tests_fit i insn (Some id) h =
      all_both Fits (test_part false (image_of b first (narrow given.fetch) i) (inverted (lead_of b first (narrow given.fetch) (i + 1)) insn) i (i + 1) (lead_probe b first (i + 1)))
      (hop_part (land_of b first (narrow given.fetch)) (Some id) (jump_target insn))
      (test_fits false (image_of b first (narrow given.fetch) i) (inverted (lead_of b first (narrow given.fetch) (i + 1)) insn) i (i + 1) (lead_probe b first (i + 1))
      (inverted_range (lead_of b first (narrow given.fetch) (i + 1)) insn h))
      (hop_fits (land_of b first (narrow given.fetch)) (Some id) (jump_target insn))

  abbrev old : ℕ → Insn
  old i = insn_at b.code i

  image_fits : (i : ℕ) (flow : Flow) → IsInRange (old i) → LocalsWithin b.max_locals (old i) → All_fit (image_part b first (narrow given.fetch) i (old i) flow)
  image_fits i flows.GoesOn h within = (slot_range b.arg_slots b.max_locals (old i) locals within h, tt)
  image_fits i flows.Branches h within = tests_fit i (old i) (late_probe b first i) h
  image_fits i flows.Jumps h within = (in_range_with (land_of b first (narrow given.fetch)) (old i) h, tt)
  image_fits i flows.Switches h within = (
    in_range_with (arm_place (probe_of b first) (land_of b first (narrow given.fetch)) (image_of b first (narrow given.fetch) i + 1) (arms_at b.code i)) (old i) h,
    arms_fit (land_of b first (narrow given.fetch)) (arms_at b.code i),
  )
  image_fits i flows.Returns h within = (h, tt)
  image_fits i flows.Throws h within = (h, tt)

  old_is : (P : Insn → Type 0) → P (insns.Simple 0) → All P b.code → (i : ℕ) → P (old i)
  old_is P none all i = by (cases_lt i (length b.code))
    where
      by : (i < length b.code) ⊎ (length b.code ≤ i) → P (old i)
      by (inl lt) = all i (insns.Simple 0) lt
      by (inr past) = subst P (sym (get_or_past b.code i (insns.Simple 0) past)) none

  segment_fits : (i : ℕ) → All_fit (segment b first (narrow given.fetch) i)
  segment_fits i =
      let main = image_part b first (narrow given.fetch) i (old i) (flow_of (old i)) in
      all_both Fits (lead_part (lead_probe b first i) i) (early_part (early_probe b first i) i ++ main) (lead_fits (lead_probe b first i) i)
      (all_both Fits (early_part (early_probe b first i) i) main (early_fits (early_probe b first i) i)
      (image_fits i (flow_of (old i)) (old_is IsInRange tt ranges i) (old_is (LocalsWithin b.max_locals) tt well.locals i)))

  pieces_fit : (n : ℕ) → All_fit (pieces (segment b first (narrow given.fetch)) n)
  pieces_fit zero = tt
  pieces_fit (suc n) = all_both Fits (pieces (segment b first (narrow given.fetch)) n) (segment b first (narrow given.fetch) n) (pieces_fit n) (segment_fits n)

  prelude_fits : (fetch : Fetch) → All_fit (prelude fetch)
  prelude_fits fetches.Member = (omega arith, (slot_fits, tt))
  prelude_fits fetches.Constant = (omega arith, (omega arith, (slot_fits, tt)))

  items_fit : All_fit (twin_items b first (narrow given.fetch))
  unfolding twin_items
  items_fit =
      all_both Fits (prelude given.fetch) (pieces (segment b first (narrow given.fetch)) (length b.code)) (prelude_fits given.fetch)
      (pieces_fit (length b.code))

  each_mapped : (xs : List Item) → All_fit xs → AllByRecursion IsInRange (map (insn_of (unplaced given.integer) b.arg_slots) xs)
  each_mapped [] all = tt
  each_mapped (x ∷ xs) all = (all.0, each_mapped xs all.1)

  -- ---- the code

  abbrev code : List Insn
  code = map (insn_of (unplaced given.integer) b.arg_slots) (twin_items b first (narrow given.fetch))

  all_fit : All IsInRange code
  all_fit = All-map IsInRange (insn_of (unplaced given.integer) b.arg_slots) (twin_items b first (narrow given.fetch))
      (all_of_each IsInRange (insn_of (unplaced given.integer) b.arg_slots) (twin_items b first (narrow given.fetch)) (each_mapped (twin_items b first (narrow given.fetch)) items_fit))

  places_fit : All (λ insn. All (λ to. to < length code) (targets_of insn)) code
  places_fit k d lt = each_of (λ to. to < length code) (targets_of (get_or code k d)) (all_within b first given.fetch given.integer well.code k d lt)

-- ---- code that is ready for its layout

ready_range : (fetch : Fetch) (place : ℕ) (code : List Insn) → place < 65536 → All IsInRange code → All IsInRange (ready_code fetch place code)
ready_range fetches.Member place code lt h = h
ready_range fetches.Constant place [] lt h = h
ready_range fetches.Constant place (load ∷ code) lt h = All-cons IsInRange (insns.Constant place) code lt (All-tail IsInRange load code h)

ready_targets : (fetch : Fetch) (n place : ℕ) (code : List Insn) → All (λ insn. All (λ to. to < n) (targets_of insn)) code
    → All (λ insn. All (λ to. to < n) (targets_of insn)) (ready_code fetch place code)
ready_targets fetches.Member n place code h = h
ready_targets fetches.Constant n place [] h = h
ready_targets fetches.Constant n place (load ∷ code) h =
    let Fact : Insn → Type 0 = λ insn. All (λ to. to < n) (targets_of insn) in
    All-cons Fact (insns.Constant place) code (All-nil (λ to. to < n)) (All-tail Fact load code h)

-- ---- layouts

-- The layout that is chosen spells the instrumented code of a body whose instructions fit their types, where the places of Integers and
-- that of the constant which it loads do.
pub chosen_spelled : (b : Body) (first : ℕ) (states : List State) (given : Emitting) (giver : ℕ) → IsWellMadeOfAnySize b → All IsInRange b.code
    → b.max_locals + 1 ≤ 65535 → ((id : ℕ) → given.integer id < 65536) → giver < 65536
    → chosen_length (ready_emission b first states given giver).code ≤ 65535
    → Spells (chosen_text (ready_emission b first states given giver).code)
    (laid_code (chosen_list (ready_emission b first states given giver).code) (ready_emission b first states given giver).code)
    (laid_starts (chosen_list (ready_emission b first states given giver).code) (ready_emission b first states given giver).code
    (chosen_starts (ready_emission b first states given giver).code))
unfolding chosen_text emission
chosen_spelled b first states given giver well ranges locals integers giver_lt few =
    let emitted = code b first states given well ranges locals integers in
    let laid = ready_code given.fetch giver emitted in
    let starts = chosen_starts laid in
    spells_wide (chosen laid) laid starts
    (record {
      starts_at = chosen_stand laid;
      end = omega (arith, few);
      well_formed = ready_formed given.fetch giver emitted (all_formed b first given.fetch given.integer well.code);
      in_range = ready_range given.fetch giver emitted giver_lt (all_fit b first states given well ranges locals integers);
      places =
          subst (λ (n : ℕ). All (λ insn. All (λ to. to < n) (targets_of insn)) laid) (sym (ready_length given.fetch giver emitted))
          (ready_targets given.fetch (length emitted) giver emitted (places_fit b first states given well ranges locals integers));
    })
    (near laid starts (chosen_list laid) refl refl)
