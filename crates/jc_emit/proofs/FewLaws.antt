-- An emission has few instructions and few arms of switches.
use Rattle.std.proofs.Common.{◌≡◌, ℕ, zero, suc, ◌+◌, ◌*◌, ◌<◌, ◌≤◌, Bool, cond, nat_le, List, [], ◌∷◌, ◌++◌, length, take, map, Option, Some, None, refl, ap, ◌∙◌, arith, pos, add-one}
use Rattle.std.specs.List.{sum_by}
use Rattle.std.proofs.lemmas.Bool.{cond_both}
use Rattle.std.proofs.lemmas.List.{take_more, take_all}
use Rattle.std.proofs.lemmas.List.Sums.{sum_by-cons, sum_by-append}
use Rattle.jc_bytes.specs.PlainLists.{pieces}
use Rattle.jc_methods.specs.Flow.{flow_of}
use Rattle.jc_methods.specs.Insn.{arm_count}
use Rattle.jc_methods.specs.WellMade.{IsCode, insns_and_arms}
use Rattle.jc_methods.specs.Widened.{inverted}
use Rattle.jc_methods.specs.declared.insn.Insn.{Insn}
use Rattle.jc_methods.specs.declared.insn.Insn.TheVariants as insns
use Rattle.jc_methods.specs.declared.insn.Flow.{Flow}
use Rattle.jc_methods.specs.declared.insn.Flow.TheVariants as flows
use Rattle.jc_methods.specs.declared.kind.State.{State}
use Rattle.jc_methods.specs.declared.body.Body.{Body}
use Rattle.jc_methods.specs.declared.probe_members.Fetch.{Fetch}
use Rattle.jc_methods.specs.declared.probe_members.Fetch.TheVariants as fetches
use Rattle.jc_methods.specs.ProbeMembers.{most_short}
use Rattle.jc_methods.proofs.PlacedInsnLaws.{same_arms}
use Rattle.jc_plan.specs.declared.branch.Branch.{Branch}
use Rattle.jc_plan.specs.Probed.{probe_of}
use Rattle.jc_plan.specs.Plan.{lead_probe}
use Rattle.jc_plan.proofs.FlowLaws.{few_of}
use Rattle.jc_kinds_after.specs.Shift.{with_slot}
use Rattle.jc_emit.specs.Sizes.{narrow, insn_at, early_by, early_probe, late_probe, arms_by, arms_at}
use Rattle.jc_emit.specs.Marks.{unplaced, push, push_by}
use Rattle.jc_emit.specs.TwinCode.{to_of, arm_place}
use Rattle.jc_emit.specs.Items.{Item, insn_of, prelude, probe, lead_part, early_part, hop_part, arm_parts, lead_of, land_of, image_of, tests_part, image_part, segment, twin_items}
use Rattle.jc_emit.specs.Emission.{Emitting, emission}

-- ---- arms

few_slots : (v : ℕ) (insn : Insn) → arm_count (with_slot v insn) ≡ arm_count insn
few_slots v (insns.Local op slot) = refl
few_slots v (insns.Inc slot by) = refl
few_slots v _ = refl

few_inverted : (to : ℕ) (insn : Insn) → arm_count (inverted to insn) ≡ arm_count insn
few_inverted to (insns.Jump op other) = refl
few_inverted to _ = refl

few_push : (n : ℕ) → arm_count (push n) ≡ 0
few_push n =
    cond_both (nat_le n 5) (insns.Simple (3 + n)) (cond (nat_le n 127) (insns.Push 16 (pos n)) (insns.Push 17 (pos n))) (λ x. arm_count x ≡ 0)
    (λ few. refl)
    (λ many. cond_both (nat_le n 127) (insns.Push 16 (pos n)) (insns.Push 17 (pos n)) (λ x. arm_count x ≡ 0) (λ h. refl) (λ h. refl))

few_push_by : (integer : ℕ → ℕ) (n : ℕ) → arm_count (push_by integer n) ≡ 0
few_push_by integer n = cond_both (nat_le n most_short) (push n) (insns.Constant (integer n)) (λ x. arm_count x ≡ 0) (λ short. few_push n) (λ long. refl)

-- ---- instructions and arms of items

module _ (integer : ℕ → ℕ) (v : ℕ) where
  abbrev weigh : List Item → ℕ
  weigh [] = 0
  weigh (x ∷ xs) = 1 + arm_count (insn_of (unplaced integer) v x) + weigh xs

  weigh_all : (xs : List Item) → length (map (insn_of (unplaced integer) v) xs) + sum_by arm_count (map (insn_of (unplaced integer) v) xs) ≡ weigh xs
  weigh_all [] = refl
  weigh_all (x ∷ xs) = omega (arith, sum_by-cons arm_count (insn_of (unplaced integer) v x) (map (insn_of (unplaced integer) v) xs), weigh_all xs)

  length_weighed : (xs : List Item) → length xs ≤ weigh xs
  length_weighed [] = omega arith
  length_weighed (x ∷ xs) = omega (arith, length_weighed xs)

  weigh_both : (xs ys : List Item) → weigh (xs ++ ys) ≡ weigh xs + weigh ys
  weigh_both [] ys = omega arith
  weigh_both (x ∷ xs) ys = omega (arith, weigh_both xs ys)

  weigh_probe : (id at : ℕ) (late : Bool) → weigh (probe id at late) ≡ 4
  weigh_probe id at late = omega (arith, few_push_by integer id)

  weigh_lead : (o : Option ℕ) (i : ℕ) → weigh (lead_part o i) ≤ 4
  weigh_lead None i = omega arith
  weigh_lead (Some id) i = omega (arith, few_push_by integer id)

  weigh_early : (o : Option ℕ) (i : ℕ) → weigh (early_part o i) ≤ 4
  weigh_early None i = omega arith
  weigh_early (Some id) i = omega (arith, few_push_by integer id)

  weigh_hop : (land : ℕ → ℕ) (o : Option ℕ) (to : ℕ) → weigh (hop_part land o to) ≤ 5
  weigh_hop land None to = omega arith
  weigh_hop land (Some id) to = omega (arith, few_push_by integer id)

  weigh_arms : (land : ℕ → ℕ) (ids : Branch → Option ℕ) (xs : List Branch) → weigh (arm_parts land ids xs) ≤ 5 * length xs
  weigh_arms land ids [] = omega arith
  weigh_arms land ids (x ∷ xs) =
      omega (arith, weigh_both (hop_part land (ids x) (to_of x)) (arm_parts land ids xs), weigh_hop land (ids x) (to_of x), weigh_arms land ids xs)

  weigh_prelude : (fetch : Fetch) → weigh (prelude fetch) ≤ 3
  weigh_prelude fetches.Member = omega arith
  weigh_prelude fetches.Constant = omega arith

pub few_arms : (i : ℕ) (insn : Insn) (flow : Flow) → length (arms_by i insn flow) ≤ 2 + arm_count insn
few_arms i insn flows.Switches = few_of i insn
few_arms i insn flows.GoesOn = omega arith
few_arms i insn flows.Branches = omega arith
few_arms i insn flows.Jumps = omega arith
few_arms i insn flows.Returns = omega arith
few_arms i insn flows.Throws = omega arith

module _ (b : Body) (first : ℕ) (fetch : Fetch) (integer : ℕ → ℕ) (v : ℕ) where
  abbrev old : ℕ → Insn
  old i = insn_at b.code i

  abbrev land : ℕ → ℕ
  land i = land_of b first (narrow fetch) i

  weigh_tests : (i : ℕ) (insn : Insn) (o : Option ℕ) → weigh integer v (tests_part b first (narrow fetch) i insn o) ≤ 6 + arm_count insn
  weigh_tests i insn None = omega (arith, same_arms (land_of b first (narrow fetch)) insn)
  weigh_tests i insn (Some id) = omega (arith, few_push_by integer id, few_inverted (lead_of b first (narrow fetch) (i + 1)) insn)

  -- the probe in front of an image, the image and what stands behind it
  weigh_image : (i : ℕ) (flow : Flow)
      → weigh integer v (early_part (early_by (probe_of b first) i (old i) flow) i) + weigh integer v (image_part b first (narrow fetch) i (old i) flow) ≤ 11 + 6 * arm_count (old i)
  weigh_image i flows.GoesOn = omega (arith, few_slots b.arg_slots (old i))
  weigh_image i flows.Branches = omega (arith, weigh_tests i (old i) (late_probe b first i))
  weigh_image i flows.Jumps = omega (arith, weigh_early integer v (early_by (probe_of b first) i (old i) flows.Jumps) i, same_arms (land_of b first (narrow fetch)) (old i))
  weigh_image i flows.Switches =
      omega (
        arith,
        same_arms (arm_place (probe_of b first) (land_of b first (narrow fetch)) (image_of b first (narrow fetch) i + 1) (arms_at b.code i)) (old i),
        weigh_arms integer v (land_of b first (narrow fetch)) (probe_of b first) (arms_at b.code i),
        few_arms i (old i) (flow_of (old i)),
      )
  weigh_image i flows.Returns = omega (arith, weigh_early integer v (early_by (probe_of b first) i (old i) flows.Returns) i)
  weigh_image i flows.Throws = omega (arith, weigh_early integer v (early_by (probe_of b first) i (old i) flows.Throws) i)

  weigh_segment : (i : ℕ) → weigh integer v (segment b first (narrow fetch) i) ≤ 15 * (1 + arm_count (old i))
  weigh_segment i =
      let lead = lead_part (lead_probe b first i) i in
      let early = early_part (early_probe b first i) i in
      let rest = image_part b first (narrow fetch) i (old i) (flow_of (old i)) in
      omega (
        arith,
        weigh_both integer v lead (early ++ rest),
        weigh_both integer v early rest,
        weigh_lead integer v (lead_probe b first i) i,
        weigh_image i (flow_of (old i)),
      )

  abbrev sizes : Insn → ℕ
  sizes insn = 1 + arm_count insn

  few_more : (n : ℕ) → n < length b.code → insns_and_arms (take (n + 1) b.code) ≡ insns_and_arms (take n b.code) + (1 + arm_count (old n))
  few_more n lt =
      let e = sum_by-append sizes (take n b.code) (old n ∷ []) in
      let one = sum_by-cons sizes (old n) [] in
      ap insns_and_arms (take_more b.code n (insns.Simple 0) lt) ∙ omega (arith, e, one)

  weigh_pieces : (n : ℕ) → n ≤ length b.code → weigh integer v (pieces (segment b first (narrow fetch)) n) ≤ 15 * insns_and_arms (take n b.code)
  weigh_pieces zero le = omega arith
  weigh_pieces (suc n) le =
      let up : insns_and_arms (take (n + 1) b.code) ≡ insns_and_arms (take (suc n) b.code) = ap (λ k. insns_and_arms (take k b.code)) (add-one n) in
      omega (
        arith,
        weigh_both integer v (pieces (segment b first (narrow fetch)) n) (segment b first (narrow fetch) n),
        weigh_pieces n (omega arith),
        weigh_segment n,
        few_more n (omega arith),
        up,
      )

  weigh_twin : IsCode b.code → weigh integer v (twin_items b first (narrow fetch)) ≤ 983028
  unfolding twin_items
  weigh_twin code =
      let all : insns_and_arms (take (length b.code) b.code) ≡ insns_and_arms b.code = ap insns_and_arms (take_all (length b.code) b.code (omega arith)) in
      omega (
        arith,
        weigh_both integer v (prelude fetch) (pieces (segment b first (narrow fetch)) (length b.code)),
        weigh_prelude integer v fetch,
        weigh_pieces (length b.code) (omega arith),
        all,
        code.few,
      )

  pub few_items : IsCode b.code → length (twin_items b first (narrow fetch)) ≤ 983028
  few_items code = omega (arith, length_weighed integer v (twin_items b first (narrow fetch)), weigh_twin code)

-- of instructions and arms of switches together
pub few_emitted : (b : Body) (first : ℕ) (states : List State) (given : Emitting) → IsCode b.code
    → length (emission b first states given).code + sum_by arm_count (emission b first states given).code ≤ 1000000
unfolding emission
few_emitted b first states given code =
    omega (
      arith,
      weigh_all given.integer b.arg_slots (twin_items b first (narrow given.fetch)),
      weigh_twin b first given.fetch given.integer b.arg_slots code,
    )
