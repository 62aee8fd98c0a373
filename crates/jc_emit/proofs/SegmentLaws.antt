-- What the code of an instrumented method is written from, and what belongs to each instruction.
use Rattle.std.proofs.Common.{◌≡◌, ℕ, zero, suc, ◌+◌, ◌<◌, ◌≤◌, Bool, true, false, cond, List, [], ◌∷◌, length, get_or, map, Option, Some, None, refl, sym, ap, ap₂, ◌∙◌, subst, arith, add-one}
use Rattle.std.specs.Prelude.{Contains, All, slice_index}
use Rattle.std.specs.List.{AllByRecursion}
use Rattle.std.proofs.lemmas.List.Elements.{All-get_or, Contains-get_or}
use Rattle.jc_bytes.specs.PlainLists.{map_from, pieces}
use Rattle.jc_methods.specs.Flow.{flow_of, targets_of, jump_target}
use Rattle.jc_bytes.specs.FirstSeen.{first_seen}
use Rattle.jc_methods.specs.Insn.{IsWellFormed, with_places}
use Rattle.jc_methods.specs.InsnUse.{is_of_two_slots, LocalsWithin, LeadsWithin}
use Rattle.jc_methods.specs.ProbeMembers.{most_short}
use Rattle.jc_methods.specs.Slots.{slot_of}
use Rattle.jc_methods.specs.WellMade.{IsCode, IsWellMadeOfAnySize}
use Rattle.jc_methods.specs.Widened.{inverted}
use Rattle.jc_methods.specs.declared.insn.Insn.{Insn}
use Rattle.jc_methods.specs.declared.insn.Insn.TheVariants as insns
use Rattle.jc_methods.specs.declared.insn.Flow.{Flow}
use Rattle.jc_methods.specs.declared.insn.Flow.TheVariants as flows
use Rattle.jc_methods.specs.declared.body.Body.{Body}
use Rattle.jc_methods.specs.declared.plan.Plan.{Plan}
use Rattle.jc_methods.specs.declared.probe_members.Fetch.{Fetch}
use Rattle.jc_methods.specs.declared.probe_members.Fetch.TheVariants as fetches
use Rattle.jc_bytes.proofs.BooleanLaws.{first_in, later_in}
use Rattle.jc_bytes.proofs.EachLaws.{all_weaker}
use Rattle.jc_bytes.proofs.FirstSeenLaws.{first_seen_all, first_seen_listed}
use Rattle.jc_plan.specs.declared.branch.Branch.{Branch}
use Rattle.jc_plan.specs.Edges.{sequence, arm, branches_by, branches_of, branches}
use Rattle.jc_plan.specs.Probed.{is_probed, id_of, probe_count, id_if, probe_of}
use Rattle.jc_plan.specs.declared.branch.Way.{Way}
use Rattle.jc_plan.specs.declared.branch.Way.TheVariants.{Falls, Jumps, Switches, Exits}
use Rattle.jc_plan.specs.Plan.{plan_of, lead_probe, out_by, out_probe, out_probes}
use Rattle.jc_plan.proofs.IdsLaws.{ids_within}
use Rattle.jc_emit.specs.Marks.{unplaced}
use Rattle.jc_emit.specs.Sizes.{narrow, insn_at, arms_by, arms_at}
use Rattle.jc_emit.specs.TwinCode.{arm_place}
use Rattle.jc_emit.specs.Items.{image, hop_part, arm_parts, lead_of, land_of, image_of, tests_part, image_part}
use Rattle.jc_emit.specs.Branching.{IsPushed, IsTableOf, early_in, test_image, arm_place_in, arm_part_in}
use Rattle.jc_emit.specs.Placing.{IsTable}
use Rattle.jc_emit.specs.Writing.{Grows}
use Rattle.jc_emit.specs.declared.written.Written.{Written}
use Rattle.jc_emit.proofs.OthersLaws.{tests_target, found_at, sequence_listed, fallen_before}
use Rattle.jc_emit.proofs.PlanReadsLaws.{outs_switch}
use Rattle.jc_emit.proofs.SwitchLaws.{arms_agree, length_ids, arm_pieces, each_contains, places_agree}
use Rattle.jc_emit.proofs.WritingLaws.{grows_append}

-- ---- tables

pub table_is : (place : ℕ → ℕ) (count : ℕ) (table : List ℕ) → IsTable place count table → IsTableOf place table
table_is place count table is i lt = is.each i (omega (arith, is.size, lt))

pub led_agrees : (place : ℕ → ℕ) (table : List ℕ) (insn : Insn) → IsTableOf place table → LeadsWithin (length table) insn
    → with_places (slice_index table) insn ≡ with_places place insn
led_agrees place table insn is within =
    places_agree (slice_index table) place insn (λ to has. is to (each_contains (λ t. t < length table) (targets_of insn) within to has))

-- ---- an instruction of a well made body

module _ (b : Body) (at : ℕ) (lt : at < length b.code) (made : IsWellMadeOfAnySize b) where
  abbrev old : Insn
  old = insn_at b.code at

  pub formed_at : IsWellFormed old
  formed_at = All-get_or IsWellFormed b.code at (insns.Simple 0) lt made.code.well_formed

  pub leads_at : (count : ℕ) → count ≡ length b.code + 1 → LeadsWithin count old
  leads_at count size =
      all_weaker (λ to. to < length b.code) (λ to. to < count) (λ to h. omega (arith, h, size)) (targets_of old)
      (All-get_or (LeadsWithin (length b.code)) b.code at (insns.Simple 0) lt made.code.places)

  pub targets_at : (count : ℕ) → count ≡ length b.code + 1 → All (λ to. to < count) (first_seen (targets_of old))
  targets_at count size k d below =
      each_contains (λ to. to < count) (targets_of old) (leads_at count size) (get_or (first_seen (targets_of old)) k d)
      (first_seen_listed (targets_of old) (get_or (first_seen (targets_of old)) k d) (Contains-get_or (first_seen (targets_of old)) k d below))

slot_by : (count slot k : ℕ) (two : Bool) → AllByRecursion (λ s. s < count) (cond two (k ∷ (k + 1) ∷ []) (k ∷ [])) → k ≡ slot → slot < count
slot_by count slot k true within e = omega (arith, within.0, e)
slot_by count slot k false within e = omega (arith, within.0, e)

pub slot_within : (count : ℕ) (insn : Insn) (slot : ℕ) → LocalsWithin count insn → slot_of insn ≡ Some slot → slot < count
slot_within count (insns.Local op k) slot within e = let same : k ≡ slot = cc in slot_by count slot k (is_of_two_slots op) within same
slot_within count (insns.Inc k by) slot within e = let same : k ≡ slot = cc in omega (arith, within.0, same)
slot_within count _ slot within e = cc

-- ---- ids that are pushed

module _ (b : Body) (first : ℕ) (plan : Plan) (is : plan ≡ plan_of b first) (code : IsCode b.code) (integers : ℕ) (enough : plan.next ≤ most_short + 1 + integers) where
  -- the id of a branch of the body
  listed_pushed : (x : Branch) → Contains (branches b.code) x → IsPushed integers (probe_of b first x)
  listed_pushed x c = by (is_probed b x) refl
    where
      by : (t : Bool) → is_probed b x ≡ t → IsPushed integers (id_if t (id_of b first x))
      by true e =
          let next : plan.next ≡ first + probe_count b = ap (λ (q : Plan). q.next) is in
          omega (arith, next, enough, (ids_within b first x c e).1)
      by false e = tt

  listed_at : (i : ℕ) (x : Branch) → i < length b.code → Contains (branches_of i (insn_at b.code i)) x → Contains (branches b.code) x
  listed_at i x lt c = found_at b first (narrow fetches.Member) (unplaced (λ n. 0)) code i (flow_of (insn_at b.code i)) x lt refl c

  pub lead_pushed : (i : ℕ) → i < length b.code → IsPushed integers (lead_probe b first i)
  lead_pushed zero lt = tt
  lead_pushed (suc i) lt = by (lead_probe b first (suc i)) refl
    where
      within : i < length b.code
      within = omega (arith, lt)

      by : (o : Option ℕ) → lead_probe b first (suc i) ≡ o → IsPushed integers o
      by None e = tt
      by (Some id) e =
          let insn = insn_at b.code i in
          let on = fallen_before b first (narrow fetches.Member) (unplaced (λ n. 0)) code i id within e in
          let listed = sequence_listed b first (narrow fetches.Member) (unplaced (λ n. 0)) code (flow_of insn) i (targets_of insn) on in
          let same : probe_of b first (sequence i) ≡ Some id = ap (lead_probe b first) (add-one i) ∙ e in
          subst (IsPushed integers) same (listed_pushed (sequence i) (listed_at i (sequence i) within listed))

  branch_pushed : (x : Branch) → Contains (branches b.code) x → IsPushed integers (out_probe b first x)
  branch_pushed x c = by x.way (listed_pushed x c)
    where
      by : (way : Way) → IsPushed integers (probe_of b first x) → IsPushed integers (out_by way (probe_of b first x))
      by (Falls to) h = tt
      by (Jumps to) h = h
      by (Switches to) h = h
      by Exits h = h

  outs_by_list : (xs : List Branch) (k : ℕ) → ((x : Branch) → Contains xs x → Contains (branches b.code) x)
      → IsPushed integers (get_or (map (out_probe b first) xs) k None)
  outs_by_list [] k listed = tt
  outs_by_list (x ∷ xs) zero listed = branch_pushed x (listed x (first_in x xs))
  outs_by_list (x ∷ xs) (suc k) listed = outs_by_list xs k (λ y c. listed y (later_in x xs y c))

  pub outs_pushed : (i k : ℕ) → i < length b.code → IsPushed integers (get_or (out_probes b first i (insn_at b.code i)) k None)
  outs_pushed i k lt = outs_by_list (branches_of i (insn_at b.code i)) k (λ x c. listed_at i x lt c)

-- ---- conditional jumps

module _ (b : Body) (first : ℕ) (fetch : Fetch) (i : ℕ) (insn : Insn) where
  pub tests_is : (o : Option ℕ)
      → image (test_image (land_of b first (narrow fetch)) (lead_of b first (narrow fetch) (i + 1)) insn o) i None ∷ hop_part (land_of b first (narrow fetch)) o (jump_target insn)
      ≡ tests_part b first (narrow fetch) i insn o
  tests_is None = refl
  tests_is (Some id) = refl

pub test_image_is : (land : ℕ → ℕ) (lands : List ℕ) (next next' : ℕ) (insn : Insn) (o : Option ℕ) → IsTableOf land lands
    → LeadsWithin (length lands) insn → next' ≡ next → test_image (slice_index lands) next' insn o ≡ test_image land next insn o
test_image_is land lands next next' insn None is within e = led_agrees land lands insn is within
test_image_is land lands next next' insn (Some id) is within e = ap (λ n. inverted n insn) e

-- the target of a conditional jump is one of the places to which it leads
pub test_within : (count : ℕ) (insn : Insn) → flow_of insn ≡ flows.Branches → LeadsWithin count insn → jump_target insn < count
test_within count insn e within = (subst (AllByRecursion (λ to. to < count)) (tests_target insn e) within).0

pub grows_test : (integer : ℕ → ℕ) (v : ℕ) (b : Body) (first : ℕ) (fetch : Fetch) (i : ℕ) (insn new : Insn) (o : Option ℕ) (old mid end : Written)
    → new ≡ test_image (land_of b first (narrow fetch)) (lead_of b first (narrow fetch) (i + 1)) insn o
    → Grows integer v old mid (image new i None ∷ []) → Grows integer v mid end (hop_part (land_of b first (narrow fetch)) o (jump_target insn))
    → Grows integer v old end (tests_part b first (narrow fetch) i insn o)
grows_test integer v b first fetch i insn new o old mid end is front behind =
    let land = land_of b first (narrow fetch) in
    let to = jump_target insn in
    subst (Grows integer v old end) (ap (λ (n : Insn). image n i None ∷ hop_part land o to) is ∙ tests_is b first fetch i insn o)
    (grows_append integer v old mid end (image new i None ∷ []) (hop_part land o to) front behind)

-- ---- switches

module _ (b : Body) (first : ℕ) (fetch : Fetch) (i : ℕ) (e : flow_of (insn_at b.code i) ≡ flows.Switches) where
  abbrev switch : Insn
  switch = insn_at b.code i

  abbrev seen : List ℕ
  seen = first_seen (targets_of switch)

  arms_are : arms_at b.code i ≡ map_from (arm i) 0 seen
  arms_are = ap (arms_by i switch) e ∙ ap (λ f. branches_by f i (targets_of switch)) e

  ids_are : out_probes b first i switch ≡ map (probe_of b first) (map_from (arm i) 0 seen)
  ids_are = outs_switch b first i e ∙ ap (map (probe_of b first)) arms_are

  pub switch_ids : length (out_probes b first i switch) ≡ length seen
  switch_ids = ap length ids_are ∙ length_ids (probe_of b first) i 0 seen

  pub switch_image : (lands table : List ℕ) (ids : List (Option ℕ)) (here : ℕ) → IsTableOf (land_of b first (narrow fetch)) lands
      → LeadsWithin (length lands) switch → ids ≡ out_probes b first i switch → here ≡ image_of b first (narrow fetch) i + 1
      → ((to : ℕ) → Contains seen to → get_or table to 0 ≡ arm_place_in (slice_index lands) here seen ids to)
      → with_places (slice_index table) switch
      ≡ with_places (arm_place (probe_of b first) (land_of b first (narrow fetch)) (image_of b first (narrow fetch) i + 1) (arms_at b.code i)) switch
  switch_image lands table ids here is within same place each =
      let probe = probe_of b first in
      let land = land_of b first (narrow fetch) in
      let front = image_of b first (narrow fetch) i + 1 in
      places_agree (slice_index table) (arm_place probe land front (arms_at b.code i)) switch
      (λ to has.
      each to (first_seen_all (targets_of switch) to has)
      ∙ ap₂ (λ (o : List (Option ℕ)) (h : ℕ). arm_place_in (slice_index lands) h seen o to) (same ∙ ids_are) place
      ∙ arms_agree probe i (slice_index lands) land 0 front seen to (is to (each_contains (λ t. t < length lands) (targets_of switch) within to has))
      ∙ ap (λ (l : List Branch). arm_place probe land front l to) (sym arms_are))

  pub switch_parts : (ids : List (Option ℕ)) → ids ≡ out_probes b first i switch
      → pieces (arm_part_in (land_of b first (narrow fetch)) seen ids) (length seen) ≡ arm_parts (land_of b first (narrow fetch)) (probe_of b first) (arms_at b.code i)
  switch_parts ids same =
      ap (λ (o : List (Option ℕ)). pieces (arm_part_in (land_of b first (narrow fetch)) seen o) (length seen)) (same ∙ ids_are)
      ∙ arm_pieces (probe_of b first) i (land_of b first (narrow fetch)) 0 seen
      ∙ ap (arm_parts (land_of b first (narrow fetch)) (probe_of b first)) (sym arms_are)

-- ---- what belongs to an instruction

pub main_by : (integer : ℕ → ℕ) (v : ℕ) (b : Body) (first : ℕ) (fetch : Fetch) (at : ℕ) (old new : Written) (flow : Flow) → flow_of (insn_at b.code at) ≡ flow
    → Grows integer v old new (image_part b first (narrow fetch) at (insn_at b.code at) flow)
    → Grows integer v old new (image_part b first (narrow fetch) at (insn_at b.code at) (flow_of (insn_at b.code at)))
main_by integer v b first fetch at old new flow e grows = subst (λ f. Grows integer v old new (image_part b first (narrow fetch) at (insn_at b.code at) f)) (sym e) grows

pub early_pushed : (integers : ℕ) (flow : Flow) (ids : List (Option ℕ)) → ((k : ℕ) → IsPushed integers (get_or ids k None)) → IsPushed integers (early_in flow ids)
early_pushed integers flows.GoesOn ids each = tt
early_pushed integers flows.Branches ids each = tt
early_pushed integers flows.Jumps ids each = each 0
early_pushed integers flows.Switches ids each = tt
early_pushed integers flows.Returns ids each = each 0
early_pushed integers flows.Throws ids each = each 0
