-- The twin that the function gives goes on where it should, at each of its instructions.
use Rattle.std.proofs.Common.{◌≡◌, inl, inr, ⊎_elim, ℕ, zero, suc, ◌+◌, ◌<◌, Bool, true, false, List, [], ◌∷◌, ◌++◌, map, length, Option, Some, None, refl, sym, ap, ◌∙◌, subst, arith, add-one, zero-add}
use Rattle.std.specs.Prelude.{slice_get, Contains}
use Rattle.std.specs.List.{AllByRecursion}
use Rattle.std.proofs.lemmas.Bool.{cases_lt}
use Rattle.std.proofs.lemmas.Option.{slice_get-get_or}
use Rattle.jc_bytes.specs.PlainLists.{pieces, total}
use Rattle.jc_bytes.specs.FirstSeen.{first_seen}
use Rattle.jc_methods.specs.Flow.{flow_of, targets_of, FallsThrough, jump_target}
use Rattle.jc_methods.specs.Insn.{with_places, IsWellFormed}
use Rattle.jc_methods.specs.WellMade.{IsCode}
use Rattle.jc_methods.specs.declared.insn.Insn.{Insn}
use Rattle.jc_methods.specs.declared.insn.Flow.{Flow}
use Rattle.jc_methods.specs.declared.body.Body.{Body}
use Rattle.jc_methods.specs.declared.probe_members.Fetch.{Fetch}
use Rattle.jc_methods.specs.declared.probe_members.Fetch.TheVariants as fetches
use Rattle.jc_plan.specs.declared.branch.Branch.{Branch}
use Rattle.jc_plan.specs.Edges.{place_of, sequence, jump, branches_by}
use Rattle.jc_plan.specs.Probed.{probe_of}
use Rattle.jc_plan.specs.Plan.{lead_probe}
use Rattle.jc_bytes.proofs.FirstSeenLaws.{first_seen_listed}
use Rattle.jc_plan.proofs.ByBranchLaws.{last_parts}
use Rattle.jc_emit.specs.Sizes.{TwinForm, is_wide, insn_at, early_by, early_probe, late_by, late_probe, arms_at, probe_size, hop_size, wide_by, behind_size}
use Rattle.jc_methods.specs.Widened.{inverted}
use Rattle.jc_emit.specs.TwinCode.{to_of, here_or, arm_place}
use Rattle.jc_emit.specs.Marks.{TwinPlaces, unplaced, prelude_size}
use Rattle.jc_emit.specs.Items.{Item, image, probe_array, hop, prelude, probe, lead_part, early_part, hop_part, arm_parts, test_part, segment_size, lead_of, land_of, image_of, tests_part, image_part, segment, twin_items}
use Rattle.jc_emit.specs.Local.{Stands, Lands, LandsBehind, Ok, OkImage, IsOfEdgeTo, AllOk, TestsAlike, TestsInversely, SwitchesAlike, JumpsAlike}
use Rattle.jc_emit.proofs.PiecesLaws.{HasAt, has_front, has_back, Each, each_append, each_at, each_piece}
use Rattle.jc_emit.proofs.BuiltLaws.{length_prelude, length-lead, length-early, length-hop, sized, size_is, size_tests, prelude_at, starts_at}
use Rattle.jc_emit.proofs.ToldLaws.{lead_at, early_at, main_at}
use Rattle.jc_emit.proofs.OthersLaws.{Arms, arm_way, Agrees, agrees_here, agrees_rest, arm_listed, tests_target, jumps_target, none_some, found_at, sequence_listed, fallen_before, arms_is, are_arms_at}
use Rattle.jc_emit.proofs.InverseLaws.{twice_inverse}
use Rattle.jc_methods.specs.declared.insn.Insn.TheVariants as insns
use Rattle.jc_methods.specs.declared.insn.Flow.TheVariants as flows
use Rattle.jc_methods.proofs.ByFlowLaws.{IsJumpOf, insn_by, jump_is, jump_placed}
use Rattle.jc_bytes.proofs.BooleanLaws.{none_in, which_in, first_in, later_in}
use Rattle.jc_bytes.proofs.ListLaws.{each_in}

-- ---- conditional jumps

pub test_is : (insn : Insn) → flow_of insn ≡ flows.Branches → IsJumpOf insn
test_is insn e = jump_is insn (insn_by insn e)

pub placed_target : (insn : Insn) (f : ℕ → ℕ) → flow_of insn ≡ flows.Branches → jump_target (with_places f insn) ≡ f (jump_target insn)
placed_target insn f e = let j = test_is insn e in subst (λ x. jump_target (with_places f x) ≡ f (jump_target x)) (sym j.is) refl

inverted_placed : (insn : Insn) (t : ℕ) (f : ℕ → ℕ) → flow_of insn ≡ flows.Branches → inverted t (with_places f insn) ≡ inverted t insn
inverted_placed insn t f e = let j = test_is insn e in subst (λ x. inverted t (with_places f x) ≡ inverted t x) (sym j.is) refl

pub inverted_target : (insn : Insn) (t : ℕ) → flow_of insn ≡ flows.Branches → jump_target (inverted t insn) ≡ t
inverted_target insn t e = let j = test_is insn e in subst (λ x. jump_target (inverted t x) ≡ t) (sym j.is) refl

inverted_twice : (insn : Insn) (t l : ℕ) → flow_of insn ≡ flows.Branches → IsWellFormed insn
    → inverted t (inverted l insn) ≡ with_places (λ to. t) insn
inverted_twice insn t l e formed =
    let j = test_is insn e in
    let form = subst IsWellFormed j.is formed in
    let tests = sym (ap flow_of j.is) ∙ e in
    subst (λ x. inverted t (inverted l x) ≡ with_places (λ to. t) x) (sym j.is) (ap (λ op. insns.Jump op t) (twice_inverse j.op j.to form tests))

module _ (b : Body) (first : ℕ) (form : TwinForm) (is_code : IsCode b.code) where
  abbrev items : List Item
  items = twin_items b first form

  abbrev ids : Branch → Option ℕ
  ids x = probe_of b first x

  abbrev q_of : ℕ → ℕ
  q_of i = image_of b first form i

  abbrev land : ℕ → ℕ
  land i = land_of b first form i

  abbrev lead : ℕ → ℕ
  lead i = lead_of b first form i

  abbrev old : ℕ → Insn
  old i = insn_at b.code i

  abbrev main : ℕ → Flow → List Item
  main i flow = image_part b first form i (old i) flow

  abbrev On : ℕ → ℕ → Option ℕ → Type 0
  On q at due = Stands b.code (Some b.arg_slots) (probe_of b first) items q at due

  abbrev In : ℕ → ℕ → Option ℕ → Type 0
  In q at due = Lands b.code (Some b.arg_slots) (probe_of b first) items q at due

  abbrev Fine : ℕ → Item → Type 0
  Fine q x = Ok b.code (Some b.arg_slots) (probe_of b first) items q x

  abbrev Alike : ℕ → Insn → Type 0
  Alike i new = TestsAlike b.code (Some b.arg_slots) (probe_of b first) items (q_of i) i (old i) new

  abbrev Inversely : ℕ → Insn → Type 0
  Inversely i new = TestsInversely b.code (Some b.arg_slots) (probe_of b first) items (q_of i) i (old i) new

  abbrev Switches : ℕ → Insn → Type 0
  Switches i new = SwitchesAlike b.code (Some b.arg_slots) (probe_of b first) items i (old i) new

  abbrev Jumps : ℕ → Insn → Type 0
  Jumps i new = JumpsAlike b.code (Some b.arg_slots) (probe_of b first) items (old i) new

  -- what stands where doesn't depend on the places of the pool
  abbrev any_places : TwinPlaces
  any_places = unplaced (λ n. 0)

  -- ---- where it can go on

  image_lands : (q i : ℕ) (insn : Insn) (early : Option ℕ) → early ≡ None → slice_get items q ≡ Some (image insn i early) → In q i None
  image_lands q i insn early none h = record {
    stands = record { item = image insn i early; here = h; at_is = refl; pushed = refl; due_is = refl; no_early = none; behind = tt };
    no_hop = tt;
  }

  pub late_lands : (q id at : ℕ) → slice_get items q ≡ Some (probe_array id at true) → In q at (Some id)
  late_lands q id at h = record {
    stands = record { item = probe_array id at true; here = h; at_is = refl; pushed = refl; due_is = refl; no_early = refl; behind = tt };
    no_hop = tt;
  }

  early_lands : (q id at : ℕ) → slice_get items q ≡ Some (probe_array id at false) → In q at None
  early_lands q id at h = record {
    stands = record { item = probe_array id at false; here = h; at_is = refl; pushed = refl; due_is = refl; no_early = refl; behind = tt };
    no_hop = tt;
  }

  hop_on : (q to at : ℕ) (due : Option ℕ) → slice_get items q ≡ Some (hop to at due) → On q at due
  hop_on q to at due h =
      record { item = hop to at due; here = h; at_is = refl; pushed = refl; due_is = refl; no_early = refl; behind = tt }

  test_lands : (w : Bool) (q i : ℕ) (insn : Insn) (on : ℕ) (due : Option ℕ) (rest : List Item)
      → HasAt items q (test_part w q insn i on due ++ rest) → In q i None
  test_lands false q i insn on due rest h = image_lands q i insn None refl h.0
  test_lands true q i insn on due rest h = image_lands q i (inverted (q + 2) insn) None refl h.0

  tests_land : (i : ℕ) (insn : Insn) (o : Option ℕ) → HasAt items (q_of i) (tests_part b first form i insn o) → In (q_of i) i None
  tests_land i insn None h = plain (is_wide form i) h
    where
      plain : (w : Bool) → HasAt items (q_of i) (test_part w (q_of i) (with_places (land_of b first form) insn) i (jump_target insn) None)
          → In (q_of i) i None
      plain false h = image_lands (q_of i) i _ None refl h.0
      plain true h = image_lands (q_of i) i _ None refl h.0
  tests_land i insn (Some id) h = test_lands (is_wide form i) (q_of i) i (inverted (lead (i + 1)) insn) (i + 1) (lead_probe b first (i + 1)) _ h

  main_lands : (i : ℕ) (flow : Flow) → early_probe b first i ≡ None → HasAt items (q_of i) (main i flow) → In (q_of i) i None
  main_lands i flows.GoesOn none h = image_lands (q_of i) i _ None refl h.0
  main_lands i flows.Branches none h = tests_land i (old i) (late_probe b first i) h
  main_lands i flows.Jumps none h = image_lands (q_of i) i _ (early_probe b first i) none h.0
  main_lands i flows.Switches none h = image_lands (q_of i) i _ None refl h.0
  main_lands i flows.Returns none h = image_lands (q_of i) i _ (early_probe b first i) none h.0
  main_lands i flows.Throws none h = image_lands (q_of i) i _ (early_probe b first i) none h.0

  pub land_lands : (i : ℕ) → i < length b.code → In (land i) i None
  land_lands i lt = by (early_probe b first i) refl (early_at b first form any_places i lt)
    where
      by : (o : Option ℕ) → early_probe b first i ≡ o → HasAt items (land i) (early_part o i) → In (land i) i None
      by None none h =
          let e : q_of i ≡ land i = ap (λ o. land i + probe_size o) none ∙ omega arith in
          subst (λ q. In q i None) e (main_lands i (flow_of (old i)) none (main_at b first form any_places i lt))
      by (Some id) some h = early_lands (land i) id i h.0

  pub lead_lands : (i : ℕ) → i < length b.code → In (lead i) i (lead_probe b first i)
  lead_lands i lt = by (lead_probe b first i) refl (lead_at b first form any_places i lt)
    where
      by : (o : Option ℕ) → lead_probe b first i ≡ o → HasAt items (lead i) (lead_part o i) → In (lead i) i o
      by None none h =
          let e : land i ≡ lead i = ap (λ o. lead i + probe_size o) none ∙ omega arith in
          subst (λ q. In q i None) e (land_lands i lt)
      by (Some id) some h = late_lands (lead i) id i h.0

  -- behind the probe of a fall-through
  abbrev Behind : ℕ → ℕ → Option ℕ → Type 0
  Behind q at due = LandsBehind b.code (Some b.arg_slots) (probe_of b first) items q at due

  lead_behind : (i : ℕ) → i < length b.code → Behind (lead i) i (lead_probe b first i)
  lead_behind i lt = by (lead_probe b first i) refl
    where
      by : (o : Option ℕ) → lead_probe b first i ≡ o → Behind (lead i) i o
      by None none = tt
      by (Some id) some =
          let e : land i ≡ lead i + 4 = ap (λ o. lead i + probe_size o) some in
          subst (λ q. In q i None) e (land_lands i lt)

  -- ---- what follows

  pub next_within : (i : ℕ) → i < length b.code → FallsThrough (old i) → i + 1 < length b.code
  next_within i lt falls =
      ⊎_elim (λ more. more)
      (λ over.
      let last : i + 1 ≡ length b.code = omega arith in
      let parts = last_parts b.code i (old i) (slice_get-get_or b.code i (insns.Simple 0) lt) last in
      absurd (is_code.ends parts.0 (old i) parts.1 falls))
      (cases_lt (i + 1) (length b.code))

  next_lands : (i q : ℕ) → i < length b.code → FallsThrough (old i) → q ≡ q_of i + 1 + behind_size b first form i
      → In q (i + 1) (ids (sequence i))
  next_lands i q lt falls e =
      let next : lead (i + 1) ≡ q = ap (λ k. prelude_size form.fetch + total (segment_size b first form) k) (add-one i) ∙ omega (arith, e) in
      subst (λ k. In k (i + 1) (ids (sequence i))) next (lead_lands (i + 1) (next_within i lt falls))

  pub target_within : (i : ℕ) → i < length b.code → targets_of (old i) ≡ jump_target (old i) ∷ [] → jump_target (old i) < length b.code
  target_within i lt e = (subst (λ ts. AllByRecursion (λ to. to < length b.code) ts) e (is_code.places i (insns.Simple 0) lt)).0

  -- ---- which edges have a probe behind them

  abbrev To : ℕ → ℕ → Type 0
  To id at = IsOfEdgeTo b.code (Some b.arg_slots) (probe_of b first) items id at

  edge_to : (i id to : ℕ) (flow : Flow) (x : Branch) → i < length b.code → flow_of (old i) ≡ flow
      → Contains (branches_by flow i (targets_of (old i))) x → ids x ≡ Some id → place_of x.way ≡ Some to → To id to
  edge_to i id to flow x lt e c some leads =
      record { of_branch = record { branch = x; listed = found_at b first form any_places is_code i flow x lt e c; has_id = some }; leads = leads }

  sequence_to : (i id : ℕ) → i < length b.code → lead_probe b first i ≡ Some id → To id i
  sequence_to zero id lt some = absurd (none_some id some)
  sequence_to (suc j) id lt some =
      let within : j < length b.code = omega arith in
      let up : j + 1 ≡ suc j = add-one j in
      edge_to j id (suc j) (flow_of (old j)) (sequence j) within refl
      (sequence_listed b first form any_places is_code (flow_of (old j)) j (targets_of (old j)) (fallen_before b first form any_places is_code j id within some))
      (ap (lead_probe b first) up ∙ some) (ap Some up)

  late_is : (i : ℕ) (o : Option ℕ) → flow_of (old i) ≡ flows.Branches → late_probe b first i ≡ o → ids (jump i (jump_target (old i))) ≡ o
  late_is i o e h = sym (ap (late_by (probe_of b first) i (old i)) e) ∙ h

  jump_to : (i id : ℕ) → i < length b.code → flow_of (old i) ≡ flows.Branches → late_probe b first i ≡ Some id → To id (jump_target (old i))
  jump_to i id lt e some =
      let x = jump i (jump_target (old i)) in
      let listed = later_in (sequence i) (map (jump i) (targets_of (old i))) x (subst (λ ts. Contains (map (jump i) ts) x) (sym (tests_target (old i) e)) (first_in x ([]))) in
      edge_to i id (jump_target (old i)) flows.Branches x lt e listed (late_is i (Some id) e some) refl

  arm_to : (i id : ℕ) (x : Branch) → i < length b.code → flow_of (old i) ≡ flows.Switches → Contains (arms_at b.code i) x → ids x ≡ Some id
      → To id (to_of x)
  arm_to i id x lt e c some =
      edge_to i id (to_of x) flows.Switches x lt e (subst (λ l. Contains l x) (arms_is b first form any_places is_code i e) c) some
      (ap place_of (arm_way i (arms_at b.code i) (are_arms_at b first form any_places is_code i e) x c))

  -- ---- probes

  late_fine : (q id at : ℕ) (rest : List Item) → To id at → HasAt items q (probe id at true ++ rest) → On (q + 1 + 1 + 1 + 1) at None
      → Each Fine q (probe id at true)
  late_fine q id at rest to h on = ((to, h.1.0), ((to, h.1.1.0), ((to, h.1.1.1.0), ((to, on), tt))))

  hop_fine : (q id to : ℕ) → To id to → HasAt items q (hop_part land (Some id) to) → to < length b.code
      → Each Fine q (hop_part land (Some id) to)
  hop_fine q id to edge h lt =
      each_append Fine q (probe id to true) (hop (land to) to None ∷ [])
      (late_fine q id to (hop (land to) to None ∷ []) edge h (hop_on (q + 1 + 1 + 1 + 1) (land to) to None h.1.1.1.1.0))
      ((land_lands to lt, tt), tt)

  lead_fine : (i : ℕ) → i < length b.code → Each Fine (lead i) (lead_part (lead_probe b first i) i)
  lead_fine i lt = by (lead_probe b first i) refl (lead_at b first form any_places i lt)
    where
      by : (o : Option ℕ) → lead_probe b first i ≡ o → HasAt items (lead i) (lead_part o i) → Each Fine (lead i) (lead_part o i)
      by None none h = tt
      by (Some id) some h =
          let e : land i ≡ lead i + 1 + 1 + 1 + 1 = ap (λ o. lead i + probe_size o) some ∙ omega arith in
          late_fine (lead i) id i ([]) (sequence_to i id lt some) h (subst (λ q. On q i None) e (land_lands i lt).stands)

  -- the image behind an early probe
  pub early_image : (i id : ℕ) (flow : Flow) → early_by (probe_of b first) i (old i) flow ≡ Some id → early_probe b first i ≡ Some id
      → HasAt items (q_of i) (main i flow) → (insn : Insn) × (slice_get items (q_of i) ≡ Some (image insn i (Some id)))
  early_image i id flows.GoesOn e some h = absurd (none_some id e)
  early_image i id flows.Branches e some h = absurd (none_some id e)
  early_image i id flows.Jumps e some h = (_, h.0 ∙ ap (λ o. Some (image (with_places (land_of b first form) (old i)) i o)) some)
  early_image i id flows.Switches e some h = absurd (none_some id e)
  early_image i id flows.Returns e some h = (_, h.0 ∙ ap (λ o. Some (image (old i) i o)) some)
  early_image i id flows.Throws e some h = (_, h.0 ∙ ap (λ o. Some (image (old i) i o)) some)

  early_fine : (i : ℕ) → i < length b.code → Each Fine (land i) (early_part (early_probe b first i) i)
  early_fine i lt = by (early_probe b first i) refl (early_at b first form any_places i lt)
    where
      by : (o : Option ℕ) → early_probe b first i ≡ o → HasAt items (land i) (early_part o i) → Each Fine (land i) (early_part o i)
      by None none h = tt
      by (Some id) some h =
          let e : q_of i ≡ land i + 1 + 1 + 1 + 1 = ap (λ o. land i + probe_size o) some ∙ omega arith in
          let found = early_image i id (flow_of (old i)) some some (main_at b first form any_places i lt) in
          ((some, h.1.0), ((some, h.1.1.0), ((some, h.1.1.1.0), ((some, (found.0, subst (λ q. slice_get items q ≡ Some (image found.0 i (Some id))) e found.1)), tt))))

  -- ---- switches

  -- what stands at the arm places of these branches
  abbrev arms_of : List Branch → List Item
  arms_of xs = arm_parts land (probe_of b first) xs

  -- each leads to an instruction of the body
  abbrev AreWithin : List Branch → Type 0
  AreWithin xs = (x : Branch) → Contains xs x → to_of x < length b.code

  pub listed_within : (i : ℕ) → i < length b.code → (x : Branch) → Contains (branches_by flows.Switches i (targets_of (old i))) x
      → to_of x < length b.code
  listed_within i lt x c =
      each_in (λ to. to < length b.code) (targets_of (old i)) (to_of x) (is_code.places i (insns.Simple 0) lt)
      (first_seen_listed (targets_of (old i)) (to_of x) (arm_listed i 0 (first_seen (targets_of (old i))) x c))

  arm_lands : (here : ℕ) (x : Branch) (o : Option ℕ) → HasAt items here (hop_part land o (to_of x)) → to_of x < length b.code
      → In (here_or o here (land (to_of x))) (to_of x) o
  arm_lands here x None h lt = land_lands (to_of x) lt
  arm_lands here x (Some id) h lt = late_lands here id (to_of x) h.0

  pub arms_land : (i : ℕ) (whole : ℕ → ℕ) (here : ℕ) (xs : List Branch) → Arms i xs → Agrees ids land whole here xs
      → HasAt items here (arms_of xs) → AreWithin xs → (x : Branch) → Contains xs x → In (whole (to_of x)) (to_of x) (ids x)
  arms_land i whole here [] arms a h within x c = absurd (none_in x c)
  arms_land i whole here (y ∷ xs) arms a h within x c =
      let part = hop_part land (probe_of b first y) (to_of y) in
      ⊎_elim
      (λ same.
      let place = agrees_here ids land whole here y xs a in
      let there = arm_lands here y (probe_of b first y) (has_front items here part _ h) (within y (first_in y xs)) in
      subst (λ z. In (whole (to_of z)) (to_of z) (ids z)) same (subst (λ q. In q (to_of y) (ids y)) (sym place) there))
      (λ later.
      arms_land i whole (here + hop_size (probe_of b first y)) xs arms.3 (agrees_rest ids land whole here y xs arms.0 a)
      (subst (λ k. HasAt items (here + k) (arm_parts land (probe_of b first) xs)) (length-hop land (probe_of b first y) (to_of y)) (has_back items here part _ h))
      (λ z d. within z (later_in y xs z d)) x later)
      (which_in y xs x c)

  arms_fine : (here : ℕ) (xs : List Branch) → HasAt items here (arms_of xs) → AreWithin xs
      → ((x : Branch) (id : ℕ) → Contains xs x → ids x ≡ Some id → To id (to_of x)) → Each Fine here (arms_of xs)
  arms_fine here [] h within edges = tt
  arms_fine here (x ∷ xs) h within edges =
      let o = hop_part land (probe_of b first x) (to_of x) in
      each_append Fine here o (arm_parts land (probe_of b first) xs)
      (part (probe_of b first x) refl (has_front items here o _ h))
      (subst (λ k. Each Fine (here + k) (arm_parts land (probe_of b first) xs)) (sym (length-hop land (probe_of b first x) (to_of x)))
      (arms_fine (here + hop_size (probe_of b first x)) xs
      (subst (λ k. HasAt items (here + k) (arm_parts land (probe_of b first) xs)) (length-hop land (probe_of b first x) (to_of x)) (has_back items here o _ h))
      (λ z d. within z (later_in x xs z d)) (λ z id d. edges z id (later_in x xs z d))))
    where
      part : (o : Option ℕ) → ids x ≡ o → HasAt items here (hop_part land o (to_of x)) → Each Fine here (hop_part land o (to_of x))
      part None e h = tt
      part (Some id) e h = hop_fine here id (to_of x) (edges x id (first_in x xs) e) h (within x (first_in x xs))

  -- ---- images

  -- the image of an instruction of this flow is what it should be
  abbrev FineImage : (q i : ℕ) → Insn → Flow → Type 0
  FineImage q i new flow = OkImage b.code (Some b.arg_slots) (probe_of b first) items q i (old i) new flow

  image_fine : (q i : ℕ) (new : Insn) (early : Option ℕ) (flow : Flow) → i < length b.code → flow_of (old i) ≡ flow
      → early ≡ early_by (probe_of b first) i (old i) flow
      → FineImage q i new flow → Fine q (image new i early)
  image_fine q i new early flow lt e h ok =
      (lt, h ∙ sym (ap (early_by (probe_of b first) i (old i)) e), subst (OkImage b.code (Some b.arg_slots) (probe_of b first) items q i (old i) new) (sym e) ok)

  behind_tests : (i : ℕ) (o : Option ℕ) → flow_of (old i) ≡ flows.Branches → late_probe b first i ≡ o
      → behind_size b first form i ≡ wide_by flows.Branches (is_wide form i) + hop_size o + 0
  behind_tests i o e h = size_tests b first form i e ∙ ap (λ p. wide_by flows.Branches (is_wide form i) + hop_size p + 0) h

  -- a conditional jump without a probe, and one with a probe
  abbrev plain_test : Bool → ℕ → List Item
  plain_test w i = test_part w (q_of i) (with_places land (old i)) i (jump_target (old i)) None

  abbrev probed_test : Bool → (i id : ℕ) → List Item
  probed_test w i id =
      test_part w (q_of i) (inverted (lead (i + 1)) (old i)) i (i + 1) (lead_probe b first (i + 1))
      ++ hop_part land (Some id) (jump_target (old i))

  -- where these items stand at q, each of them is what it should be
  abbrev AreFineAt : ℕ → List Item → Type 0
  AreFineAt q xs = HasAt items q xs → Each Fine q xs

  plain_fine : (w : Bool) (i : ℕ) → i < length b.code → (e : flow_of (old i) ≡ flows.Branches) → late_probe b first i ≡ None
      → behind_size b first form i ≡ wide_by flows.Branches w + 0 + 0 → AreFineAt (q_of i) (plain_test w i)
  plain_fine false i lt e none size h =
      let to = jump_target (old i) in
      let within = target_within i lt (tests_target (old i) e) in
      let next = next_lands i (q_of i + 1) lt (inr e) (omega (arith, size)) in
      let alike : Alike i (with_places land (old i)) =
      record {
        target = land to;
        same = jump_placed land (old i) (insn_by (old i) e);
        jumped = subst (In (land to) to) (sym (late_is i None e none)) (land_lands to within);
        fell = next.stands;
      } in
      (image_fine (q_of i) i _ None flows.Branches lt e refl (inl alike), tt)
  plain_fine true i lt e none size h =
      let to = jump_target (old i) in
      let within = target_within i lt (tests_target (old i) e) in
      let next = next_lands i (q_of i + 2) lt (inr e) (omega (arith, size)) in
      let inversely : Inversely i (inverted (q_of i + 2) (with_places land (old i))) = record {
        target = q_of i + 2;
        inverse = inverted_placed (old i) (q_of i + 2) land e;
        jumped = next;
        fell = subst (On (q_of i + 1) to) (sym (late_is i None e none)) (hop_on (q_of i + 1) _ to None h.1.0);
      } in (
        image_fine (q_of i) i _ None flows.Branches lt e refl (inr inversely),
        ((subst (λ q. In q to None) (sym (placed_target (old i) land e)) (land_lands to within), tt), tt),
      )

  probed_fine : (w : Bool) (i id : ℕ) → i < length b.code → (e : flow_of (old i) ≡ flows.Branches) → late_probe b first i ≡ Some id
      → AreFineAt (q_of i) (probed_test w i id)
  probed_fine false i id lt e some h =
      let to = jump_target (old i) in
      let within = target_within i lt (tests_target (old i) e) in
      let inversely : Inversely i (inverted (lead (i + 1)) (old i)) = record {
        target = lead (i + 1);
        inverse = refl;
        jumped = lead_lands (i + 1) (next_within i lt (inr e));
        fell = subst (On (q_of i + 1) to) (sym (late_is i (Some id) e some)) (late_lands (q_of i + 1) id to h.1.0).stands;
      } in
      (image_fine (q_of i) i _ None flows.Branches lt e refl (inr inversely), hop_fine (q_of i + 1) id to (jump_to i id lt e some) h.1 within)
  probed_fine true i id lt e some h =
      let to = jump_target (old i) in
      let within = target_within i lt (tests_target (old i) e) in
      let two : q_of i + 1 + 1 ≡ q_of i + 2 = omega arith in
      let alike : Alike i (inverted (q_of i + 2) (inverted (lead (i + 1)) (old i))) = record {
        target = q_of i + 2;
        same = inverted_twice (old i) (q_of i + 2) (lead (i + 1)) e (is_code.well_formed i (insns.Simple 0) lt);
        jumped = subst (In (q_of i + 2) to) (sym (late_is i (Some id) e some)) (subst (λ q. In q to (Some id)) two (late_lands (q_of i + 1 + 1) id to h.1.1.0));
        fell = hop_on (q_of i + 1) _ (i + 1) (lead_probe b first (i + 1)) h.1.0;
      } in (
        image_fine (q_of i) i _ None flows.Branches lt e refl (inl alike),
        (
          subst (λ q. In q (i + 1) (lead_probe b first (i + 1)) × Behind q (i + 1) (lead_probe b first (i + 1))) (sym (inverted_target (old i) (lead (i + 1)) e))
              (lead_lands (i + 1) (next_within i lt (inr e)), lead_behind (i + 1) (next_within i lt (inr e))),
          hop_fine (q_of i + 1 + 1) id to (jump_to i id lt e some) h.1.1 within,
        ),
      )

  tests_fine : (i : ℕ) → i < length b.code → flow_of (old i) ≡ flows.Branches → (o : Option ℕ) → late_probe b first i ≡ o
      → HasAt items (q_of i) (tests_part b first form i (old i) o) → Each Fine (q_of i) (tests_part b first form i (old i) o)
  tests_fine i lt e None none h = plain_fine (is_wide form i) i lt e none (behind_tests i None e none) h
  tests_fine i lt e (Some id) some h = probed_fine (is_wide form i) i id lt e some h

  main_fine : (i : ℕ) (flow : Flow) → i < length b.code → flow_of (old i) ≡ flow → HasAt items (q_of i) (main i flow)
      → Each Fine (q_of i) (main i flow)
  main_fine i flows.GoesOn lt e h =
      (image_fine (q_of i) i _ None flows.GoesOn lt e refl (refl, next_lands i (q_of i + 1) lt (inl e) (omega (arith, size_is b first form i flows.GoesOn e))), tt)
  main_fine i flows.Branches lt e h = tests_fine i lt e (late_probe b first i) refl h
  main_fine i flows.Jumps lt e h =
      let to = jump_target (old i) in
      let alike : Jumps i (with_places land (old i)) =
      record {
        target = land to;
        same = jump_placed land (old i) (insn_by (old i) e);
        jumped = land_lands to (target_within i lt (jumps_target (old i) e));
      } in
      (image_fine (q_of i) i _ (early_probe b first i) flows.Jumps lt e (ap (early_by (probe_of b first) i (old i)) e) alike, tt)
  main_fine i flows.Switches lt e h =
      let list = arms_is b first form any_places is_code i e in
      let within : AreWithin (arms_at b.code i) = λ x c. listed_within i lt x (subst (λ l. Contains l x) list c) in
      let alike : Switches i (with_places (arm_place (probe_of b first) land (q_of i + 1) (arms_at b.code i)) (old i)) = record {
        place = arm_place (probe_of b first) land (q_of i + 1) (arms_at b.code i);
        same = refl;
        each = λ x c. arms_land i (arm_place (probe_of b first) land (q_of i + 1) (arms_at b.code i)) (q_of i + 1) (arms_at b.code i)
            (are_arms_at b first form any_places is_code i e) (λ y d. refl) h.1 within x
            (subst (λ l. Contains l x) (sym list) (subst (λ f. Contains (branches_by f i (targets_of (old i))) x) e c));
      } in
      (image_fine (q_of i) i _ None flows.Switches lt e refl alike, arms_fine (q_of i + 1) (arms_at b.code i) h.1 within (λ x id c some. arm_to i id x lt e c some))
  main_fine i flows.Returns lt e h =
      (image_fine (q_of i) i _ (early_probe b first i) flows.Returns lt e (ap (early_by (probe_of b first) i (old i)) e) refl, tt)
  main_fine i flows.Throws lt e h =
      (image_fine (q_of i) i _ (early_probe b first i) flows.Throws lt e (ap (early_by (probe_of b first) i (old i)) e) refl, tt)

  segment_fine : (i : ℕ) → i < length b.code → Each Fine (lead i) (segment b first form i)
  segment_fine i lt =
      each_append Fine (lead i) (lead_part (lead_probe b first i) i) _ (lead_fine i lt)
      (subst (λ k. Each Fine (lead i + k) (early_part (early_probe b first i) i ++ main i (flow_of (old i)))) (sym (length-lead (lead_probe b first i) i))
      (each_append Fine (land i) (early_part (early_probe b first i) i) _ (early_fine i lt)
      (subst (λ k. Each Fine (land i + k) (main i (flow_of (old i)))) (sym (length-early (early_probe b first i) i))
      (main_fine i (flow_of (old i)) lt refl (main_at b first form any_places i lt)))))

  start_lands : In (prelude_size form.fetch) 0 None
  start_lands =
      let first_place : lead 0 ≡ prelude_size form.fetch = omega arith in
      subst (λ q. In q 0 None) first_place (lead_lands 0 is_code.some)

  prelude_fine : (fetch : Fetch) → HasAt items 0 (prelude fetch) → In (prelude_size fetch) 0 None → Each Fine 0 (prelude fetch)
  prelude_fine fetches.Member h on =
      (record { place = refl; within = omega arith; next = h.1.0 }, (record { place = refl; within = omega arith; next = on }, tt))
  prelude_fine fetches.Constant h on = (
    record { place = refl; within = omega arith; next = h.1.0 },
    (
      record { place = refl; within = omega arith; next = h.1.1.0 },
      (record { place = refl; within = omega arith; next = on }, tt),
    ),
  )

  front_fine : Each Fine 0 (prelude form.fetch)
  front_fine = prelude_fine form.fetch (prelude_at b first form) start_lands

  all_fine : Each Fine 0 items
  unfolding twin_items
  all_fine =
      each_append Fine 0 (prelude form.fetch) (pieces (segment b first form) (length b.code)) front_fine
      (subst (λ k. Each Fine k (pieces (segment b first form) (length b.code))) (sym (zero-add (length (prelude form.fetch)) ∙ length_prelude form.fetch))
      (each_piece Fine (segment b first form) (segment_size b first form) (sized b first form) (prelude_size form.fetch) (length b.code) (λ i lt. segment_fine i lt)))

  pub twin_ok : AllOk b.code (Some b.arg_slots) (probe_of b first) items
  twin_ok = record {
    ok = λ q x h. subst (λ k. Fine k x) (zero-add q) (each_at Fine 0 items q x all_fine h);
    start = (form.fetch, starts_at b first form);
  }
