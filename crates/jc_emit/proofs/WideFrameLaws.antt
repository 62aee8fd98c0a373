-- The frames behind conditional jumps, and the whole of what the function gives.
use Rattle.std.proofs.Common.{◌≡◌, inr, ⊎_elim, ℕ, suc, ◌+◌, ◌<◌, ◌≤◌, Bool, true, false, ◌&&◌, ◌||◌, List, [], ◌++◌, map, length, Option, Some, None, refl, sym, ap, ap₂, ◌∙◌, subst, arith, add-one}
use Rattle.std.specs.Prelude.{Contains, is_some, is_none, slice_index_or}
use Rattle.std.proofs.lemmas.Bool.{and_parts, and_from, and_left, or_cases, or_left, cases_lt, both_ways}
use Rattle.std.proofs.lemmas.List.Elements.{Contains-append_cases}
use Rattle.jc_bytes.specs.PlainLists.{pieces}
use Rattle.jc_methods.specs.Flow.{flow_of}
use Rattle.jc_methods.specs.WellMade.{IsCode, AreFramesFrom, IsWellMadeOfAnySize}
use Rattle.jc_methods.specs.VerificationTypes.{type_state}
use Rattle.jc_methods.specs.declared.insn.Flow.{Flow}
use Rattle.jc_methods.specs.declared.kind.State.{State}
use Rattle.jc_methods.specs.declared.body.Body.{Body}
use Rattle.jc_methods.specs.declared.body.FrameAt.{FrameAt}
use Rattle.jc_methods.specs.declared.probe_members.Fetch.{Fetch}
use Rattle.jc_plan.specs.declared.branch.Branch.{Branch}
use Rattle.jc_plan.specs.Probed.{probe_of}
use Rattle.jc_plan.specs.Plan.{lead_probe}
use Rattle.jc_methods.specs.FrameOrder.{RiseFrom}
use Rattle.jc_kinds_after.specs.Shift.{shifted}
use Rattle.jc_emit.specs.Shift.{probe_array_class}
use Rattle.jc_emit.specs.Sizes.{TwinForm, narrow, insn_at, late_probe, arms_by, arms_at, probe_size, hop_size, arm_sizes, behind_size}
use Rattle.jc_emit.specs.Marks.{unplaced, image_place, land_place, lead_place}
use Rattle.jc_emit.specs.TwinTables.{AreMovedTables, moved_row, moved_line, moved_var}
use Rattle.jc_emit.specs.TwinFrames.{state_at, left_by, state_behind, IsFrameBehind, IsFrame, AreTwinFrames}
use Rattle.jc_emit.specs.Items.{own_of, segment_size, lead_of, land_of, image_of, twin_items}
use Rattle.jc_emit.specs.Emission.{Emitting, frame, frame_if, moved_state, has_frame, has_inverse, arm_frames, frames_at, tests_by, wide_frames_at, emission}
use Rattle.jc_emit.specs.Stages.{is_framed_behind}
use Rattle.jc_emit.specs.Twin.{IsWideFrameOf, IsEmitted}
use Rattle.jc_emit.proofs.BuiltLaws.{size_tests}
use Rattle.jc_emit.proofs.EndsLaws.{images_are, lands_are, leads_are}
use Rattle.jc_emit.proofs.LocalLaws.{next_within}
use Rattle.jc_emit.proofs.RowLaws.{total_grows}
use Rattle.jc_emit.proofs.WholeLaws.{code_told}
use Rattle.jc_emit.proofs.FrameListsLaws.{rises_from, rises_pieces, are_rising, rises_within, in_piece, of_piece, if_listed, listed_if, rises_if}
use Rattle.jc_emit.proofs.FrameLaws.{arms_rise, part_rises, land_listed, none_is, seen_is, layout_told}
use Rattle.jc_methods.specs.declared.insn.Flow.TheVariants as flows
use Rattle.jc_bytes.proofs.BooleanLaws.{none_in}

module _ (b : Body) (first : ℕ) (states : List State) (given : Emitting) (names : List (List ℕ)) (is_code : IsCode b.code) (are_frames : AreFramesFrom 0 b.code b.max_locals b.max_stack b.frames)
    (fit : (f : FrameAt) → Contains b.frames f → state_at states f.at ≡ f.state) (named : slice_index_or names given.array ([]) ≡ probe_array_class) where
  abbrev form : TwinForm
  form = narrow given.fetch

  abbrev q_of : ℕ → ℕ
  q_of i = image_of b first form i

  abbrev land : ℕ → ℕ
  land i = land_of b first form i

  abbrev lead : ℕ → ℕ
  lead i = lead_of b first form i

  abbrev frames : List FrameAt
  frames = pieces (frames_at b first states given) (length b.code)

  abbrev moved : State → State
  moved s = moved_state b first states given s

  abbrev wide : ℕ → List FrameAt
  wide i = wide_frames_at b first states given i

  abbrev tests : ℕ → Bool
  tests i = tests_by b first states given (flow_of (insn_at b.code i))

  abbrev pub wide_frame : ℕ → FrameAt
  wide_frame i = frame (q_of i + 1) (moved (state_behind b states i (late_probe b first i)))

  pub is_test : (flow : Flow) → tests_by b first states given flow ≡ true → flow ≡ flows.Branches
  is_test flows.Branches h = refl
  is_test flows.GoesOn h = cc
  is_test flows.Jumps h = cc
  is_test flows.Switches h = cc
  is_test flows.Returns h = cc
  is_test flows.Throws h = cc

  lead_grows : (i j : ℕ) → i ≤ j → lead i ≤ lead j
  lead_grows i j le = omega (arith, total_grows (segment_size b first form) i j le)

  wide_rise : RiseFrom 0 (pieces wide (length b.code))
  wide_rise =
      are_rising 0 (q_of (length b.code) + 1) (pieces wide (length b.code))
      (rises_from 0 (q_of 0 + 1) (q_of (length b.code) + 1) (pieces wide (length b.code)) (omega arith)
      (rises_pieces wide (λ i. q_of i + 1) (λ i. rises_if (tests i) (wide_frame i) (q_of i + 1) (q_of (suc i) + 1) (λ t. (omega arith, omega arith)) (omega arith)) (length b.code)))

  -- ---- what is asked for

  abbrev Behind : ℕ → State → Type 0
  Behind q s = IsFrameBehind b first states (image_of b first form) (land_of b first form) (lead_of b first form) 1 q s

  abbrev IsSeenAs : FrameAt → State → Type 0
  IsSeenAs f s = type_state names f.state ≡ shifted (image_of b first form) b.arg_slots (type_state names s)

  pub each_behind : (f : FrameAt) → Contains (pieces wide (length b.code)) f → (s : State) × Behind f.at s × IsSeenAs f s
  each_behind f c =
      let p = in_piece wide (length b.code) f c in
      let i = p.piece in
      let h = if_listed (tests i) (wide_frame i) f p.listed in
      let s = state_behind b states i (late_probe b first i) in
      subst (λ g. (s : State) × Behind g.at s × IsSeenAs g s) h.1 (
        s,
        record { test = i; within = p.within; tests = is_test (flow_of (insn_at b.code i)) h.0; place = refl; state_is = refl },
        seen_is b first states given names is_code are_frames fit named s,
      )

  pub wide_listed : (i : ℕ) → i < length b.code → flow_of (insn_at b.code i) ≡ flows.Branches → Contains (pieces wide (length b.code)) (wide_frame i)
  wide_listed i lt e = of_piece wide (length b.code) i (wide_frame i) lt (listed_if (tests i) (wide_frame i) (ap (tests_by b first states given) e))

  pub every_behind : (q : ℕ) (s : State) → Behind q s → (f : FrameAt) × Contains (pieces wide (length b.code)) f × (f.at ≡ q) × IsSeenAs f s
  every_behind q s h = (
    wide_frame h.test,
    wide_listed h.test h.within h.tests,
    sym h.place,
    seen_is b first states given names is_code are_frames fit named (state_behind b states h.test (late_probe b first h.test))
        ∙ ap (λ z. shifted (image_of b first form) b.arg_slots (type_state names z)) (sym h.state_is),
  )

  -- ---- where a frame of the narrow code stands behind a conditional jump

  behind_is : (i : ℕ) → flow_of (insn_at b.code i) ≡ flows.Branches → behind_size b first form i ≡ hop_size (late_probe b first i)
  behind_is i e = size_tests b first form i e ∙ omega arith

  abbrev lead_part_at : ℕ → List FrameAt
  lead_part_at i =
      frame_if (has_inverse b first states given i && is_some (lead_probe b first i)) (frame (lead i) (moved (state_at states i)))

  abbrev land_part_at : ℕ → List FrameAt
  land_part_at i =
      frame_if (has_frame b first states given i || (has_inverse b first states given i && is_none (lead_probe b first i))) (frame (land i) (moved (state_at states i)))

  abbrev arms_with : ℕ → List Branch → List FrameAt
  arms_with i xs = arm_frames b first states given (q_of i + 1) (moved (left_by (insn_at b.code i) (state_at states i))) xs

  in_own : (i : ℕ) → flow_of (insn_at b.code i) ≡ flows.Branches → (f : FrameAt) → Contains (frames_at b first states given i) f
      → f.at ≡ q_of i + 1 → ⊥
  in_own i e f c at =
      ⊎_elim
      (λ front.
      let h = if_listed (has_inverse b first states given i && is_some (lead_probe b first i)) (frame (lead i) (moved (state_at states i))) f front in
      let same : lead i ≡ f.at = ap (λ x. x.at) h.1 in omega (arith, same, at))
      (λ rest.
      ⊎_elim
      (λ middle.
      let h = if_listed (has_frame b first states given i || (has_inverse b first states given i && is_none (lead_probe b first i))) (frame (land i) (moved (state_at states i))) f middle in
      let same : land i ≡ f.at = ap (λ x. x.at) h.1 in omega (arith, same, at))
      (λ last. none_in f (subst (λ l. Contains (arms_with i l) f) (ap (arms_by i (insn_at b.code i)) e) last))
      (Contains-append_cases (land_part_at i) (arms_with i (arms_at b.code i)) f rest))
      (Contains-append_cases (lead_part_at i) (land_part_at i ++ arms_with i (arms_at b.code i)) f c)

  no_probe : (o : Option ℕ) → probe_size o ≡ 0 → is_none o ≡ true
  no_probe None h = refl
  no_probe (Some id) h = absurd (omega (arith, h))

  -- a frame of the body stands there, with no probe in front of it
  abbrev IsFramedPlain : ℕ → Type 0
  IsFramedPlain i = (has_frame b first states given i ≡ true) × (is_none (lead_probe b first i) ≡ true)

  in_next : (i : ℕ) → late_probe b first i ≡ None → (f : FrameAt) → Contains (frames_at b first states given (suc i)) f
      → f.at ≡ lead (suc i) → IsFramedPlain (suc i)
  in_next i none f c at =
      let no_and = λ (t : Bool). and_left (has_inverse b first states given (suc i)) t (ap is_some none) in
      ⊎_elim
      (λ front.
      let h = if_listed (has_inverse b first states given (suc i) && is_some (lead_probe b first (suc i))) (frame (lead (suc i)) (moved (state_at states (suc i)))) f front in
      absurd (both_ways _ (no_and (is_some (lead_probe b first (suc i)))) h.0))
      (λ rest.
      ⊎_elim
      (λ middle.
      let h = if_listed (has_frame b first states given
      (suc i) || (has_inverse b first states given (suc i) && is_none (lead_probe b first (suc i))))
      (frame (land (suc i)) (moved (state_at states (suc i)))) f middle in
      let same : land (suc i) ≡ f.at = ap (λ x. x.at) h.1 in
      let size : probe_size (lead_probe b first (suc i)) ≡ 0 = omega (arith, same, at) in (
        ⊎_elim (λ old. old)
            (λ inverse. absurd (both_ways _ (no_and (is_none (lead_probe b first (suc i)))) inverse))
            (or_cases (has_frame b first states given (suc i)) (has_inverse b first states given (suc i) && is_none (lead_probe b first (suc i))) h.0),
        no_probe (lead_probe b first (suc i)) size,
      ))
      (λ last.
      let w = rises_within (q_of (suc i) + 1) (q_of (suc i) + 1 + arm_sizes (probe_of b first) (arms_at b.code (suc i))) (arms_with (suc i) (arms_at b.code (suc i)))
      (arms_rise b first states given names is_code are_frames fit named (q_of (suc i) + 1) (moved (left_by (insn_at b.code (suc i)) (state_at states (suc i)))) (arms_at b.code (suc i))) f last in
      absurd (omega (arith, w.0, at)))
      (Contains-append_cases (land_part_at (suc i)) (arms_with (suc i) (arms_at b.code (suc i))) f rest))
      (Contains-append_cases (lead_part_at (suc i)) (land_part_at (suc i) ++ arms_with (suc i) (arms_at b.code (suc i))) f c)

  same_piece : (j k x : ℕ) → lead j ≤ x → x < lead (suc j) → lead k ≤ x → x < lead (suc k) → k ≡ j
  same_piece j k x a c d e =
      ⊎_elim
      (λ below. let g = lead_grows (suc k) j (omega arith) in absurd (omega (arith, g, a, e)))
      (λ above. ⊎_elim (λ over. let g = lead_grows (suc j) k (omega arith) in absurd (omega (arith, g, c, d))) (λ le. omega arith) (cases_lt j k))
      (cases_lt k j)

  -- a frame of the narrow code stands behind a conditional jump only where the function says so
  pub not_there : (i : ℕ) → flow_of (insn_at b.code i) ≡ flows.Branches → is_framed_behind b first states given i ≡ false
      → (f : FrameAt) → Contains frames f → f.at ≡ q_of i + 1 → ⊥
  not_there i e other f c at = by (late_probe b first i) refl
    where
      by : (o : Option ℕ) → late_probe b first i ≡ o → ⊥
      by None none =
          let p = in_piece (frames_at b first states given) (length b.code) f c in
          let w = rises_within (lead p.piece) (lead (suc p.piece)) (frames_at b first states given p.piece)
          (part_rises b first states given names is_code are_frames fit named p.piece) f p.listed in
          let size = behind_is i e ∙ ap hop_size none in
          let next : lead (suc i) ≡ q_of i + 1 = omega (arith, size) in
          let front : f.at ≡ lead (suc i) = at ∙ sym next in
          let same : p.piece ≡ suc i = same_piece (suc i) p.piece f.at (omega (arith, front)) (omega (arith, front)) w.0 w.1 in
          let there = in_next i none f (subst (λ k. Contains (frames_at b first states given k) f) same p.listed) front in
          let plain = subst IsFramedPlain (sym (add-one i)) there in
          let test : is_framed_behind b first states given i ≡ true =
          and_from (is_none (late_probe b first i) && has_frame b first states given (i + 1)) (is_none (lead_probe b first (i + 1)))
          (and_from (is_none (late_probe b first i)) (has_frame b first states given (i + 1)) (ap is_none none) plain.0) plain.1 in
          both_ways (is_framed_behind b first states given i) other test
      by (Some id) some =
          let p = in_piece (frames_at b first states given) (length b.code) f c in
          let w = rises_within (lead p.piece) (lead (suc p.piece)) (frames_at b first states given p.piece)
          (part_rises b first states given names is_code are_frames fit named p.piece) f p.listed in
          let size = behind_is i e ∙ ap hop_size some in
          let same : p.piece ≡ i = same_piece i p.piece f.at (omega (arith, at)) (omega (arith, at, size)) w.0 w.1 in
          in_own i e f (subst (λ k. Contains (frames_at b first states given k) f) same p.listed) at

  -- and there it is the frame behind the jump
  pub framed_behind : (i : ℕ) → i < length b.code → flow_of (insn_at b.code i) ≡ flows.Branches → is_framed_behind b first states given i ≡ true
      → Contains frames (wide_frame i)
  framed_behind i lt e framed =
      let parts = and_parts (is_none (late_probe b first i) && has_frame b first states given (i + 1)) (is_none (lead_probe b first (i + 1))) framed in
      let both = and_parts (is_none (late_probe b first i)) (has_frame b first states given (i + 1)) parts.0 in
      let none = none_is (late_probe b first i) both.0 in
      let next = next_within b first form is_code i lt (inr e) in
      let here = land_listed b first states given names is_code are_frames fit named (i + 1) next
      (or_left (has_frame b first states given (i + 1)) (has_inverse b first states given (i + 1) && is_none (lead_probe b first (i + 1))) both.1) in
      let up = ap lead (add-one i) in
      let size = behind_is i e ∙ ap hop_size none in
      let lead_size = ap probe_size (none_is (lead_probe b first (i + 1)) parts.1) in
      let place : land (i + 1) ≡ q_of i + 1 = omega (arith, up, size, lead_size) in
      let state : state_at states (i + 1) ≡ state_behind b states i (late_probe b first i) = sym (ap (state_behind b states i) none) in
      subst (Contains frames) (ap₂ (λ q s. frame q (moved s)) place state) here

-- ---- the whole

abbrev own_list : Body → ℕ → Fetch → List Bool
own_list b first fetch = map own_of (twin_items b first (narrow fetch))

module _ (b : Body) (first : ℕ) (states : List State) (given : Emitting) (names : List (List ℕ)) (well : IsWellMadeOfAnySize b)
    (fit : (f : FrameAt) → Contains b.frames f → state_at states f.at ≡ f.state) (named : slice_index_or names given.array ([]) ≡ probe_array_class) where
  abbrev narrow_form : TwinForm
  narrow_form = narrow given.fetch

  abbrev own : List Bool
  own = own_list b first given.fetch

  images : image_of b first narrow_form ≡ image_place own
  images = sym (images_are b first narrow_form well.code)

  lands : land_of b first narrow_form ≡ land_place b first own
  lands = sym (lands_are b first narrow_form well.code)

  leads : lead_of b first narrow_form ≡ lead_place b first own
  leads = sym (leads_are b first narrow_form well.code)

  -- what holds of the function's places holds of those that the own instructions tell
  pub at_own : (P : (image land lead : ℕ → ℕ) → Type 0) → P (image_of b first narrow_form) (land_of b first narrow_form) (lead_of b first narrow_form)
      → P (image_place own) (land_place b first own) (lead_place b first own)
  at_own P h =
      subst (λ f. P (image_place own) (land_place b first own) f) leads
      (subst (λ f. P (image_place own) f (lead_of b first narrow_form)) lands
      (subst (λ f. P f (land_of b first narrow_form) (lead_of b first narrow_form)) images h))

  at_function : (P : (image land lead : ℕ → ℕ) → Type 0)
      → P (image_place own) (land_place b first own) (lead_place b first own)
      → P (image_of b first narrow_form) (land_of b first narrow_form) (lead_of b first narrow_form)
  at_function P h =
      subst (λ f. P (image_of b first narrow_form) (land_of b first narrow_form) f) (sym leads)
      (subst (λ f. P (image_of b first narrow_form) f (lead_place b first own)) (sym lands)
      (subst (λ f. P f (land_place b first own) (lead_place b first own)) (sym images) h))

  -- the tables that the function gives are moved to these places
  abbrev AreTablesAt : (lead land : ℕ → ℕ) → Type 0
  AreTablesAt lead land =
      AreMovedTables b lead land
      (map (moved_row (lead_of b first narrow_form) (land_of b first narrow_form)) b.handlers)
      (map (moved_line (land_of b first narrow_form)) b.lines)
      (map (moved_var b.arg_slots (land_of b first narrow_form)) b.vars)
      (map (moved_var b.arg_slots (land_of b first narrow_form)) b.kind_vars)

  pub tables : AreTablesAt (lead_place b first own) (land_place b first own)
  tables =
      at_own (λ image land lead. AreTablesAt lead land)
      (record { handlers_are = refl; lines_are = refl; vars_are = refl; kind_vars_are = refl })

  pub emitted : IsEmitted names names states given.fetch given.integer first b (emission b first states given)
  unfolding emission
  emitted = record {
    code = code_told b first narrow_form (unplaced given.integer) well.code;
    tables = tables;
    frames =
        at_own (λ image land lead. AreTwinFrames names names b.arg_slots image (IsFrame b first states image land lead narrow_form) (pieces (frames_at b first states given) (length b.code)))
        (layout_told b first states given names well.code well.frames fit named);
    wide_frames =
        at_own (λ image land lead. AreTwinFrames names names b.arg_slots image (IsWideFrameOf b first states (emission b first states given))
        (pieces (wide_frames_at b first states given) (length b.code)))
        (record {
          rising = wide_rise b first states given names well.code well.frames fit named;
          each = λ f c.
              let h = each_behind b first states given names well.code well.frames fit named f c in
              (h.0, record { behind = at_own (λ image land lead. IsFrameBehind b first states image land lead 1 f.at h.0) h.1 }, h.2);
          every = λ q s h. every_behind b first states given names well.code well.frames fit named q s
              (at_function (λ image land lead. IsFrameBehind b first states image land lead 1 q s) h.behind);
        });
    max_stack = refl;
    max_locals = refl;
  }
