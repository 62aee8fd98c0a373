-- The frames of a layout, instruction by instruction, are those of the narrow code and those behind wide jumps, in the order of their
-- places.
use Rattle.std.proofs.Common.{◌≡◌, ⊎_elim, ℕ, zero, suc, ◌+◌, ◌<◌, ◌≤◌, Bool, true, false, ◌&&◌, ◌||◌, not, List, [], ◌∷◌, ◌++◌, length, refl, sym, ap, ap₂, ◌∙◌, subst, arith, append_assoc, nat_lt, nat_eq, if◌then◌else◌}
use Rattle.std.specs.Prelude.{Contains, is_some, is_none, slice_index_or}
use Rattle.std.proofs.lemmas.Bool.{and_parts, not-false, not-true}
use Rattle.std.proofs.lemmas.List.{append-nil}
use Rattle.std.proofs.lemmas.List.Elements.{Contains-append_cases, filter-append}
use Rattle.jc_bytes.specs.PlainLists.{pieces}
use Rattle.jc_bytes.proofs.BooleanLaws.{none_in, first_in, later_in}
use Rattle.jc_methods.specs.Flow.{flow_of}
use Rattle.jc_methods.specs.FrameOrder.{RiseFrom}
use Rattle.jc_methods.specs.WellMade.{IsWellMadeOfAnySize}
use Rattle.jc_methods.specs.Widened.{WideSet}
use Rattle.jc_methods.specs.declared.insn.Flow.{Flow}
use Rattle.jc_methods.specs.declared.insn.Flow.TheVariants as flows
use Rattle.jc_methods.specs.declared.kind.State.{State}
use Rattle.jc_methods.specs.declared.body.Body.{Body}
use Rattle.jc_methods.specs.declared.body.FrameAt.{FrameAt}
use Rattle.jc_plan.specs.declared.branch.Branch.{Branch}
use Rattle.jc_plan.specs.Plan.{lead_probe}
use Rattle.jc_emit.specs.Shift.{probe_array_class}
use Rattle.jc_emit.specs.Sizes.{TwinForm, narrow, insn_at, arms_by, arms_at}
use Rattle.jc_emit.specs.TwinFrames.{state_at, left_by}
use Rattle.jc_emit.specs.Items.{segment_size, lead_of, land_of, image_of}
use Rattle.jc_emit.specs.Emission.{Emitting, emission, frame, frame_if, moved_state, has_frame, has_inverse, arm_frames, frames_at, tests_by, wide_frames_at}
use Rattle.jc_emit.specs.Stages.{is_framed_behind, is_further, further_frames_at, layout_frames, layout_frames_at}
use Rattle.jc_emit.proofs.FrameListsLaws.{rises_within, in_piece, of_piece, if_listed}
use Rattle.jc_emit.proofs.FrameLaws.{part_rises, layout_told}
use Rattle.jc_emit.proofs.RowLaws.{total_grows}
use Rattle.jc_emit.proofs.WideFrameLaws.{is_test, not_there, framed_behind, wide_frame}
use Rattle.jc_layout.specs.Merged.{with_frame, merged, is_used_by, used_frames}
use Rattle.jc_layout.proofs.MergedLaws.{IsThere, with_before, with_behind, with_there, merged_left, merged_rises}

-- ---- lists

-- in front of all of the rest
before_rest : (f : FrameAt) (frames rest : List FrameAt) → ((g : FrameAt) → Contains rest g → f.at < g.at)
    → with_frame f (frames ++ rest) ≡ with_frame f frames ++ rest
before_rest f [] [] less = refl
before_rest f [] (g ∷ rest) less = with_before f g rest (less g (first_in g rest))
before_rest f (g ∷ frames) rest less = by (nat_lt f.at g.at) (nat_eq f.at g.at) (before_rest f frames rest less)
  where
    by : (t u : Bool) → with_frame f (frames ++ rest) ≡ with_frame f frames ++ rest
        → (if t then f ∷ g ∷ (frames ++ rest) else if u then g ∷ (frames ++ rest) else g ∷ with_frame f (frames ++ rest))
        ≡ (if t then f ∷ g ∷ frames else if u then g ∷ frames else g ∷ with_frame f frames) ++ rest
    by true u same = refl
    by false true same = refl
    by false false same = ap (λ (l : List FrameAt). g ∷ l) same

-- behind all of them
behind_all : (f : FrameAt) (frames : List FrameAt) → ((g : FrameAt) → Contains frames g → g.at < f.at) → with_frame f frames ≡ frames ++ f ∷ []
behind_all f [] less = refl
behind_all f (g ∷ frames) less =
    with_behind f g frames (less g (first_in g frames))
    ∙ ap (λ (l : List FrameAt). g ∷ l) (behind_all f frames (λ x c. less x (later_in g frames x c)))

merged_on : (frames others more : List FrameAt) → merged frames (others ++ more) ≡ merged (merged frames more) others
merged_on frames [] more = refl
merged_on frames (f ∷ others) more = ap (with_frame f) (merged_on frames others more)

merged_front : (frames others rest : List FrameAt) → ((f g : FrameAt) → Contains others f → Contains rest g → f.at < g.at)
    → merged (frames ++ rest) others ≡ merged frames others ++ rest
merged_front frames [] rest less = refl
merged_front frames (f ∷ others) rest less =
    ap (with_frame f) (merged_front frames others rest (λ x g c d. less x g (later_in f others x c) d))
    ∙ before_rest f (merged frames others) rest (λ g d. less f g (first_in f others) d)

merged_if : (t : Bool) (f : FrameAt) (frames : List FrameAt) → (t ≡ true → (g : FrameAt) → Contains frames g → g.at < f.at)
    → merged frames (frame_if t f) ≡ frames ++ frame_if t f
merged_if true f frames less = behind_all f frames (less refl)
merged_if false f frames less = sym (append-nil frames)

-- a list if the test holds
abbrev list_if : Bool → List FrameAt → List FrameAt
list_if t l = if t then l else []

in_list_if : (t : Bool) (l : List FrameAt) (f : FrameAt) → Contains (list_if t l) f → (t ≡ true) × Contains l f
in_list_if true l f c = (refl, c)
in_list_if false l f c = absurd (none_in f c)

merged_list_if : (t : Bool) (frames l : List FrameAt) → (t ≡ true → merged frames l ≡ frames ++ l) → merged frames (list_if t l) ≡ frames ++ list_if t l
merged_list_if true frames l h = h refl
merged_list_if false frames l h = sym (append-nil frames)

pieces_alike : (g h : ℕ → List FrameAt) (n : ℕ) → ((i : ℕ) → i < n → g i ≡ h i) → pieces g n ≡ pieces h n
pieces_alike g h zero same = refl
pieces_alike g h (suc n) same = ap₂ (λ (x y : List FrameAt). x ++ y) (pieces_alike g h n (λ i lt. same i (omega (arith, lt)))) (same n (omega arith))

-- ---- of one body

module _ (b : Body) (first : ℕ) (states : List State) (given : Emitting) (names : List (List ℕ)) (well : IsWellMadeOfAnySize b)
    (fit : (f : FrameAt) → Contains b.frames f → state_at states f.at ≡ f.state) (named : slice_index_or names given.array ([]) ≡ probe_array_class) where
  abbrev form : TwinForm
  form = narrow given.fetch

  abbrev q_of : ℕ → ℕ
  q_of i = image_of b first form i

  abbrev lead : ℕ → ℕ
  lead i = lead_of b first form i

  abbrev part : ℕ → List FrameAt
  part i = frames_at b first states given i

  abbrev all_parts : List FrameAt
  all_parts = pieces part (length b.code)

  abbrev wide : ℕ → List FrameAt
  wide i = wide_frames_at b first states given i

  abbrev flow_at : ℕ → Flow
  flow_at i = flow_of (insn_at b.code i)

  abbrev tests : ℕ → Bool
  tests i = tests_by b first states given (flow_at i)

  abbrev framed : ℕ → Bool
  framed i = is_framed_behind b first states given i

  abbrev behind : ℕ → FrameAt
  behind i = wide_frame b first states given names well.code well.frames fit named i

  lead_grows : (i j : ℕ) → i ≤ j → lead i ≤ lead j
  lead_grows i j le = omega (arith, total_grows (segment_size b first form) i j le)

  part_within : (i : ℕ) (f : FrameAt) → Contains (part i) f → (lead i ≤ f.at) × (f.at < lead (suc i))
  part_within i f c =
      rises_within (lead i) (lead (suc i)) (part i) (part_rises b first states given names well.code well.frames fit named i) f c

  parts_rise : RiseFrom 0 all_parts
  parts_rise = (layout_told b first states given names well.code well.frames fit named).rising

  abbrev moved : State → State
  moved s = moved_state b first states given s

  abbrev leads_there : ℕ → Bool
  leads_there i = has_inverse b first states given i && is_some (lead_probe b first i)

  abbrev lands_there : ℕ → Bool
  lands_there i = has_frame b first states given i || (has_inverse b first states given i && is_none (lead_probe b first i))

  abbrev lead_frames : ℕ → List FrameAt
  lead_frames i = frame_if (leads_there i) (frame (lead i) (moved (state_at states i)))

  abbrev land_frames : ℕ → List FrameAt
  land_frames i = frame_if (lands_there i) (frame (land_of b first form i) (moved (state_at states i)))

  abbrev arms_with : ℕ → List Branch → List FrameAt
  arms_with i xs = arm_frames b first states given (q_of i + 1) (moved (left_by (insn_at b.code i) (state_at states i))) xs

  -- ---- the frames in front of the one behind a conditional jump

  -- the frames of a conditional jump stand in front of the one behind its image
  own_before : (i : ℕ) → flow_at i ≡ flows.Branches → (f : FrameAt) → Contains (part i) f → f.at < q_of i + 1
  own_before i e f c =
      ⊎_elim
      (λ front.
      let h = if_listed (leads_there i) (frame (lead i) (moved (state_at states i))) f front in
      let same : lead i ≡ f.at = ap (λ x. x.at) h.1 in
      omega (arith, same))
      (λ rest.
      ⊎_elim
      (λ middle.
      let h = if_listed (lands_there i) (frame (land_of b first form i) (moved (state_at states i))) f middle in
      let same : land_of b first form i ≡ f.at = ap (λ x. x.at) h.1 in
      omega (arith, same))
      (λ last. absurd (none_in f (subst (λ l. Contains (arms_with i l) f) (ap (arms_by i (insn_at b.code i)) e) last)))
      (Contains-append_cases (land_frames i) (arms_with i (arms_at b.code i)) f rest))
      (Contains-append_cases (lead_frames i) (land_frames i ++ arms_with i (arms_at b.code i)) f c)

  all_before : (n : ℕ) → flow_at n ≡ flows.Branches → (g : FrameAt) → Contains (pieces part n ++ part n) g → g.at < (behind n).at
  all_before n e g c =
      ⊎_elim
      (λ front.
      let p = in_piece part n g front in
      let within = part_within p.piece g p.listed in
      let less = p.within in
      let grows = lead_grows (suc p.piece) n (omega (arith, less)) in
      let above = within.1 in
      omega (arith, above, grows))
      (λ own. own_before n e g own)
      (Contains-append_cases (pieces part n) (part n) g c)

  -- the frame behind a conditional jump is a frame of the narrow code wherever one stands there
  pub there_too : (g : FrameAt) → Contains (emission b first states given).wide_frames g → IsThere (emission b first states given).frames g.at
      → Contains (emission b first states given).frames g
  unfolding emission
  there_too g c (h, d, at) =
      let p = in_piece wide (length b.code) g c in
      let i = p.piece in
      let listed_at = if_listed (tests i) (behind i) g p.listed in
      let is = is_test b first states given names well.code well.frames fit named (flow_at i) listed_at.0 in
      let place : q_of i + 1 ≡ g.at = ap (λ x. x.at) listed_at.1 in
      by i p.within is (sym (place ∙ sym at)) listed_at.1 (framed i) refl
    where
      by : (i : ℕ) → i < length b.code → flow_at i ≡ flows.Branches → h.at ≡ q_of i + 1 → behind i ≡ g → (t : Bool) → framed i ≡ t → Contains all_parts g
      by i lt is e same true t =
          subst (Contains all_parts) same (framed_behind b first states given names well.code well.frames fit named i lt is t)
      by i lt is e same false t = absurd (not_there b first states given names well.code well.frames fit named i is t h d e)

  -- ---- where these jumps are wide

  module _ (set : WideSet) where
    -- the conditional jump is wide, and has no frame behind it yet
    abbrev asks_by : ℕ → Flow → Bool
    asks_by i flow = is_further b first states given set i flow

    abbrev further : ℕ → List FrameAt
    further i = further_frames_at b first states given set i

    -- the frame behind the conditional jump, if it is wide
    abbrev used : ℕ → List FrameAt
    used i = list_if (set (q_of i)) (wide i)

    asks_is : (i : ℕ) (flow : Flow) → asks_by i flow ≡ true → (flow ≡ flows.Branches) × (framed i ≡ false)
    asks_is i flows.Branches h = (refl, not-true (framed i) (and_parts (set (q_of i)) (not (framed i)) h).1)
    asks_is i flows.GoesOn h = cc
    asks_is i flows.Jumps h = cc
    asks_is i flows.Switches h = cc
    asks_is i flows.Returns h = cc
    asks_is i flows.Throws h = cc

    asks_not : (i : ℕ) (flow : Flow) → flow ≡ flows.Branches → set (q_of i) ≡ true → asks_by i flow ≡ false → framed i ≡ true
    asks_not i flow e is_wide h =
        not-false (framed i) (ap (λ (t : Bool). t && not (framed i)) (sym is_wide) ∙ ap (asks_by i) (sym e) ∙ h)

    asks_none : (i : ℕ) (flow : Flow) → set (q_of i) ≡ false → asks_by i flow ≡ false
    asks_none i flows.Branches h = ap (λ (t : Bool). t && not (framed i)) h
    asks_none i flows.GoesOn h = refl
    asks_none i flows.Jumps h = refl
    asks_none i flows.Switches h = refl
    asks_none i flows.Returns h = refl
    asks_none i flows.Throws h = refl

    -- what is known of a frame that is asked for
    record IsAsked (i : ℕ) (f : FrameAt) : Type 0 where
      tests_is : flow_at i ≡ flows.Branches
      plain : framed i ≡ false
      at_is : q_of i + 1 ≡ f.at

    asked : (i : ℕ) (f : FrameAt) → Contains (further i) f → IsAsked i f
    asked i f c =
        let held = in_list_if (asks_by i (flow_at i)) (wide i) f c in
        let is = if_listed (tests i) (behind i) f held.1 in
        let h = asks_is i (flow_at i) held.0 in
        record { tests_is = h.0; plain = h.1; at_is = ap (λ x. x.at) is.1 }

    -- ---- the frames of conditional jumps that ask for one

    merged_one : (n : ℕ) → merged (pieces part n ++ part n) (further n) ≡ (pieces part n ++ part n) ++ further n
    merged_one n =
        merged_list_if (asks_by n (flow_at n)) (pieces part n ++ part n) (wide n)
        (λ t. merged_if (tests n) (behind n) (pieces part n ++ part n) (λ u. all_before n (asks_is n (flow_at n) t).0))

    apart : (n : ℕ) → n < length b.code → (f g : FrameAt) → Contains (pieces further n) f → Contains (part n ++ further n) g → f.at < g.at
    apart n lt f g c d =
        let p = in_piece further n f c in
        let i = p.piece in
        let less = p.within in
        let is = asked i f p.listed in
        let at = is.at_is in
        let grows = lead_grows (suc i) n (omega (arith, less)) in
        ⊎_elim
        (λ own.
        let within = part_within n g own in
        let from = within.0 in
        let there = of_piece part (length b.code) n g lt own in
        let other : g.at ≡ q_of i + 1 → ⊥ = not_there b first states given names well.code well.frames fit named i is.tests_is is.plain g there in
        omega (arith, at, grows, from, other))
        (λ last. let here = (asked n g last).at_is in omega (arith, at, grows, here))
        (Contains-append_cases (part n) (further n) g d)

    merged_pieces : (n : ℕ) → n ≤ length b.code → merged (pieces part n) (pieces further n) ≡ pieces (layout_frames_at b first states given set) n
    merged_pieces zero le = refl
    merged_pieces (suc n) le =
        let front = pieces part n in
        let others = pieces further n in
        merged_on (front ++ part n) others (further n)
        ∙ ap (λ (l : List FrameAt). merged l others) (merged_one n ∙ append_assoc front (part n) (further n))
        ∙ merged_front front others (part n ++ further n) (apart n (omega (arith, le)))
        ∙ ap (λ (l : List FrameAt). l ++ (part n ++ further n)) (merged_pieces n (omega (arith, le)))

    -- ---- the frames of the others stand there already

    -- among these frames are those of the narrow code
    abbrev HasParts : List FrameAt → Type 0
    HasParts all = (g : FrameAt) → Contains all_parts g → Contains all g

    unasked : (n : ℕ) → n < length b.code → (all : List FrameAt) → RiseFrom 0 all → HasParts all → set (q_of n) ≡ true
        → asks_by n (flow_at n) ≡ false → (t : Bool) → tests n ≡ t → merged all (frame_if t (behind n)) ≡ all
    unasked n lt all r has is_wide h false e = refl
    unasked n lt all r has is_wide h true e =
        let is = is_test b first states given names well.code well.frames fit named (flow_at n) e in
        let there = framed_behind b first states given names well.code well.frames fit named n lt is (asks_not n (flow_at n) is is_wide h) in
        with_there 0 (behind n) all r (behind n, has (behind n) there, refl)

    one_alike : (n : ℕ) → n < length b.code → (all : List FrameAt) → RiseFrom 0 all → HasParts all → merged all (used n) ≡ merged all (further n)
    one_alike n lt all r has = by (set (q_of n)) refl (asks_by n (flow_at n)) refl
      where
        by : (s : Bool) → set (q_of n) ≡ s → (t : Bool) → asks_by n (flow_at n) ≡ t → merged all (list_if s (wide n)) ≡ merged all (list_if t (wide n))
        by true is true h = refl
        by true is false h = unasked n lt all r has is h (tests n) refl
        by false is t h = ap (λ (x : Bool). merged all (list_if x (wide n))) (sym (asks_none n (flow_at n) is) ∙ h)

    merged_alike : (n : ℕ) → n ≤ length b.code → (all : List FrameAt) → RiseFrom 0 all → HasParts all
        → merged all (pieces used n) ≡ merged all (pieces further n)
    merged_alike zero le all r has = refl
    merged_alike (suc n) le all r has =
        merged_on all (pieces used n) (used n)
        ∙ ap (λ (l : List FrameAt). merged l (pieces used n)) (one_alike n (omega (arith, le)) all r has)
        ∙ merged_alike n (omega (arith, le)) (merged all (further n)) (merged_rises all (further n) r) (λ g c. merged_left all (further n) g (has g c))
        ∙ sym (merged_on all (pieces further n) (further n))

    -- ---- the whole

    used_one : (i : ℕ) → used_frames set (wide i) ≡ used i
    used_one i = by (tests i)
      where
        by : (t : Bool) → used_frames set (frame_if t (behind i)) ≡ list_if (set (q_of i)) (frame_if t (behind i))
        by true = ap (λ (s : Bool). list_if s (behind i ∷ [])) (ap (is_used_by set) {x = q_of i + 1} {y = suc (q_of i)} (omega arith))
        by false = none (set (q_of i))
          where
            none : (s : Bool) → [] ≡ list_if s []
            none true = refl
            none false = refl

    used_pieces : (n : ℕ) → used_frames set (pieces wide n) ≡ pieces used n
    used_pieces zero = refl
    used_pieces (suc n) =
        filter-append (λ (f : FrameAt). is_used_by set f.at) (pieces wide n) (wide n)
        ∙ ap₂ (λ (x y : List FrameAt). x ++ y) (used_pieces n) (used_one n)

    -- the frames of a layout are those of the narrow code and those behind wide jumps
    pub frames_laid : layout_frames b first states given set
        ≡ merged (emission b first states given).frames (used_frames set (emission b first states given).wide_frames)
    unfolding emission
    frames_laid =
        sym (ap (merged all_parts) (used_pieces (length b.code))
        ∙ merged_alike (length b.code) (omega arith) all_parts parts_rise (λ g c. c) ∙ merged_pieces (length b.code) (omega arith))
