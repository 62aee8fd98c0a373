-- The instrumented code of a body that was read under two lists of names: its frames say the same by names, and the rest is equal.
use Rattle.std.proofs.Common.{◌≡◌, ◌⊎◌, inl, inr, ℕ, zero, suc, ◌+◌, ◌-◌, ◌<◌, ◌≤◌, Bool, true, false, ◌&&◌, ◌||◌, nat_eq, List, [], ◌∷◌, ◌++◌, length, map, take, Option, Some, None, refl, sym, ◌∙◌, ap, ap₂, arith}
use Rattle.std.specs.List.{list_any, take-map}
use Rattle.std.specs.Prelude.{is_some, is_none}
use Rattle.std.proofs.lemmas.Bool.{cases_lt}
use Rattle.std.proofs.lemmas.List.{get_or_past, length-map}
use Rattle.std.proofs.lemmas.Option.{same_Some, slice_get-get_or}
use Rattle.jc_methods.specs.declared.probe_members.Fetch.{Fetch}
use Rattle.jc_methods.specs.Flow.{flow_of}
use Rattle.jc_methods.specs.VerificationTypes.{Names, TypeState, TypeStateAt, verification_type, type_state, type_state_at}
use Rattle.jc_bytes.specs.PlainLists.{pieces}
use Rattle.jc_methods.specs.declared.body.Body.{Body}
use Rattle.jc_methods.specs.declared.body.FrameAt.{FrameAt}
use Rattle.jc_methods.specs.declared.emitted.Emitted.{Emitted}
use Rattle.jc_methods.specs.declared.insn.Insn.{Insn}
use Rattle.jc_methods.specs.declared.kind.State.{State}
use Rattle.jc_pool.specs.Pool.{PoolValue}
use Rattle.jc_kinds_after.specs.Shift.{shifted}
use Rattle.jc_kinds.specs.Answers.{AreStates}
use Rattle.jc_plan.specs.declared.branch.Branch.{Branch}
use Rattle.jc_plan.specs.Plan.{lead_probe}
use Rattle.jc_plan.specs.Probed.{probe_of}
use Rattle.jc_layout.specs.LaidBody.{readied, with_place}
use Rattle.jc_layout.specs.Layout.{chosen, chosen_text}
use Rattle.jc_layout.specs.Merged.{merged, used_frames}
use Rattle.jc_instrument_code.specs.CodeText.{code_text, counted_text, row_text}
use Rattle.jc_instrument_code.specs.TwinCode.{code_attributes, offset_in, twin_code, written_frames}
use Rattle.jc_emit.specs.Marks.{unplaced}
use Rattle.jc_emit.specs.Emission.{Emitting, IsArrayNumber, arm_frame, arm_frames, emission, frame, frame_if, frames_at, has_frame, has_inverse, moved_state, tests_by, wide_frames_at}
use Rattle.jc_emit.specs.Items.{at_of, extra_of, image_of, insn_of, land_of, lead_of, own_of}
use Rattle.jc_emit.specs.Sizes.{narrow, arms_at, hop_size, insn_at, late_probe}
use Rattle.jc_emit.specs.TwinFrames.{left_by, no_state, operands_of, state_at, state_behind}
use Rattle.jc_emit.specs.TwinTables.{moved_line, moved_row, moved_var}
use Rattle.jc_emit.specs.Written.{integer_in}
use Rattle.jc_emit.proofs.FrameLaws.{seen_moved}
use Rattle.jc_instrument.specs.Constants.{given_with}
use Rattle.jc_instrument.specs.declared.constants.ProbeConstants.{ProbeConstants}
use Rattle.jc_instrument.specs.SameAnalysis.{without_frames}
use Rattle.jc_instrument.proofs.SameAnalysisLaws.{same_but_frames, same_lead}
use Rattle.jc_instrument_reread.specs.WrittenCode.{ready_emission}
use Rattle.jc_instrument_reread.proofs.SameBodyLaws.{AreSame, same_state}
use Rattle.jc_instrument.proofs.SameFramesLaws.{SayTheSame, both_same, merged_same, pieces_same, used_same}
use Rattle.jc_instrument.proofs.SameItemsLaws.{same_image, same_items, same_land, same_late, same_lead_place, same_probe}

-- all that is emitted but the frames
abbrev pub code_and_tables : Emitted → Emitted
code_and_tables e = record e { frames = []; wide_frames = [] }

-- the two are equal but for how their frames number classes, and the frames say the same by names
pub record IsSameEmission (names others : Names) (e f : Emitted) : Type 0 where
  pub rest : code_and_tables e ≡ code_and_tables f
  pub frames : SayTheSame names others e.frames f.frames
  pub wide_frames : SayTheSame names others e.wide_frames f.wide_frames

-- ---- what depends on no frame

-- what doesn't depend on frames is the same of two bodies that are equal but for them
by_bare : {X : Type 0} (f : Body → X) → ((x : Body) → f x ≡ f (without_frames x)) → (a b : Body) → without_frames a ≡ without_frames b → f a ≡ f b
by_bare f bare a b same = bare a ∙ ap f same ∙ sym (bare b)

bare_emission : (constants : ProbeConstants) (b : Body) (first : ℕ) (states : List State) (array : ℕ)
    → code_and_tables (emission b first states (given_with constants array)) ≡ code_and_tables (emission (without_frames b) first [] (given_with constants 0))
unfolding emission
bare_emission constants b first states array = λ k. record {
  code = map (insn_of (unplaced (integer_in constants.integers)) b.arg_slots) (same_items b first constants.fetch k);
  at = map at_of (same_items b first constants.fetch k);
  own = map own_of (same_items b first constants.fetch k);
  extra = map extra_of (same_items b first constants.fetch k);
  handlers = map (moved_row (λ i. same_lead_place b first constants.fetch i k) (λ i. same_land b first constants.fetch i k)) b.handlers;
  lines = map (moved_line (λ i. same_land b first constants.fetch i k)) b.lines;
  vars = map (moved_var b.arg_slots (λ i. same_land b first constants.fetch i k)) b.vars;
  kind_vars = map (moved_var b.arg_slots (λ i. same_land b first constants.fetch i k)) b.kind_vars;
  frames = [];
  wide_frames = [];
  max_stack = b.max_stack + 3;
  max_locals = b.max_locals + 1;
}

same_rest : (constants : ProbeConstants) (a b : Body) (first : ℕ) (states more : List State) (array other : ℕ) → without_frames a ≡ without_frames b
    → code_and_tables (emission a first states (given_with constants array)) ≡ code_and_tables (emission b first more (given_with constants other))
same_rest constants a b first states more array other bare =
    bare_emission constants a first states array
    ∙ ap (λ (x : Body). code_and_tables (emission x first [] (given_with constants 0))) bare
    ∙ sym (bare_emission constants b first more other)

-- ---- states

same_states : (names others : Names) (a b : Body) → AreSame names others a b → (states more : List State) → AreStates names a states
    → AreStates others b more → (i : ℕ) → type_state names (state_at states i) ≡ type_state others (state_at more i)
same_states names others a b same states more p q i =
    by (cases_lt i (length states))
  where
    counts : length more ≡ length states
    counts = q.count ∙ ap (λ (x : Body). length x.code) (sym same.rest) ∙ sym p.count

    by : (i < length states) ⊎ (length states ≤ i) → type_state names (state_at states i) ≡ type_state others (state_at more i)
    by (inl less) =
        let here = p.each i (state_at states i) (slice_get-get_or states i no_state less) in
        let there = q.each i (state_at more i) (slice_get-get_or more i no_state (let n = counts in omega (arith, less, n))) in
        same_Some (type_state names (state_at states i)) (type_state others (state_at more i))
        (sym here.is ∙ same_state names others a b same i ∙ there.is)
    by (inr past) =
        ap (type_state names) (get_or_past states i no_state past)
        ∙ ap (type_state others) (sym (get_or_past more i no_state (let n = counts in omega (arith, past, n))))

-- what a jump or a switch leaves of what is verification_type
abbrev seen_left : Insn → TypeState → TypeState
seen_left insn s = record { locals = s.locals; stack = take (length s.stack - operands_of insn) s.stack }

left_seen : (names : Names) (insn : Insn) (s : State) → type_state names (left_by insn s) ≡ seen_left insn (type_state names s)
left_seen names insn s = λ k. record {
  locals = map (verification_type names) s.locals;
  stack =
      (sym (take-map (verification_type names) (length s.stack - operands_of insn) s.stack)
      ∙ ap (λ (n : ℕ). take (n - operands_of insn) (map (verification_type names) s.stack)) (sym (length-map s.stack (verification_type names)))) k;
}

-- ---- frames

-- a frame stands at the instruction by names, too
any_seen : (names : Names) (frames : List FrameAt) (i : ℕ)
    → list_any (λ f. nat_eq f.at i) frames ≡ list_any (λ (s : TypeStateAt). nat_eq s.at i) (map (type_state_at names) frames)
any_seen names [] i = refl
any_seen names (f ∷ frames) i = ap (λ (t : Bool). nat_eq f.at i || t) (any_seen names frames i)

frame_if_same : (names others : Names) (t u : Bool) (f g : FrameAt) → t ≡ u → type_state_at names f ≡ type_state_at others g
    → SayTheSame names others (frame_if t f) (frame_if u g)
frame_if_same names others t u f g tests same = ap (λ (x : Bool). map (type_state_at names) (frame_if x f)) tests ∙ by u
  where
    by : (x : Bool) → SayTheSame names others (frame_if x f) (frame_if x g)
    by true = λ k. same k ∷ []
    by false = refl

-- the frames of what belongs to i, in their three parts
module _ (b : Body) (first : ℕ) (states : List State) (given : Emitting) (i : ℕ) where
  abbrev moved : State → State
  moved s = moved_state b first states given s

  abbrev leads_there : Bool
  leads_there = has_inverse b first states given i && is_some (lead_probe b first i)

  abbrev lead_frame : FrameAt
  lead_frame = frame (lead_of b first (narrow given.fetch) i) (moved (state_at states i))

  abbrev lands_there : Bool
  lands_there = has_frame b first states given i || (has_inverse b first states given i && is_none (lead_probe b first i))

  abbrev land_frame : FrameAt
  land_frame = frame (land_of b first (narrow given.fetch) i) (moved (state_at states i))

  abbrev left : State
  left = left_by (insn_at b.code i) (state_at states i)

  abbrev frames_of_arms : List FrameAt
  frames_of_arms = arm_frames b first states given (image_of b first (narrow given.fetch) i + 1) (moved left) (arms_at b.code i)

  abbrev behind : State
  behind = state_behind b states i (late_probe b first i)

  abbrev tests : Bool
  tests = tests_by b first states given (flow_of (insn_at b.code i))

module _ (constants : ProbeConstants) (names others : Names) (a b : Body) (first : ℕ) (states more : List State) (array other : ℕ) (bare : without_frames a ≡ without_frames b)
    (alike : SayTheSame names others a.frames b.frames) (named : IsArrayNumber names array) (called : IsArrayNumber others other)
    (all : (i : ℕ) → type_state names (state_at states i) ≡ type_state others (state_at more i)) where
  -- ---- places and tests

  codes_same : a.code ≡ b.code
  codes_same = ap (λ (x : Body). x.code) bare

  leads_same : (i : ℕ) → lead_of a first (narrow constants.fetch) i ≡ lead_of b first (narrow constants.fetch) i
  leads_same i = by_bare (λ x. lead_of x first (narrow constants.fetch) i) (λ x. same_lead_place x first constants.fetch i) a b bare

  lands_same : (i : ℕ) → land_of a first (narrow constants.fetch) i ≡ land_of b first (narrow constants.fetch) i
  lands_same i = by_bare (λ x. land_of x first (narrow constants.fetch) i) (λ x. same_land x first constants.fetch i) a b bare

  images_same : (i : ℕ) → image_of a first (narrow constants.fetch) i ≡ image_of b first (narrow constants.fetch) i
  images_same i = by_bare (λ x. image_of x first (narrow constants.fetch) i) (λ x. same_image x first constants.fetch i) a b bare

  lead_probes_same : (i : ℕ) → lead_probe a first i ≡ lead_probe b first i
  lead_probes_same i = by_bare (λ x. lead_probe x first i) (λ x. same_lead x first i) a b bare

  late_probes_same : (i : ℕ) → late_probe a first i ≡ late_probe b first i
  late_probes_same i = by_bare (λ x. late_probe x first i) (λ x. same_late x first i) a b bare

  probes_same : (x : Branch) → probe_of a first x ≡ probe_of b first x
  probes_same x = by_bare (λ y. probe_of y first x) (λ y. same_probe y first x) a b bare

  has_frames_same : (i : ℕ) → has_frame a first states (given_with constants array) i ≡ has_frame b first more (given_with constants other) i
  has_frames_same i =
      any_seen names a.frames i
      ∙ ap (list_any (λ (s : TypeStateAt). nat_eq s.at i)) alike
      ∙ sym (any_seen others b.frames i)

  inverses_same : (i : ℕ) → has_inverse a first states (given_with constants array) i ≡ has_inverse b first more (given_with constants other) i
  inverses_same zero = refl
  inverses_same (suc i) = ap is_some (late_probes_same i)

  -- ---- states

  moved_same : (s t : State) → type_state names s ≡ type_state others t
      → type_state names (moved_state a first states (given_with constants array) s) ≡ type_state others (moved_state b first more (given_with constants other) t)
  moved_same s t same =
      seen_moved names a.arg_slots array (image_of a first (narrow constants.fetch)) s named
      ∙ (λ k. shifted (λ i. images_same i k) ((bare k).arg_slots) (same k))
      ∙ sym (seen_moved others b.arg_slots other (image_of b first (narrow constants.fetch)) t called)

  -- a frame with such a state
  frame_same : (p q : ℕ) (s t : State) → p ≡ q → type_state names s ≡ type_state others t
      → type_state_at names (frame p (moved_state a first states (given_with constants array) s)) ≡ type_state_at others (frame q (moved_state b first more (given_with constants other) t))
  frame_same p q s t place same = λ k. record { at = place k; state = moved_same s t same k }

  left_same : (i : ℕ) → type_state names (left a first states (given_with constants array) i) ≡ type_state others (left b first more (given_with constants other) i)
  left_same i =
      left_seen names (insn_at a.code i) (state_at states i)
      ∙ (λ k. seen_left (insn_at (codes_same k) i) (all i k))
      ∙ sym (left_seen others (insn_at b.code i) (state_at more i))

  -- ---- the arms of a switch

  arm_same : (p q : ℕ) (s t : State) (o u : Option ℕ) → p ≡ q → type_state names s ≡ type_state others t → o ≡ u
      → SayTheSame names others (arm_frame a first states (given_with constants array) p s o) (arm_frame b first more (given_with constants other) q t u)
  arm_same p q s t o u place same e = ap (λ (x : Option ℕ). map (type_state_at names) (arm_frame a first states (given_with constants array) p s x)) e ∙ by u
    where
      by : (x : Option ℕ) → SayTheSame names others (arm_frame a first states (given_with constants array) p s x) (arm_frame b first more (given_with constants other) q t x)
      by None = refl
      by (Some id) = λ k. record { at = place k; state = same k } ∷ []

  arms_same : (p q : ℕ) (s t : State) → p ≡ q → type_state names s ≡ type_state others t → (xs : List Branch)
      → SayTheSame names others (arm_frames a first states (given_with constants array) p s xs) (arm_frames b first more (given_with constants other) q t xs)
  arms_same p q s t place same [] = refl
  arms_same p q s t place same (x ∷ xs) =
      both_same names others (arm_frame a first states (given_with constants array) p s (probe_of a first x)) (arm_frame b first more (given_with constants other) q t (probe_of b first x))
      (arm_frames a first states (given_with constants array) (p + hop_size (probe_of a first x)) s xs) (arm_frames b first more (given_with constants other) (q + hop_size (probe_of b first x)) t xs)
      (arm_same p q s t (probe_of a first x) (probe_of b first x) place same (probes_same x))
      (arms_same (p + hop_size (probe_of a first x)) (q + hop_size (probe_of b first x)) s t (λ k. place k + hop_size (probes_same x k)) same xs)

  all_arms_same : (i : ℕ) → SayTheSame names others (frames_of_arms a first states (given_with constants array) i) (frames_of_arms b first more (given_with constants other) i)
  all_arms_same i =
      ap (λ (code : List Insn). map (type_state_at names) (arm_frames a first states (given_with constants array) (image_of a first (narrow constants.fetch) i + 1)
      (moved a first states (given_with constants array) i (left a first states (given_with constants array) i)) (arms_at code i))) codes_same
      ∙ arms_same (image_of a first (narrow constants.fetch) i + 1) (image_of b first (narrow constants.fetch) i + 1)
      (moved a first states (given_with constants array) i (left a first states (given_with constants array) i))
      (moved b first more (given_with constants other) i (left b first more (given_with constants other) i)) (λ k. images_same i k + 1)
      (moved_same (left a first states (given_with constants array) i) (left b first more (given_with constants other) i) (left_same i)) (arms_at b.code i)

  -- ---- each part

  frames_at_same : (i : ℕ) → SayTheSame names others (frames_at a first states (given_with constants array) i) (frames_at b first more (given_with constants other) i)
  frames_at_same i =
      both_same names others
      (frame_if (leads_there a first states (given_with constants array) i) (lead_frame a first states (given_with constants array) i))
      (frame_if (leads_there b first more (given_with constants other) i) (lead_frame b first more (given_with constants other) i))
      (frame_if (lands_there a first states (given_with constants array) i) (land_frame a first states (given_with constants array) i) ++ frames_of_arms a first states (given_with constants array) i)
      (frame_if (lands_there b first more (given_with constants other) i) (land_frame b first more (given_with constants other) i) ++ frames_of_arms b first more (given_with constants other) i)
      (frame_if_same names others (leads_there a first states (given_with constants array) i) (leads_there b first more (given_with constants other) i)
      (lead_frame a first states (given_with constants array) i) (lead_frame b first more (given_with constants other) i)
      (λ k. inverses_same i k && is_some (lead_probes_same i k))
      (frame_same (lead_of a first (narrow constants.fetch) i) (lead_of b first (narrow constants.fetch) i) (state_at states i) (state_at more i) (leads_same i) (all i)))
      (both_same names others
      (frame_if (lands_there a first states (given_with constants array) i) (land_frame a first states (given_with constants array) i))
      (frame_if (lands_there b first more (given_with constants other) i) (land_frame b first more (given_with constants other) i))
      (frames_of_arms a first states (given_with constants array) i) (frames_of_arms b first more (given_with constants other) i)
      (frame_if_same names others (lands_there a first states (given_with constants array) i) (lands_there b first more (given_with constants other) i)
      (land_frame a first states (given_with constants array) i) (land_frame b first more (given_with constants other) i)
      (λ k. has_frames_same i k || (inverses_same i k && is_none (lead_probes_same i k)))
      (frame_same (land_of a first (narrow constants.fetch) i) (land_of b first (narrow constants.fetch) i) (state_at states i) (state_at more i) (lands_same i) (all i)))
      (all_arms_same i))

  tests_same : (i : ℕ) → tests a first states (given_with constants array) i ≡ tests b first more (given_with constants other) i
  tests_same i = λ k. tests_by b first more (given_with constants other) (flow_of (insn_at (codes_same k) i))

  behind_same : (i : ℕ) → type_state names (behind a first states (given_with constants array) i) ≡ type_state others (behind b first more (given_with constants other) i)
  behind_same i = ap (λ (o : Option ℕ). type_state names (state_behind a states i o)) (late_probes_same i) ∙ by (late_probe b first i)
    where
      by : (o : Option ℕ) → type_state names (state_behind a states i o) ≡ type_state others (state_behind b more i o)
      by None = all (i + 1)
      by (Some id) = left_same i

  wide_frames_at_same : (i : ℕ) → SayTheSame names others (wide_frames_at a first states (given_with constants array) i) (wide_frames_at b first more (given_with constants other) i)
  wide_frames_at_same i =
      frame_if_same names others (tests a first states (given_with constants array) i) (tests b first more (given_with constants other) i)
      (frame (image_of a first (narrow constants.fetch) i + 1) (moved a first states (given_with constants array) i (behind a first states (given_with constants array) i)))
      (frame (image_of b first (narrow constants.fetch) i + 1) (moved b first more (given_with constants other) i (behind b first more (given_with constants other) i))) (tests_same i)
      (frame_same (image_of a first (narrow constants.fetch) i + 1) (image_of b first (narrow constants.fetch) i + 1)
      (behind a first states (given_with constants array) i) (behind b first more (given_with constants other) i)
      (λ k. images_same i k + 1) (behind_same i))

  -- ---- the whole

  all_parts_same : (f g : ℕ → List FrameAt) → ((i : ℕ) → SayTheSame names others (f i) (g i))
      → SayTheSame names others (pieces f (length a.code)) (pieces g (length b.code))
  all_parts_same f g each =
      ap (λ (code : List Insn). map (type_state_at names) (pieces f (length code))) codes_same ∙ pieces_same names others f g each (length b.code)

  emitted_same : IsSameEmission names others (emission a first states (given_with constants array)) (emission b first more (given_with constants other))
  unfolding emission
  emitted_same = record {
    rest = same_rest constants a b first states more array other bare;
    frames = all_parts_same (frames_at a first states (given_with constants array)) (frames_at b first more (given_with constants other)) frames_at_same;
    wide_frames = all_parts_same (wide_frames_at a first states (given_with constants array)) (wide_frames_at b first more (given_with constants other)) wide_frames_at_same;
  }

-- the same code, ready for its layout
pub readied_same : (fetch : Fetch) (giver : ℕ) (names others : Names) (e f : Emitted) → IsSameEmission names others e f
    → IsSameEmission names others (readied fetch giver e) (readied fetch giver f)
readied_same fetch giver names others e f same =
    record { rest = ap (readied fetch giver) same.rest; frames = same.frames; wide_frames = same.wide_frames }

pub same_emission : (constants : ProbeConstants) (names others : Names) (a b : Body) → AreSame names others a b → (first : ℕ) (states more : List State)
    (array other : ℕ) → IsArrayNumber names array → IsArrayNumber others other → AreStates names a states → AreStates others b more
    → IsSameEmission names others (ready_emission a first states (given_with constants array) constants.giver)
    (ready_emission b first more (given_with constants other) constants.giver)
same_emission constants names others a b same first states more array other named called p q =
    readied_same constants.fetch constants.giver names others (emission a first states (given_with constants array))
    (emission b first more (given_with constants other))
    (emitted_same constants names others a b first states more array other (same_but_frames names others a b same) same.seen named called
    (same_states names others a b same states more p q))

-- ---- what is written of it

module _ (names others : Names) (e f : Emitted) (same : IsSameEmission names others e f) where
  pub same_written : written_frames names e ≡ written_frames others f
  same_written =
      ap (λ (x : Emitted). map (type_state_at names) (merged e.frames (used_frames (chosen x.code) e.wide_frames))) same.rest
      ∙ merged_same names others e.frames f.frames (used_frames (chosen f.code) e.wide_frames) (used_frames (chosen f.code) f.wide_frames) same.frames
      (used_same names others (chosen f.code) e.wide_frames f.wide_frames same.wide_frames)

  pub same_twin_code : (pool : PoolValue) (fetch : Fetch) (giver array frames_name : ℕ)
      → twin_code pool fetch giver array frames_name names e ≡ twin_code pool fetch giver array frames_name others f
  unfolding twin_code
  same_twin_code pool fetch giver array frames_name =
      ap₂ (λ (x : Emitted) (frames : List TypeStateAt). code_text x.max_stack x.max_locals (with_place fetch giver array (chosen_text x.code))
      (counted_text (row_text (offset_in x)) x.handlers) (code_attributes pool frames_name x frames)) same.rest same_written
