-- The frames of instrumented code can be written.
use Rattle.std.proofs.Common.{◌≡◌, ◌⊎◌, inl, inr, ⊎_elim, ℕ, zero, suc, ◌+◌, ◌-◌, ◌<◌, ◌≤◌, Bool, ◌&&◌, ◌||◌, List, [], ◌∷◌, length, map, take, drop, Option, Some, None, refl, sym, ◌∙◌, ap, subst, arith}
use Rattle.std.specs.Prelude.{Contains, sum_by, insert, is_some, is_none, slice_index}
use Rattle.std.specs.List.{AllByRecursion}
use Rattle.std.proofs.lemmas.Bool.{cases_lt}
use Rattle.std.proofs.lemmas.List.{get_or_past, length-map}
use Rattle.std.proofs.lemmas.List.Elements.{Contains-append_cases}
use Rattle.std.proofs.lemmas.List.Sums.{sum_by-cons}
use Rattle.std.proofs.lemmas.Option.{slice_get_within, slice_get-get_or}
use Rattle.jc_methods.specs.Flow.{flow_of}
use Rattle.jc_methods.specs.VerificationTypes.{Names, IsNumbered, IsNumberedState}
use Rattle.jc_bytes.specs.PlainLists.{pieces}
use Rattle.jc_methods.specs.WellMade.{IsKind, IsWellMadeOfAnySize, kind_slots}
use Rattle.jc_methods.specs.Widened.{listed}
use Rattle.jc_methods.specs.Opcode as opcode
use Rattle.jc_methods.specs.declared.body.Body.{Body}
use Rattle.jc_methods.specs.declared.body.FrameAt.{FrameAt}
use Rattle.jc_methods.specs.declared.emitted.Emitted.{Emitted}
use Rattle.jc_methods.specs.declared.insn.Insn.{Insn}
use Rattle.jc_methods.specs.declared.insn.Insn.TheVariants as insns
use Rattle.jc_methods.specs.declared.kind.Kind.{Kind}
use Rattle.jc_methods.specs.declared.kind.Kind.TheVariants as kinds
use Rattle.jc_methods.specs.declared.kind.State.{State}
use Rattle.jc_bytes.proofs.FirstSeenLaws.{contains_one}
use Rattle.jc_methods.specs.FrameOrder.{RiseFrom}
use Rattle.jc_bytes.proofs.BooleanLaws.{none_in, first_in, later_in}
use Rattle.jc_frames.specs.FullTable.{AreRisingOffsets, CanBeWritten, FitsFull, IsPlaced}
use Rattle.jc_frames.proofs.BuildingLaws.{by_recursion}
use Rattle.jc_kinds.specs.Answers.{AreStates, IsStateAt}
use Rattle.jc_plan.specs.declared.branch.Branch.{Branch}
use Rattle.jc_plan.specs.Probed.{probe_of}
use Rattle.jc_plan.specs.Plan.{lead_probe}
use Rattle.jc_plan.proofs.CountLaws.{each_joined, each_mapped}
use Rattle.jc_emit.specs.Marks.{unplaced}
use Rattle.jc_emit.specs.Shift.{image_kind, probe_array_class, shifted_state}
use Rattle.jc_emit.specs.Sizes.{narrow, insn_at, late_probe, arms_at, hop_size, arm_sizes}
use Rattle.jc_emit.specs.TwinFrames.{no_state, operands_of, state_at, left_by, state_behind}
use Rattle.jc_emit.specs.Items.{insn_of, lead_of, land_of, image_of, segment_size, twin_items}
use Rattle.jc_emit.specs.Emission.{emission, IsArrayNumber, frame, frame_if, moved_state, has_frame, has_inverse, tests_by, arm_frame, arm_frames, frames_at, wide_frames_at}
use Rattle.jc_emit.specs.Refusing.{HasRoom}
use Rattle.jc_emit.specs.Stages.{AreLayoutFrames, emitted_code}
use Rattle.jc_emit.specs.Twin.{IsEmitted}
use Rattle.jc_emit.specs.Written.{integer_in}
use Rattle.jc_emit.proofs.BuiltLaws.{length_twin, some_prelude}
use Rattle.jc_emit.proofs.FrameListsLaws.{in_piece, if_listed}
use Rattle.jc_emit.proofs.RowLaws.{total_grows}
use Rattle.jc_emit.proofs.WideFrameLaws.{emitted}
use Rattle.jc_layout.specs.Layout.{chosen}
use Rattle.jc_layout.specs.Merged.{merged, used_frames}
use Rattle.jc_layout.proofs.ChoiceLaws.{chosen_count}
use Rattle.jc_layout.proofs.LayableLaws.{ready_length}
use Rattle.jc_layout.proofs.LayoutFramesLaws.{frames_laid}
use Rattle.jc_layout.proofs.MergedLaws.{merged_cases, merged_rises, used_cases}
use Rattle.jc_layout.specs.declared.layouts.Laid.{Laid}
use Rattle.jc_instrument_code.specs.Given.{AreFrames, IsLaid}
use Rattle.jc_instrument_code.specs.TwinCode.{chosen_frames}
use Rattle.jc_instrument_code.proofs.LaidLaws.{can_be_written, laid_length, laid_rise}
use Rattle.jc_instrument.specs.Constants.{given_with}
use Rattle.jc_instrument.specs.declared.constants.ProbeConstants.{ProbeConstants}
use Rattle.jc_instrument_reread.specs.WrittenCode.{ready_emission}
use Rattle.jc_instrument.proofs.GivenLaws.{layout_same}
use Rattle.jc_instrument.proofs.ProbingLaws.{array_stands, emission_code}

-- ---- values

pub array_below : (names : Names) (array : ℕ) → IsArrayNumber names array → array < length names
array_below names array is = slice_get_within names array probe_array_class (array_stands names array is)

module _ (P : Kind → Type 0) where
  pub some_taken : (n : ℕ) (ks : List Kind) → AllByRecursion P ks → AllByRecursion P (take n ks)
  some_taken zero ks all = tt
  some_taken (suc n) [] all = tt
  some_taken (suc n) (k ∷ ks) all = (all.0, some_taken n ks all.1)

  some_dropped : (n : ℕ) (ks : List Kind) → AllByRecursion P ks → AllByRecursion P (drop n ks)
  some_dropped zero ks all = all
  some_dropped (suc n) [] all = tt
  some_dropped (suc n) (k ∷ ks) all = some_dropped n ks all.1

  pub one_put_in : (v : ℕ) (k : Kind) (ks : List Kind) → P k → AllByRecursion P ks → AllByRecursion P (insert ks v k)
  one_put_in v k ks one all = each_joined P (take v ks) (k ∷ drop v ks) (some_taken v ks all) (one, some_dropped v ks all)

pub fewer_taken : (n : ℕ) (ks : List Kind) → length (take n ks) ≤ length ks
fewer_taken zero ks = omega arith
fewer_taken (suc n) [] = omega arith
fewer_taken (suc n) (k ∷ ks) = let less = fewer_taken n ks in omega (arith, less)

pub put_in_count : (v : ℕ) (k : Kind) (ks : List Kind) → length (insert ks v k) ≡ length ks + 1
put_in_count zero k ks = omega arith
put_in_count (suc v) k [] = omega arith
put_in_count (suc v) k (x ∷ ks) = let more = put_in_count v k ks in omega (arith, more)

some_slot : (k : Kind) → 1 ≤ kind_slots k
some_slot kinds.Top = omega arith
some_slot kinds.Int = omega arith
some_slot kinds.Float = omega arith
some_slot kinds.Double = omega arith
some_slot kinds.Long = omega arith
some_slot kinds.Null = omega arith
some_slot kinds.UninitThis = omega arith
some_slot (kinds.Object n) = omega arith
some_slot (kinds.Uninit at) = omega arith

pub slots_above : (ks : List Kind) → length ks ≤ sum_by kind_slots ks
slots_above [] = omega arith
slots_above (k ∷ ks) = let a = slots_above ks in let b = some_slot k in let e = sum_by-cons kind_slots k ks in omega (arith, a, b, e)

-- ---- states

-- what a full frame can say, by the values alone
record IsSayable (most names : ℕ) (s : State) : Type 0 where
  few_locals : length s.locals ≤ 65535
  few_stack : length s.stack ≤ 65535
  numbered : IsNumberedState names s
  local_places : AllByRecursion (IsPlaced most) s.locals
  stack_places : AllByRecursion (IsPlaced most) s.stack

-- a state of the body, whose values are numbered and whose new objects are those of its instructions
record IsSource (code : List Insn) (names : ℕ) (s : State) : Type 0 where
  few_locals : length s.locals + 1 ≤ 65535
  few_stack : length s.stack ≤ 65535
  numbered : IsNumberedState names s
  local_kinds : AllByRecursion (IsKind code) s.locals
  stack_kinds : AllByRecursion (IsKind code) s.stack

module _ (code : List Insn) (names most : ℕ) (place : ℕ → ℕ) (within : (i : ℕ) → i < length code → place i < most) where
  kind_placed : (k : Kind) → IsKind code k → IsPlaced most (image_kind place k)
  kind_placed (kinds.Uninit at) is = within at (slice_get_within code at (insns.OfClass opcode.new is.0) is.1)
  kind_placed kinds.Top is = tt
  kind_placed kinds.Int is = tt
  kind_placed kinds.Float is = tt
  kind_placed kinds.Double is = tt
  kind_placed kinds.Long is = tt
  kind_placed kinds.Null is = tt
  kind_placed kinds.UninitThis is = tt
  kind_placed (kinds.Object n) is = tt

  kind_numbered : (k : Kind) → IsNumbered names k → IsNumbered names (image_kind place k)
  kind_numbered (kinds.Object n) is = is
  kind_numbered (kinds.Uninit at) is = tt
  kind_numbered kinds.Top is = tt
  kind_numbered kinds.Int is = tt
  kind_numbered kinds.Float is = tt
  kind_numbered kinds.Double is = tt
  kind_numbered kinds.Long is = tt
  kind_numbered kinds.Null is = tt
  kind_numbered kinds.UninitThis is = tt

  all_placed : (ks : List Kind) → AllByRecursion (IsKind code) ks → AllByRecursion (IsPlaced most) (map (image_kind place) ks)
  all_placed [] all = tt
  all_placed (k ∷ ks) all = (kind_placed k all.0, all_placed ks all.1)

  all_numbered : (ks : List Kind) → AllByRecursion (IsNumbered names) ks → AllByRecursion (IsNumbered names) (map (image_kind place) ks)
  all_numbered [] all = tt
  all_numbered (k ∷ ks) all = (kind_numbered k all.0, all_numbered ks all.1)

  shifted_sayable : (v array : ℕ) (s : State) → array < names → IsSource code names s → IsSayable most names (shifted_state v array place s)
  shifted_sayable v array s below source = record {
    few_locals =
        let e = put_in_count v (kinds.Object array) (map (image_kind place) s.locals) in
        let l = length-map s.locals (image_kind place) in
        let few = source.few_locals in
        omega (arith, e, l, few);
    few_stack = let l = length-map s.stack (image_kind place) in let few = source.few_stack in omega (arith, l, few);
    numbered = record {
      locals = one_put_in (IsNumbered names) v (kinds.Object array) (map (image_kind place) s.locals) below (all_numbered s.locals source.numbered.locals);
      stack = all_numbered s.stack source.numbered.stack;
    };
    local_places = one_put_in (IsPlaced most) v (kinds.Object array) (map (image_kind place) s.locals) tt (all_placed s.locals source.local_kinds);
    stack_places = all_placed s.stack source.stack_kinds;
  }

left_source : (code : List Insn) (names : ℕ) (insn : Insn) (s : State) → IsSource code names s → IsSource code names (left_by insn s)
left_source code names insn s source = record {
  few_locals = source.few_locals;
  few_stack = let less = fewer_taken (length s.stack - operands_of insn) s.stack in let few = source.few_stack in omega (arith, less, few);
  numbered = record { locals = source.numbered.locals; stack = some_taken (IsNumbered names) (length s.stack - operands_of insn) s.stack source.numbered.stack };
  local_kinds = source.local_kinds;
  stack_kinds = some_taken (IsKind code) (length s.stack - operands_of insn) s.stack source.stack_kinds;
}

-- ---- frames

-- the frame stands behind the prelude and at most at the end, and can be said
record IsDone (end names : ℕ) (f : FrameAt) : Type 0 where
  behind : 2 ≤ f.at
  within : f.at ≤ end
  sayable : IsSayable (end + 1) names f.state

module _ (constants : ProbeConstants) (b : Body) (first : ℕ) (states : List State) (array : ℕ) (names : Names) (are : AreStates names b states) (array_is : IsArrayNumber names array)
    (locals : b.max_locals + 1 ≤ 65535) (stack : b.max_stack ≤ 65535) where
  abbrev lead : ℕ → ℕ
  lead i = lead_of b first (narrow constants.fetch) i

  abbrev land : ℕ → ℕ
  land i = land_of b first (narrow constants.fetch) i

  abbrev q_of : ℕ → ℕ
  q_of i = image_of b first (narrow constants.fetch) i

  abbrev end : ℕ
  end = lead (length b.code)

  abbrev moved : State → State
  moved s = moved_state b first states (given_with constants array) s

  abbrev Done : FrameAt → Type 0
  Done f = IsDone end (length names) f

  abbrev Source : State → Type 0
  Source s = IsSource b.code (length names) s

  lead_grows : (i j : ℕ) → i ≤ j → lead i ≤ lead j
  lead_grows i j le = omega (arith, total_grows (segment_size b first (narrow constants.fetch)) i j le)

  image_within : (i : ℕ) → i < length b.code → q_of i < end
  image_within i lt = let g = lead_grows (suc i) (length b.code) (omega (arith, lt)) in omega (arith, g)

  of_state : (i : ℕ) (s : State) → IsStateAt names b i s → Source s
  of_state i s is = record {
    few_locals = let e = is.well_made.locals in omega (arith, e, locals);
    few_stack = let a = slots_above s.stack in let e = is.well_made.stack in omega (arith, a, e, stack);
    numbered = is.numbered;
    local_kinds = by_recursion (IsKind b.code) s.locals is.well_made.local_kinds;
    stack_kinds = by_recursion (IsKind b.code) s.stack is.well_made.stack_kinds;
  }

  no_source : Source no_state
  no_source = record { few_locals = omega arith; few_stack = omega arith; numbered = record { locals = tt; stack = tt }; local_kinds = tt; stack_kinds = tt }

  source_at : (i : ℕ) → Source (state_at states i)
  source_at i = by (cases_lt i (length states))
    where
      by : (i < length states) ⊎ (length states ≤ i) → Source (state_at states i)
      by (inl lt) = of_state i (state_at states i) (are.each i (state_at states i) (slice_get-get_or states i no_state lt))
      by (inr past) = subst Source (sym (get_or_past states i no_state past)) no_source

  behind_source : (i : ℕ) (o : Option ℕ) → Source (state_behind b states i o)
  behind_source i None = source_at (i + 1)
  behind_source i (Some id) = left_source b.code (length names) (insn_at b.code i) (state_at states i) (source_at i)

  moved_done : (q : ℕ) (s : State) → 2 ≤ q → q ≤ end → Source s → Done (frame q (moved s))
  moved_done q s behind within source = record {
    behind = behind;
    within = within;
    sayable = shifted_sayable b.code (length names) (end + 1) q_of (λ i lt. let w = image_within i lt in omega (arith, w)) b.arg_slots array s
        (array_below names array array_is) source;
  }

  abbrev leads_there : ℕ → Bool
  leads_there i = has_inverse b first states (given_with constants array) i && is_some (lead_probe b first i)

  abbrev lands_there : ℕ → Bool
  lands_there i = has_frame b first states (given_with constants array) i || (has_inverse b first states (given_with constants array) i && is_none (lead_probe b first i))

  abbrev lead_frames : ℕ → List FrameAt
  lead_frames i = frame_if (leads_there i) (frame (lead i) (moved (state_at states i)))

  abbrev land_frames : ℕ → List FrameAt
  land_frames i = frame_if (lands_there i) (frame (land i) (moved (state_at states i)))

  abbrev left : ℕ → State
  left i = left_by (insn_at b.code i) (state_at states i)

  lead_done : (i : ℕ) (f : FrameAt) → i < length b.code → Contains (lead_frames i) f → Done f
  lead_done i f lt c =
      let h = if_listed (leads_there i) (frame (lead i) (moved (state_at states i))) f c in
      let w = image_within i lt in
      subst Done h.1 (moved_done (lead i) (state_at states i) (omega (arith, some_prelude constants.fetch)) (omega (arith, w)) (source_at i))

  land_done : (i : ℕ) (f : FrameAt) → i < length b.code → Contains (land_frames i) f → Done f
  land_done i f lt c =
      let h = if_listed (lands_there i) (frame (land i) (moved (state_at states i))) f c in
      let w = image_within i lt in
      subst Done h.1 (moved_done (land i) (state_at states i) (omega (arith, some_prelude constants.fetch)) (omega (arith, w)) (source_at i))

  arms_done : (here : ℕ) (s : State) (xs : List Branch) → Source s → 2 ≤ here → here + arm_sizes (probe_of b first) xs ≤ end
      → (f : FrameAt) → Contains (arm_frames b first states (given_with constants array) here (moved s) xs) f → Done f
  arms_done here s [] source behind within f c = absurd (none_in f c)
  arms_done here s (x ∷ xs) source behind within f c =
      ⊎_elim (λ front. single (probe_of b first x) front)
      (λ rest. arms_done (here + hop_size (probe_of b first x)) s xs source (omega (arith, behind)) (omega (arith, within)) f rest)
      (Contains-append_cases (arm_frame b first states (given_with constants array) here (moved s) (probe_of b first x)) _ f c)
    where
      single : (o : Option ℕ) → Contains (arm_frame b first states (given_with constants array) here (moved s) o) f → Done f
      single None d = absurd (none_in f d)
      single (Some id) d = subst Done (contains_one (frame here (moved s)) f d) (moved_done here s behind (omega (arith, within)) source)

  arms_within : (i : ℕ) → i < length b.code → q_of i + 1 + arm_sizes (probe_of b first) (arms_at b.code i) ≤ end
  arms_within i lt = let g = lead_grows (suc i) (length b.code) (omega (arith, lt)) in omega (arith, g)

  each_done : (f : FrameAt) → Contains (pieces (frames_at b first states (given_with constants array)) (length b.code)) f → Done f
  each_done f c =
      let p = in_piece (frames_at b first states (given_with constants array)) (length b.code) f c in
      let i = p.piece in
      ⊎_elim (λ front. lead_done i f p.within front)
      (λ rest.
      ⊎_elim (λ middle. land_done i f p.within middle)
      (λ last. arms_done (q_of i + 1) (left i) (arms_at b.code i) (left_source b.code (length names) (insn_at b.code i) (state_at states i) (source_at i)) (omega (arith, some_prelude constants.fetch))
      (arms_within i p.within) f last)
      (Contains-append_cases (land_frames i) (arm_frames b first states (given_with constants array) (q_of i + 1) (moved (left i)) (arms_at b.code i)) f rest))
      (Contains-append_cases (lead_frames i) _ f p.listed)

  each_wide_done : (f : FrameAt) → Contains (pieces (wide_frames_at b first states (given_with constants array)) (length b.code)) f → Done f
  each_wide_done f c =
      let p = in_piece (wide_frames_at b first states (given_with constants array)) (length b.code) f c in
      let i = p.piece in
      let s = state_behind b states i (late_probe b first i) in
      let h = if_listed (tests_by b first states (given_with constants array) (flow_of (insn_at b.code i))) (frame (q_of i + 1) (moved s)) f p.listed in
      let w = image_within i p.within in
      subst Done h.1 (moved_done (q_of i + 1) s (omega (arith, some_prelude constants.fetch)) (omega (arith, w)) (behind_source i (late_probe b first i)))

-- ---- lists of frames

all_listed : (P : FrameAt → Type 0) (frames : List FrameAt) → ((f : FrameAt) → Contains frames f → P f) → AllByRecursion P frames
all_listed P [] each = tt
all_listed P (f ∷ frames) each = (each f (first_in f frames), all_listed P frames (λ g c. each g (later_in f frames g c)))

count_below : (from end : ℕ) (frames : List FrameAt) → RiseFrom from frames → AllByRecursion (λ f. f.at ≤ end) frames → from ≤ end + 1 → from + length frames ≤ end + 1
count_below from end [] rising all le = omega (arith, le)
count_below from end (f ∷ frames) rising all le =
    let first = rising.0 in
    let here = all.0 in
    let more = count_below (f.at + 1) end frames rising.1 all.1 (omega (arith, here)) in
    omega (arith, first, more)

few_frames : (end names : ℕ) (frames : List FrameAt) → RiseFrom 0 frames → AllByRecursion (IsDone end names) frames → 1 ≤ end → length frames + 1 ≤ end
few_frames end names [] rising all some = omega (arith, some)
few_frames end names (f ∷ frames) rising all some =
    let behind = all.0.behind in
    let within = all.0.within in
    let below = each_mapped (IsDone end names) (λ (g : FrameAt). g.at ≤ end) frames (λ g done. done.within) all.1 in
    let more = count_below (f.at + 1) end frames rising.1 below (omega (arith, within)) in
    omega (arith, behind, more)

fits : (end names : ℕ) (f : FrameAt) → IsDone end names f → FitsFull (end + 1) names f
fits end names f done = record {
  at = let within = done.within in omega (arith, within);
  few_locals = done.sayable.few_locals;
  few_stack = done.sayable.few_stack;
  numbered = done.sayable.numbered;
  local_places = done.sayable.local_places;
  stack_places = done.sayable.stack_places;
}

-- as many bytes as instructions at least
above : (starts : List ℕ) → AreRisingOffsets starts → (k : ℕ) → k < length starts → k ≤ slice_index starts k
above starts rising zero lt = omega arith
above starts rising (suc k) lt =
    let before = above starts rising k (omega (arith, lt)) in
    let e : k + 1 ≡ suc k = omega arith in
    let next = subst (λ (n : ℕ). slice_index starts k < slice_index starts n) e (rising k (omega (arith, lt))) in
    omega (arith, before, next)

few_insns : (e : Emitted) (l : Laid) → IsLaid e l → length e.code ≤ 65535
few_insns e l laid =
    let code = e.code in
    let count = ap (λ (s : List ℕ). length s) laid.starts ∙ chosen_count code in
    let rising = laid_rise e l laid in
    let most = above l.starts rising (length code) (omega (arith, count)) in
    let same = ap (λ (s : List ℕ). slice_index s (length code)) laid.starts in
    let short = laid_length e l laid in
    omega (arith, most, same, short)

-- ---- the frames of a body

module _ (constants : ProbeConstants) (names : Names) (b : Body) (first : ℕ) (states : List State) (array : ℕ) (l : Laid) (are : AreStates names b states) (array_is : IsArrayNumber names array)
    (laid : IsLaid (ready_emission b first states (given_with constants array) constants.giver) l)
    (told : IsEmitted names names states constants.fetch (integer_in constants.integers) first b (emission b first states (given_with constants array)))
    (locals : (emission b first states (given_with constants array)).max_locals ≤ 65535)
    (stack : (emission b first states (given_with constants array)).max_stack ≤ 65535) where
  abbrev e : Emitted
  e = ready_emission b first states (given_with constants array) constants.giver

  few_locals : b.max_locals + 1 ≤ 65535
  few_locals = let m = told.max_locals in omega (arith, m, locals)

  few_stack : b.max_stack ≤ 65535
  few_stack = let m = told.max_stack in omega (arith, m, stack)

  abbrev last : ℕ
  last = lead_of b first (narrow constants.fetch) (length b.code)

  abbrev IsFine : FrameAt → Type 0
  IsFine f = IsDone last (length names) f

  narrow_done : (f : FrameAt) → Contains e.frames f → IsFine f
  unfolding emission
  narrow_done f c = each_done constants b first states array names are array_is few_locals few_stack f c

  wide_done : (f : FrameAt) → Contains e.wide_frames f → IsFine f
  unfolding emission
  wide_done f c = each_wide_done constants b first states array names are array_is few_locals few_stack f c

  chosen_done : (f : FrameAt) → Contains (chosen_frames e) f → IsFine f
  chosen_done f c =
      ⊎_elim (λ old. narrow_done f old) (λ more. wide_done f (used_cases (chosen e.code) e.wide_frames f more).0)
      (merged_cases e.frames (used_frames (chosen e.code) e.wide_frames) f c)

  chosen_rise : RiseFrom 0 (chosen_frames e)
  chosen_rise = merged_rises e.frames (used_frames (chosen e.code) e.wide_frames) told.frames.rising

  code_count : length e.code ≡ last
  code_count =
      ap (λ (c : List Insn). length c) (emission_code constants b first states array)
      ∙ ready_length constants.fetch constants.giver (emitted_code b first constants.fetch (integer_in constants.integers))
      ∙ length-map (twin_items b first (narrow constants.fetch)) (insn_of (unplaced (integer_in constants.integers)) b.arg_slots) ∙ length_twin b first (narrow constants.fetch)

  all_done : AllByRecursion IsFine (chosen_frames e)
  all_done = all_listed IsFine (chosen_frames e) chosen_done

  pub has_frames : AreFrames e (length names) (chosen_frames e)
  has_frames = record {
    are = refl;
    few =
        let most = few_frames last (length names) (chosen_frames e) chosen_rise all_done (omega (arith, some_prelude constants.fetch)) in
        let insns = few_insns e l laid in
        let count = code_count in
        omega (arith, most, insns, count);
    rising = chosen_rise;
    each = subst (λ (n : ℕ). AllByRecursion (FitsFull (n + 1) (length names)) (chosen_frames e)) (sym code_count)
        (each_mapped IsFine (FitsFull (last + 1) (length names)) (chosen_frames e) (λ f done. fits last (length names) f done) all_done);
  }

-- ---- the frames that are made for a layout

module _ (constants : ProbeConstants) (names : Names) (b : Body) (first : ℕ) (states : List State) (l : Laid) (frames : List FrameAt) (well : IsWellMadeOfAnySize b)
    (framed : AreLayoutFrames names b first states constants.fetch (listed l.wide) frames)
    (laid : IsLaid (ready_emission b first states (given_with constants framed.given.array) constants.giver) l) where
  abbrev array_of : ℕ
  array_of = framed.given.array

  abbrev of : Emitted
  of = ready_emission b first states (given_with constants array_of) constants.giver

  pub frames_chosen : frames ≡ chosen_frames of
  frames_chosen =
      framed.are ∙ layout_same b first states framed.given (given_with constants array_of) framed.fetch_is refl (listed l.wide)
      ∙ frames_laid b first states (given_with constants array_of) names well framed.fit framed.array_is (listed l.wide)
      ∙ ap (λ (wide : List Bool). merged of.frames (used_frames (listed wide) of.wide_frames)) laid.wide

  pub frames_written : AreStates names b states → HasRoom b → CanBeWritten l.starts (length names) frames
  unfolding emission
  frames_written are room =
      subst (CanBeWritten l.starts (length names)) (sym frames_chosen)
      (can_be_written of l laid (length names) (chosen_frames of)
      (has_frames constants names b first states array_of l are framed.array_is laid (emitted b first states (given_with constants array_of) names well framed.fit framed.array_is)
      (let few = room.locals in omega (arith, few)) (let few = room.stack in omega (arith, few))))
