-- The frames of instrumented code have moved states of the body, and how many frames there are.
use Rattle.std.proofs.Common.{◌≡◌, ◌⊎◌, inl, inr, ⊎_elim, ℕ, zero, suc, ◌+◌, ◌*◌, ◌≤◌, Bool, true, false, ◌&&◌, ◌||◌, List, [], ◌∷◌, ◌++◌, length, Option, Some, None, refl, sym, ap, arith, if◌then◌else◌, nat_eq, nat_lt, length-append}
use Rattle.std.specs.Prelude.{Contains, is_some, is_none}
use Rattle.std.proofs.lemmas.List.Elements.{Contains-append_cases}
use Rattle.jc_methods.specs.Flow.{flow_of}
use Rattle.jc_bytes.specs.PlainLists.{pieces, total}
use Rattle.jc_methods.specs.Widened.{WideSet}
use Rattle.jc_methods.specs.declared.body.Body.{Body}
use Rattle.jc_methods.specs.declared.body.FrameAt.{FrameAt}
use Rattle.jc_methods.specs.declared.kind.State.{State}
use Rattle.jc_bytes.proofs.FirstSeenLaws.{contains_one}
use Rattle.jc_bytes.proofs.BooleanLaws.{none_in}
use Rattle.jc_plan.specs.declared.branch.Branch.{Branch}
use Rattle.jc_plan.specs.Plan.{lead_probe}
use Rattle.jc_plan.specs.Probed.{probe_of}
use Rattle.jc_emit.specs.Emission.{Emitting, emission, frame, frame_if, moved_state, has_frame, has_inverse, tests_by, arm_frame, arm_frames, frames_at, wide_frames_at}
use Rattle.jc_emit.specs.Items.{lead_of, land_of, image_of}
use Rattle.jc_emit.specs.Sizes.{narrow, insn_at, late_probe, arms_at, arm_sizes, hop_size}
use Rattle.jc_emit.specs.TwinFrames.{state_at, left_by, state_behind}
use Rattle.jc_emit.proofs.FrameListsLaws.{in_piece, if_listed}
use Rattle.jc_layout.specs.Layout.{chosen}
use Rattle.jc_layout.specs.Merged.{is_used_by, merged, used_frames, with_frame}
use Rattle.jc_layout.proofs.MergedLaws.{merged_cases, used_cases}
use Rattle.jc_instrument_code.specs.TwinCode.{chosen_frames}
use Rattle.jc_instrument_reread.specs.WrittenCode.{ready_emission}

-- how many instructions the arms of a switch take
abbrev pub arms_size : Body → (first : ℕ) → ℕ → ℕ
arms_size b first i = arm_sizes (probe_of b first) (arms_at b.code i)

module _ (b : Body) (first : ℕ) (states : List State) (given : Emitting) where
  abbrev moved : State → State
  moved s = moved_state b first states given s

  -- the state before an instruction, or what it leaves of it
  abbrev pub IsOf : State → Type 0
  IsOf s = (i : ℕ) × ((s ≡ state_at states i) ⊎ (s ≡ left_by (insn_at b.code i) (state_at states i)))

  pub record IsMoved (f : FrameAt) : Type 0 where
    pub state : State
    pub of : IsOf state
    pub is : f.state ≡ moved_state b first states given state

  moved_frame : (q : ℕ) (s : State) (f : FrameAt) → IsOf s → frame q (moved s) ≡ f → IsMoved f
  moved_frame q s f of same = record { state = s; of = of; is = ap (λ (g : FrameAt). g.state) (sym same) }

  before : (i : ℕ) → IsOf (state_at states i)
  before i = (i, inl refl)

  left : (i : ℕ) → IsOf (left_by (insn_at b.code i) (state_at states i))
  left i = (i, inr refl)

  behind : (i : ℕ) (o : Option ℕ) → IsOf (state_behind b states i o)
  behind i None = before (i + 1)
  behind i (Some id) = left i

  one_moved : (t : Bool) (q : ℕ) (s : State) (f : FrameAt) → IsOf s → Contains (frame_if t (frame q (moved s))) f → IsMoved f
  one_moved t q s f of c = moved_frame q s f of (if_listed t (frame q (moved s)) f c).1

  arms_moved : (here : ℕ) (s : State) (xs : List Branch) → IsOf s → (f : FrameAt) → Contains (arm_frames b first states given here (moved s) xs) f → IsMoved f
  arms_moved here s [] of f c = absurd (none_in f c)
  arms_moved here s (x ∷ xs) of f c =
      ⊎_elim (λ front. single (probe_of b first x) front)
      (λ rest. arms_moved (here + hop_size (probe_of b first x)) s xs of f rest)
      (Contains-append_cases (arm_frame b first states given here (moved s) (probe_of b first x)) _ f c)
    where
      single : (o : Option ℕ) → Contains (arm_frame b first states given here (moved s) o) f → IsMoved f
      single None d = absurd (none_in f d)
      single (Some id) d = moved_frame here s f of (contains_one (frame here (moved s)) f d)

  abbrev lead_frames : ℕ → List FrameAt
  lead_frames i =
      frame_if (has_inverse b first states given i && is_some (lead_probe b first i)) (frame (lead_of b first (narrow given.fetch) i) (moved (state_at states i)))

  abbrev land_frames : ℕ → List FrameAt
  land_frames i =
      frame_if (has_frame b first states given i || (has_inverse b first states given i && is_none (lead_probe b first i)))
      (frame (land_of b first (narrow given.fetch) i) (moved (state_at states i)))

  abbrev switch_frames : ℕ → List FrameAt
  switch_frames i =
      arm_frames b first states given (image_of b first (narrow given.fetch) i + 1) (moved (left_by (insn_at b.code i) (state_at states i))) (arms_at b.code i)

  abbrev narrow_frames : List FrameAt
  narrow_frames = pieces (frames_at b first states given) (length b.code)

  abbrev further : List FrameAt
  further = pieces (wide_frames_at b first states given) (length b.code)

  narrow_moved : (f : FrameAt) → Contains narrow_frames f → IsMoved f
  narrow_moved f c =
      let p = in_piece (frames_at b first states given) (length b.code) f c in
      let i = p.piece in
      ⊎_elim (λ front. one_moved _ (lead_of b first (narrow given.fetch) i) (state_at states i) f (before i) front)
      (λ rest.
      ⊎_elim (λ middle. one_moved _ (land_of b first (narrow given.fetch) i) (state_at states i) f (before i) middle)
      (λ last. arms_moved (image_of b first (narrow given.fetch) i + 1) (left_by (insn_at b.code i) (state_at states i)) (arms_at b.code i) (left i) f last)
      (Contains-append_cases (land_frames i) (switch_frames i) f rest))
      (Contains-append_cases (lead_frames i) _ f p.listed)

  further_moved : (f : FrameAt) → Contains further f → IsMoved f
  further_moved f c =
      let p = in_piece (wide_frames_at b first states given) (length b.code) f c in
      let i = p.piece in
      one_moved (tests_by b first states given (flow_of (insn_at b.code i))) (image_of b first (narrow given.fetch) i + 1)
      (state_behind b states i (late_probe b first i)) f (behind i (late_probe b first i)) p.listed

  chosen_moved : (wide : WideSet) (f : FrameAt) → Contains (merged narrow_frames (used_frames wide further)) f → IsMoved f
  chosen_moved wide f c =
      ⊎_elim (λ old. narrow_moved f old) (λ more. further_moved f (used_cases wide further f more).0)
      (merged_cases narrow_frames (used_frames wide further) f c)

  -- each frame that is written has a moved state
  pub each_moved : (giver : ℕ) (f : FrameAt) → Contains (chosen_frames (ready_emission b first states given giver)) f → IsMoved f
  unfolding emission
  each_moved giver f c = chosen_moved (chosen (ready_emission b first states given giver).code) f c

  -- ---- how many there are

  if_most : (t : Bool) (f : FrameAt) → length (frame_if t f) ≤ 1
  if_most true f = omega arith
  if_most false f = omega arith

  arms_count : (here : ℕ) (s : State) (xs : List Branch) → 5 * length (arm_frames b first states given here s xs) ≡ arm_sizes (probe_of b first) xs
  arms_count here s [] = refl
  arms_count here s (x ∷ xs) = by (probe_of b first x) (λ there. arms_count there s xs)
    where
      by : (o : Option ℕ) → ((there : ℕ) → 5 * length (arm_frames b first states given there s xs) ≡ arm_sizes (probe_of b first) xs)
          → 5 * length (arm_frame b first states given here s o ++ arm_frames b first states given (here + hop_size (probe_of b first x)) s xs)
          ≡ hop_size o + arm_sizes (probe_of b first) xs
      by None more = let rest = more (here + hop_size (probe_of b first x)) in omega (arith, rest)
      by (Some id) more = let rest = more (here + hop_size (probe_of b first x)) in omega (arith, rest)

  frames_most : (i : ℕ) → 5 * length (frames_at b first states given i) ≤ 10 + arms_size b first i
  frames_most i =
      let lead = if_most (has_inverse b first states given i && is_some (lead_probe b first i)) (frame (lead_of b first (narrow given.fetch) i) (moved (state_at states i))) in
      let land = if_most (has_frame b first states given i || (has_inverse b first states given i && is_none (lead_probe b first i)))
      (frame (land_of b first (narrow given.fetch) i) (moved (state_at states i))) in
      let arms = arms_count (image_of b first (narrow given.fetch) i + 1) (moved (left_by (insn_at b.code i) (state_at states i))) (arms_at b.code i) in
      let both = length-append (lead_frames i) (land_frames i ++ switch_frames i) in
      let more = length-append (land_frames i) (switch_frames i) in
      omega (arith, lead, land, arms, both, more)

  narrow_most : (n : ℕ) → 5 * length (pieces (frames_at b first states given) n) ≤ 10 * n + total (arms_size b first) n
  narrow_most zero = omega arith
  narrow_most (suc n) =
      let rest = narrow_most n in
      let one = frames_most n in
      let both = length-append (pieces (frames_at b first states given) n) (frames_at b first states given n) in
      omega (arith, rest, one, both)

  further_most : (n : ℕ) → length (pieces (wide_frames_at b first states given) n) ≤ n
  further_most zero = omega arith
  further_most (suc n) =
      let rest = further_most n in
      let one = if_most (tests_by b first states given (flow_of (insn_at b.code n)))
      (frame (image_of b first (narrow given.fetch) n + 1) (moved (state_behind b states n (late_probe b first n)))) in
      let both = length-append (pieces (wide_frames_at b first states given) n) (wide_frames_at b first states given n) in
      omega (arith, rest, one, both)

  with_count : (f : FrameAt) (gs : List FrameAt) → length (with_frame f gs) ≤ length gs + 1
  with_count f [] = omega arith
  with_count f (g ∷ gs) = by (nat_lt f.at g.at) (nat_eq f.at g.at) (with_count f gs)
    where
      by : (t u : Bool) → length (with_frame f gs) ≤ length gs + 1
          → length (if t then f ∷ g ∷ gs else if u then g ∷ gs else g ∷ with_frame f gs) ≤ length (g ∷ gs) + 1
      by true u rest = omega arith
      by false true rest = omega arith
      by false false rest = omega (arith, rest)

  merged_count : (fs gs : List FrameAt) → length (merged fs gs) ≤ length fs + length gs
  merged_count fs [] = omega arith
  merged_count fs (g ∷ gs) =
      let rest = merged_count fs gs in
      let one = with_count g (merged fs gs) in
      omega (arith, rest, one)

  used_count : (wide : WideSet) (fs : List FrameAt) → length (used_frames wide fs) ≤ length fs
  used_count wide [] = omega arith
  used_count wide (f ∷ fs) = by (is_used_by wide f.at) (used_count wide fs)
    where
      by : (t : Bool) → length (used_frames wide fs) ≤ length fs
          → length (if t then f ∷ used_frames wide fs else used_frames wide fs) ≤ length (f ∷ fs)
      by true rest = omega (arith, rest)
      by false rest = omega (arith, rest)

  chosen_most : (wide : WideSet) → 5 * length (merged narrow_frames (used_frames wide further)) ≤ 15 * length b.code + total (arms_size b first) (length b.code)
  chosen_most wide =
      let most = narrow_most (length b.code) in
      let more = further_most (length b.code) in
      let used = used_count wide further in
      let both = merged_count narrow_frames (used_frames wide further) in
      omega (arith, most, more, used, both)

  pub written_most : (giver : ℕ)
      → 5 * length (chosen_frames (ready_emission b first states given giver)) ≤ 15 * length b.code + total (arms_size b first) (length b.code)
  unfolding emission
  written_most giver = chosen_most (chosen (ready_emission b first states given giver).code)
