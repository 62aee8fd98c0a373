-- The instrumented code of a body before its layout is chosen, and the frames of its wide form: functions of the body.
use Rattle.std.specs.Prelude.{ℕ, zero, suc, ◌+◌, Bool, true, false, ◌&&◌, ◌||◌, List, [], ◌∷◌, ◌++◌, map, length, Option, Some, None, is_some, is_none, nat_eq, if◌then◌else◌, ◌≡◌, ◌⊎◌, slice_index_or, Contains}
use Rattle.std.specs.List.{list_any}
use Rattle.jc_methods.specs.VerificationTypes.{Names}
use Rattle.jc_methods.specs.WellMade.{IsWellMadeOfAnySize}
use Rattle.jc_bytes.specs.PlainLists.{pieces}
use Rattle.jc_methods.specs.Flow.{flow_of}
use Rattle.jc_methods.specs.FrameOrder.{RiseFrom}
use Rattle.jc_methods.specs.declared.insn.Flow.{Flow}
use Rattle.jc_methods.specs.declared.kind.State.{State}
use Rattle.jc_methods.specs.declared.body.Body.{Body}
use Rattle.jc_methods.specs.declared.body.FrameAt.{FrameAt}
use Rattle.jc_methods.specs.declared.body.Handler.{Handler}
use Rattle.jc_methods.specs.declared.emitted.Emitted.{Emitted}
use Rattle.jc_plan.specs.declared.branch.Branch.{Branch}
use Rattle.jc_plan.specs.Probed.{probe_of}
use Rattle.jc_plan.specs.Plan.{lead_probe}
use Rattle.jc_emit.specs.Marks.{unplaced}
use Rattle.jc_emit.specs.Shift.{probe_array_class, shifted_state, image_kind}
use Rattle.jc_emit.specs.Sizes.{TwinForm, narrow, insn_at, late_probe, arms_at, hop_size}
use Rattle.jc_methods.specs.Widened.{WideSet, wide_place}
use Rattle.jc_methods.specs.declared.probe_members.Fetch.{Fetch}
use Rattle.jc_emit.specs.TwinTables.{moved_row, moved_line, moved_var}
use Rattle.jc_emit.specs.TwinFrames.{state_at, left_by, state_behind, IsFrame, AreTwinFrames}
use Rattle.jc_emit.specs.Items.{Item, insn_of, at_of, own_of, extra_of, lead_of, land_of, image_of, twin_items}
use Rattle.jc_methods.specs.declared.insn.Flow.TheVariants as flows

-- a row of the exception table of a twin in this form
abbrev pub twin_row : Body → (first : ℕ) → TwinForm → Handler → Handler
twin_row b first form = moved_row (lead_of b first form) (land_of b first form)

-- the states at the instructions of frames are those of the frames
abbrev pub HasFrameStates : Body → List State → Type 0
HasFrameStates b states = (f : FrameAt) → Contains b.frames f → state_at states f.at ≡ f.state

-- the number is that of the class of the array of probes
abbrev pub IsArrayNumber : Names → ℕ → Type 0
IsArrayNumber names array = slice_index_or names array [] ≡ probe_array_class

-- what instrumented code is made from: a well made body, the states of its frames, and the number of the class of the array
-- of probes
pub record CanEmit (b : Body) (states : List State) (names : Names) (array : ℕ) : Type 0 where
  pub well_made : IsWellMadeOfAnySize b
  pub frame_states : HasFrameStates b states
  pub array_is : IsArrayNumber names array

abbrev pub frame : ℕ → State → FrameAt
frame at state = record { at = at; state = state }

-- one frame if the test holds
abbrev pub frame_if : Bool → FrameAt → List FrameAt
frame_if test f = if test then f ∷ [] else []

-- what a class gives the emission of its bodies: how they get the array of probes, the number of its class `[Z` in the names, and
-- where the pool has the Integers of ids
pub record Emitting : Type 0 where
  pub fetch : Fetch
  pub array : ℕ
  pub integer : ℕ → ℕ

module _ (b : Body) (first : ℕ) (states : List State) (given : Emitting) where
  -- the shifted form of a state
  abbrev pub moved_state : State → State
  moved_state state = shifted_state b.arg_slots given.array (image_of b first (narrow given.fetch)) state

  -- a frame of the body stands at i
  abbrev pub has_frame : ℕ → Bool
  has_frame i = list_any (λ f. nat_eq f.at i) b.frames

  -- the jump in front of i is inverted, and leads to where the fall-through into i does
  abbrev pub has_inverse : ℕ → Bool
  has_inverse zero = false
  has_inverse (suc i) = is_some (late_probe b first i)

  abbrev pub arm_frame : ℕ → State → Option ℕ → List FrameAt
  arm_frame here state None = []
  arm_frame here state (Some id) = frame here state ∷ []

  -- the frames at the arm places of a switch
  abbrev pub arm_frames : ℕ → State → List Branch → List FrameAt
  arm_frames here state [] = []
  arm_frames here state (x ∷ xs) =
      arm_frame here state (probe_of b first x) ++ arm_frames (here + hop_size (probe_of b first x)) state xs

  -- the frames at the arm places of i, if it is a switch
  abbrev pub arm_frames_at : ℕ → List FrameAt
  arm_frames_at i = arm_frames (image_of b first (narrow given.fetch) i + 1) (moved_state (left_by (insn_at b.code i) (state_at states i))) (arms_at b.code i)

  -- the frames of what belongs to i
  abbrev pub frames_at : ℕ → List FrameAt
  frames_at i =
      frame_if (has_inverse i && is_some (lead_probe b first i))
      (frame (lead_of b first (narrow given.fetch) i) (moved_state (state_at states i)))
      ++ (frame_if (has_frame i || (has_inverse i && is_none (lead_probe b first i)))
      (frame (land_of b first (narrow given.fetch) i) (moved_state (state_at states i)))
      ++ arm_frames_at i)

  -- a conditional jump
  abbrev pub tests_by : Flow → Bool
  tests_by flows.Branches = true
  tests_by flow = false

  -- the frame behind each conditional jump, for where it is wide
  abbrev pub wide_frames_at : ℕ → List FrameAt
  wide_frames_at i =
      frame_if (tests_by (flow_of (insn_at b.code i)))
      (frame (image_of b first (narrow given.fetch) i + 1) (moved_state (state_behind b states i (late_probe b first i))))

  abbrev pub items : List Item
  items = twin_items b first (narrow given.fetch)

  unfoldable pub emission : Emitted
  emission = record {
    code = map (insn_of (unplaced given.integer) b.arg_slots) items;
    at = map at_of items;
    own = map own_of items;
    extra = map extra_of items;
    handlers = map (twin_row b first (narrow given.fetch)) b.handlers;
    lines = map (moved_line (land_of b first (narrow given.fetch))) b.lines;
    vars = map (moved_var b.arg_slots (land_of b first (narrow given.fetch))) b.vars;
    kind_vars = map (moved_var b.arg_slots (land_of b first (narrow given.fetch))) b.kind_vars;
    frames = pieces frames_at (length b.code);
    wide_frames = pieces wide_frames_at (length b.code);
    max_stack = b.max_stack + 3;
    max_locals = b.max_locals + 1;
  }

-- the frames of the code that the function gives, in this form
abbrev pub AreFramesInForm : Names → List State → (first : ℕ) → Body → TwinForm → List FrameAt → Type 0
AreFramesInForm names states first b form frames =
    AreTwinFrames names names b.arg_slots (image_of b first form)
    (IsFrame b first states (image_of b first form) (land_of b first form) (lead_of b first form) form) frames

-- ---- the frames of the wide form of the code

-- The form of a twin by a set of places of the narrow code.
abbrev pub form_by : Body → (first : ℕ) → Fetch → WideSet → TwinForm
form_by b first fetch wide = record { fetch = fetch; wide = λ i. wide (image_of b first (narrow fetch) i) }

-- a frame, where its place and the places of `new` instructions are those of the wide code
abbrev pub widened_state : (ℕ → ℕ) → State → State
widened_state place s = record { locals = map (image_kind place) s.locals; stack = map (image_kind place) s.stack }

abbrev pub widened_frame : (ℕ → ℕ) → FrameAt → FrameAt
widened_frame place f = record { at = place f.at; state = widened_state place f.state }

-- the frame stands behind a jump that is wide
abbrev pub IsUsed : WideSet → FrameAt → Type 0
IsUsed wide f = (q : ℕ) × (f.at ≡ q + 1) × (wide q ≡ true)

-- the frames of the narrow code, and those behind wide jumps, in the wide code, one at each place
pub record AreWidened (wide : WideSet) (e : Emitted) (frames : List FrameAt) : Type 0 where
  pub rising : RiseFrom 0 frames
  pub each : (f : FrameAt) → Contains frames f
      → (g : FrameAt) × (Contains e.frames g ⊎ (Contains e.wide_frames g × IsUsed wide g)) × (f ≡ widened_frame (wide_place wide e.code) g)
  pub every : (g : FrameAt) → Contains e.frames g ⊎ (Contains e.wide_frames g × IsUsed wide g)
      → Contains frames (widened_frame (wide_place wide e.code) g)
