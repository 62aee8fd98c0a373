-- The stages of the instrumented code of a body: its code and its tables need no states, and frames are those of a layout.
use Rattle.std.specs.Prelude.{◌≡◌, ℕ, ◌+◌, Bool, false, ◌&&◌, not, List, [], ◌++◌, length, map, is_none, if◌then◌else◌}
use Rattle.jc_methods.specs.VerificationTypes.{Names}
use Rattle.jc_bytes.specs.PlainLists.{pieces}
use Rattle.jc_methods.specs.declared.body.Body.{Body}
use Rattle.jc_methods.specs.declared.body.FrameAt.{FrameAt}
use Rattle.jc_methods.specs.declared.insn.Insn.{Insn}
use Rattle.jc_methods.specs.declared.kind.State.{State}
use Rattle.jc_emit.specs.Items.{insn_of, land_of, image_of, twin_items}
use Rattle.jc_emit.specs.TwinTables.{moved_line, moved_var}
use Rattle.jc_methods.specs.Flow.{flow_of}
use Rattle.jc_methods.specs.Widened.{WideSet}
use Rattle.jc_methods.specs.declared.insn.Flow.{Flow}
use Rattle.jc_methods.specs.declared.insn.Flow.TheVariants as flows
use Rattle.jc_methods.specs.declared.probe_members.Fetch.{Fetch}
use Rattle.jc_plan.specs.Plan.{lead_probe}
use Rattle.jc_emit.specs.Sizes.{narrow, insn_at, late_probe}
use Rattle.jc_emit.specs.Marks.{unplaced}
use Rattle.jc_emit.specs.Emission.{Emitting, twin_row, IsArrayNumber, HasFrameStates, has_frame, frames_at, wide_frames_at}
use Rattle.jc_emit.specs.declared.tables.MovedTables.{MovedTables}

-- the code, before the pool has what the prelude names
abbrev pub emitted_code : Body → (first : ℕ) → Fetch → (integer : ℕ → ℕ) → List Insn
emitted_code b first fetch integer = map (insn_of (unplaced integer) b.arg_slots) (twin_items b first (narrow fetch))

-- the tables and the sizes
abbrev pub moved_tables : Body → (first : ℕ) → Fetch → MovedTables
moved_tables b first fetch = record {
  handlers = map (twin_row b first (narrow fetch)) b.handlers;
  lines = map (moved_line (land_of b first (narrow fetch))) b.lines;
  vars = map (moved_var b.arg_slots (land_of b first (narrow fetch))) b.vars;
  kind_vars = map (moved_var b.arg_slots (land_of b first (narrow fetch))) b.kind_vars;
  max_stack = b.max_stack + 3;
  max_locals = b.max_locals + 1;
}

module _ (b : Body) (first : ℕ) (states : List State) (given : Emitting) where
  -- a frame stands where the fall-through from i leads, with no probe in front of it
  abbrev pub is_framed_behind : ℕ → Bool
  is_framed_behind i =
      is_none (late_probe b first i) && has_frame b first states given (i + 1) && is_none (lead_probe b first (i + 1))

module _ (b : Body) (first : ℕ) (states : List State) (given : Emitting) (wide : WideSet) where
  -- the conditional jump at i is wide, and no frame stands behind it already
  abbrev pub is_further : ℕ → Flow → Bool
  is_further i flows.Branches = wide (image_of b first (narrow given.fetch) i) && not (is_framed_behind b first states given i)
  is_further i flow = false

  abbrev pub further_frames_at : ℕ → List FrameAt
  further_frames_at i =
      if is_further i (flow_of (insn_at b.code i)) then wide_frames_at b first states given i else []

  -- the frames of what belongs to i, where these jumps are wide
  abbrev pub layout_frames_at : ℕ → List FrameAt
  layout_frames_at i = frames_at b first states given i ++ further_frames_at i

  -- the frames of a layout, where the places are those of the narrow code
  abbrev pub layout_frames : List FrameAt
  layout_frames = pieces layout_frames_at (length b.code)

-- these are the frames of the layout, where the class of the array of probes has its number in the names
pub record AreLayoutFrames (names : Names) (b : Body) (first : ℕ) (states : List State) (fetch : Fetch) (wide : WideSet) (frames : List FrameAt) : Type 0 where
  pub given : Emitting
  pub fetch_is : given.fetch ≡ fetch
  pub array_is : IsArrayNumber names given.array
  pub are : frames ≡ layout_frames b first states given wide
  pub fit : HasFrameStates b states
