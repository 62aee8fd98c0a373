-- The frames of a layout don't depend on where the pool has the Integers of ids.
use Rattle.std.proofs.Common.{◌≡◌, ℕ, zero, suc, ◌+◌, ◌&&◌, ◌||◌, not, List, [], ◌∷◌, ◌++◌, length, Option, Some, None, refl, if◌then◌else◌}
use Rattle.std.specs.Prelude.{is_some, is_none}
use Rattle.jc_bytes.specs.PlainLists.{pieces}
use Rattle.jc_methods.specs.Flow.{flow_of}
use Rattle.jc_methods.specs.Widened.{WideSet}
use Rattle.jc_methods.specs.declared.body.Body.{Body}
use Rattle.jc_methods.specs.declared.insn.Flow.{Flow}
use Rattle.jc_methods.specs.declared.insn.Flow.TheVariants as flows
use Rattle.jc_methods.specs.declared.kind.State.{State}
use Rattle.jc_plan.specs.declared.branch.Branch.{Branch}
use Rattle.jc_plan.specs.Plan.{lead_probe}
use Rattle.jc_plan.specs.Probed.{probe_of}
use Rattle.jc_emit.specs.Emission.{Emitting, arm_frame, arm_frames, frame, frame_if, frames_at, has_frame, has_inverse, moved_state, tests_by, wide_frames_at}
use Rattle.jc_emit.specs.Items.{image_of, land_of, lead_of}
use Rattle.jc_emit.specs.Shift.{shifted_state}
use Rattle.jc_emit.specs.Sizes.{arms_at, hop_size, insn_at, late_probe, narrow}
use Rattle.jc_emit.specs.Stages.{is_framed_behind, is_further, layout_frames, layout_frames_at}
use Rattle.jc_emit.specs.TwinFrames.{left_by, state_at, state_behind}

module _ (b : Body) (first : ℕ) (states : List State) (g h : Emitting) (fetch : g.fetch ≡ h.fetch) (array : g.array ≡ h.array) where
  moved_same : (s : State) → moved_state b first states g s ≡ moved_state b first states h s
  moved_same s = λ k. shifted_state b.arg_slots (array k) (image_of b first (narrow (fetch k))) s

  inverse_same : (i : ℕ) → has_inverse b first states g i ≡ has_inverse b first states h i
  inverse_same zero = refl
  inverse_same (suc i) = refl

  arm_same : (p q : ℕ) (s t : State) (o : Option ℕ) → p ≡ q → s ≡ t → arm_frame b first states g p s o ≡ arm_frame b first states h q t o
  arm_same p q s t None place same = refl
  arm_same p q s t (Some id) place same = λ k. frame (place k) (same k) ∷ []

  arms_same : (p q : ℕ) (s t : State) (xs : List Branch) → p ≡ q → s ≡ t → arm_frames b first states g p s xs ≡ arm_frames b first states h q t xs
  arms_same p q s t [] place same = refl
  arms_same p q s t (x ∷ xs) place same = λ k.
      arm_same p q s t (probe_of b first x) place same k
      ++ arms_same (p + hop_size (probe_of b first x)) (q + hop_size (probe_of b first x)) s t xs (λ j. place j + hop_size (probe_of b first x)) same k

  frames_at_same : (i : ℕ) → frames_at b first states g i ≡ frames_at b first states h i
  frames_at_same i = λ k.
      frame_if (inverse_same i k && is_some (lead_probe b first i))
      (frame (lead_of b first (narrow (fetch k)) i) (moved_same (state_at states i) k))
      ++ (frame_if (has_frame b first states h i || (inverse_same i k && is_none (lead_probe b first i)))
      (frame (land_of b first (narrow (fetch k)) i) (moved_same (state_at states i) k))
      ++ arms_same (image_of b first (narrow g.fetch) i + 1) (image_of b first (narrow h.fetch) i + 1)
      (moved_state b first states g (left_by (insn_at b.code i) (state_at states i)))
      (moved_state b first states h (left_by (insn_at b.code i) (state_at states i))) (arms_at b.code i)
      (λ j. image_of b first (narrow (fetch j)) i + 1) (moved_same (left_by (insn_at b.code i) (state_at states i))) k)

  tests_same : (flow : Flow) → tests_by b first states g flow ≡ tests_by b first states h flow
  tests_same flows.GoesOn = refl
  tests_same flows.Branches = refl
  tests_same flows.Jumps = refl
  tests_same flows.Switches = refl
  tests_same flows.Returns = refl
  tests_same flows.Throws = refl

  wide_frames_at_same : (i : ℕ) → wide_frames_at b first states g i ≡ wide_frames_at b first states h i
  wide_frames_at_same i = λ k.
      frame_if (tests_same (flow_of (insn_at b.code i)) k)
      (frame (image_of b first (narrow (fetch k)) i + 1) (moved_same (state_behind b states i (late_probe b first i)) k))

  further_same : (wide : WideSet) (i : ℕ) (flow : Flow) → is_further b first states g wide i flow ≡ is_further b first states h wide i flow
  further_same wide i flows.Branches = λ k. wide (image_of b first (narrow (fetch k)) i) && not (is_framed_behind b first states h i)
  further_same wide i flows.GoesOn = refl
  further_same wide i flows.Jumps = refl
  further_same wide i flows.Switches = refl
  further_same wide i flows.Returns = refl
  further_same wide i flows.Throws = refl

  layout_at_same : (wide : WideSet) (i : ℕ) → layout_frames_at b first states g wide i ≡ layout_frames_at b first states h wide i
  layout_at_same wide i = λ k.
      frames_at_same i k ++ (if further_same wide i (flow_of (insn_at b.code i)) k then wide_frames_at_same i k else [])

  pub layout_same : (wide : WideSet) → layout_frames b first states g wide ≡ layout_frames b first states h wide
  layout_same wide = λ k. pieces (λ i. layout_at_same wide i k) (length b.code)
