-- The instrumented code of a body doesn't depend on its frames.
use Rattle.std.proofs.Common.{◌≡◌, ℕ, ◌+◌, false, [], ◌∷◌, ◌++◌, length, map, Option, Some, None, refl, ◌∙◌}
use Rattle.jc_methods.specs.Flow.{flow_of, jump_target}
use Rattle.jc_methods.specs.Insn.{with_places}
use Rattle.jc_bytes.specs.PlainLists.{pieces, total}
use Rattle.jc_methods.specs.Widened.{inverted}
use Rattle.jc_methods.specs.declared.body.Body.{Body}
use Rattle.jc_methods.specs.declared.insn.Flow.{Flow}
use Rattle.jc_methods.specs.declared.insn.Flow.TheVariants as flows
use Rattle.jc_methods.specs.declared.insn.Insn.{Insn}
use Rattle.jc_methods.specs.declared.probe_members.Fetch.{Fetch}
use Rattle.jc_plan.specs.Probed.{position_of, id_if, probe_of}
use Rattle.jc_plan.specs.declared.branch.Branch.{Branch}
use Rattle.jc_emit.specs.Marks.{prelude_size, unplaced}
use Rattle.jc_emit.specs.Items.{image, prelude, insn_of, lead_part, early_part, hop_part, arm_parts, test_part, segment_size, lead_of, land_of, image_of, tests_part, image_part, segment, twin_items}
use Rattle.jc_emit.specs.Sizes.{narrow, insn_at, early_by, late_by, early_probe, late_probe, arms_at, arm_sizes, probe_size, hop_size, wide_size}
use Rattle.jc_emit.specs.TwinCode.{arm_place}
use Rattle.jc_emit.specs.Written.{integer_in}
use Rattle.jc_layout.specs.LaidBody.{ready_code}
use Rattle.jc_instrument.specs.Constants.{probed_code}
use Rattle.jc_instrument.specs.SameAnalysis.{without_frames}
use Rattle.jc_instrument.specs.declared.constants.ProbeConstants.{ProbeConstants}
use Rattle.jc_instrument.proofs.SameAnalysisLaws.{same_way, same_before, same_lead}

module _ (b : Body) (first : ℕ) where
  -- ---- probes

  pub same_probe : (x : Branch) → probe_of b first x ≡ probe_of (without_frames b) first x
  same_probe x = λ k. id_if (same_way b x.way k) (first + same_before b (position_of x) k)

  same_early : (i : ℕ) → early_probe b first i ≡ early_probe (without_frames b) first i
  same_early i = λ k. early_by (λ x. same_probe x k) i (insn_at b.code i) (flow_of (insn_at b.code i))

  pub same_late : (i : ℕ) → late_probe b first i ≡ late_probe (without_frames b) first i
  same_late i = λ k. late_by (λ x. same_probe x k) i (insn_at b.code i) (flow_of (insn_at b.code i))

module _ (b : Body) (first : ℕ) (fetch : Fetch) where
  -- ---- places

  same_size : (i : ℕ) → segment_size b first (narrow fetch) i ≡ segment_size (without_frames b) first (narrow fetch) i
  same_size i = λ k. probe_size (same_lead b first i k)
      + (probe_size (same_early b first i k)
      + (1 + (wide_size b (narrow fetch) i + hop_size (same_late b first i k) + arm_sizes (λ x. same_probe b first x k) (arms_at b.code i))))

  pub same_lead_place : (i : ℕ) → lead_of b first (narrow fetch) i ≡ lead_of (without_frames b) first (narrow fetch) i
  same_lead_place i = λ k. prelude_size fetch + total (λ j. same_size j k) i

  pub same_land : (i : ℕ) → land_of b first (narrow fetch) i ≡ land_of (without_frames b) first (narrow fetch) i
  same_land i = λ k. same_lead_place i k + probe_size (same_lead b first i k)

  pub same_image : (i : ℕ) → image_of b first (narrow fetch) i ≡ image_of (without_frames b) first (narrow fetch) i
  same_image i = λ k. same_land i k + probe_size (same_early b first i k)

  -- ---- instructions

  same_tests : (i : ℕ) (insn : Insn) (o : Option ℕ) → tests_part b first (narrow fetch) i insn o ≡ tests_part (without_frames b) first (narrow fetch) i insn o
  same_tests i insn None = λ k. test_part false (same_image i k) (with_places (λ j. same_land j k) insn) i (jump_target insn) None
  same_tests i insn (Some id) = λ k.
      test_part false (same_image i k) (inverted (same_lead_place (i + 1) k) insn) i (i + 1) (same_lead b first (i + 1) k)
      ++ hop_part (λ j. same_land j k) (Some id) (jump_target insn)

  same_part : (i : ℕ) (insn : Insn) (flow : Flow) → image_part b first (narrow fetch) i insn flow ≡ image_part (without_frames b) first (narrow fetch) i insn flow
  same_part i insn flows.GoesOn = refl
  same_part i insn flows.Branches =
      same_tests i insn (late_probe b first i) ∙ (λ k. tests_part (without_frames b) first (narrow fetch) i insn (same_late b first i k))
  same_part i insn flows.Jumps = λ k. image (with_places (λ j. same_land j k) insn) i (same_early b first i k) ∷ []
  same_part i insn flows.Switches = λ k.
      image (with_places (arm_place (λ x. same_probe b first x k) (λ j. same_land j k) (same_image i k + 1) (arms_at b.code i)) insn) i None
      ∷ arm_parts (λ j. same_land j k) (λ x. same_probe b first x k) (arms_at b.code i)
  same_part i insn flows.Returns = λ k. image insn i (same_early b first i k) ∷ []
  same_part i insn flows.Throws = λ k. image insn i (same_early b first i k) ∷ []

  same_segment : (i : ℕ) → segment b first (narrow fetch) i ≡ segment (without_frames b) first (narrow fetch) i
  same_segment i = λ k. lead_part (same_lead b first i k) i
      ++ (early_part (same_early b first i k) i ++ same_part i (insn_at b.code i) (flow_of (insn_at b.code i)) k)

  pub same_items : twin_items b first (narrow fetch) ≡ twin_items (without_frames b) first (narrow fetch)
  unfolding twin_items
  same_items = λ k. prelude fetch ++ pieces (λ i. same_segment i k) (length b.code)

pub same_code : (constants : ProbeConstants) (b : Body) (first : ℕ) → probed_code constants b first ≡ probed_code constants (without_frames b) first
same_code constants b first = λ k.
    ready_code constants.fetch constants.giver
    (map (insn_of (unplaced (integer_in constants.integers)) b.arg_slots) (same_items b first constants.fetch k))
