-- The instructions of a twin, each with what it is: a function of the body.
use Rattle.std.specs.Prelude.{ℕ, zero, suc, ◌+◌, Bool, true, false, List, [], ◌∷◌, ◌++◌, map, length, Option, Some, None}
use Rattle.jc_bytes.specs.PlainLists.{pieces, total}
use Rattle.jc_methods.specs.Flow.{flow_of, jump_target}
use Rattle.jc_methods.specs.Insn.{with_places}
use Rattle.jc_methods.specs.declared.insn.Insn.{Insn}
use Rattle.jc_methods.specs.declared.insn.Flow.{Flow}
use Rattle.jc_methods.specs.declared.probe_members.Fetch.{Fetch}
use Rattle.jc_methods.specs.declared.probe_members.Fetch.TheVariants as fetches
use Rattle.jc_methods.specs.declared.body.Body.{Body}
use Rattle.jc_plan.specs.declared.branch.Branch.{Branch}
use Rattle.jc_plan.specs.Probed.{probe_of}
use Rattle.jc_plan.specs.Plan.{lead_probe}
use Rattle.jc_kinds_after.specs.Shift.{with_slot}
use Rattle.jc_emit.specs.Sizes.{TwinForm, insn_at, early_probe, late_probe, arms_at, probe_size, is_wide, behind_size}
use Rattle.jc_emit.specs.Marks.{Marks, TwinPlaces, aload, iconst_1, bastore, push_by, prelude_insn, prelude_size}
use Rattle.jc_methods.specs.Widened.{goto, inverted}
use Rattle.jc_emit.specs.TwinCode.{to_of, arm_place}
use Rattle.jc_methods.specs.declared.insn.Flow.TheVariants as flows

-- One instruction of a twin, with the instruction of the body to which it belongs. The first ones are those of the prelude, by their
-- numbers. A probe is late where its edge was taken before it, and not where it stands in front of the goto, return or athrow. An
-- image has the probe that was passed early, and a goto that is no image the probe that is still due where it leads.
pub data Item : Type 0 where
  start : Fetch → (k : ℕ) → Item
  image : (insn : Insn) (at : ℕ) (early : Option ℕ) → Item
  probe_array : (id at : ℕ) (late : Bool) → Item
  probe_id : (id at : ℕ) (late : Bool) → Item
  probe_one : (id at : ℕ) (late : Bool) → Item
  probe_store : (id at : ℕ) (late : Bool) → Item
  hop : (to at : ℕ) (due : Option ℕ) → Item

-- the instruction, where the probe array stands in local variable v, and the pool has at these places what is named
abbrev pub insn_of : TwinPlaces → (v : ℕ) → Item → Insn
insn_of p v (start fetch k) = prelude_insn fetch p v k
insn_of p v (image insn at early) = insn
insn_of p v (probe_array id at late) = aload v
insn_of p v (probe_id id at late) = push_by p.integer id
insn_of p v (probe_one id at late) = iconst_1
insn_of p v (probe_store id at late) = bastore
insn_of p v (hop to at due) = goto to

abbrev pub at_of : Item → ℕ
at_of (start fetch k) = 0
at_of (image insn at early) = at
at_of (probe_array id at late) = at
at_of (probe_id id at late) = at
at_of (probe_one id at late) = at
at_of (probe_store id at late) = at
at_of (hop to at due) = at

abbrev pub own_of : Item → Bool
own_of (image insn at early) = true
own_of _ = false

-- behind the first instruction of the prelude the array lies on the stack
abbrev pub start_extra : ℕ → ℕ
start_extra zero = 0
start_extra (suc k) = 1

abbrev pub extra_of : Item → ℕ
extra_of (start fetch k) = start_extra k
extra_of (probe_id id at late) = 1
extra_of (probe_one id at late) = 2
extra_of (probe_store id at late) = 3
extra_of _ = 0

-- what is said of each instruction
abbrev pub marks_of_items : List Item → Marks
marks_of_items items = record { at = map at_of items; own = map own_of items; extra = map extra_of items }

abbrev pub prelude : Fetch → List Item
prelude fetches.Member = start fetches.Member 0 ∷ start fetches.Member 1 ∷ []
prelude fetches.Constant = start fetches.Constant 0 ∷ start fetches.Constant 1 ∷ start fetches.Constant 2 ∷ []

abbrev pub probe : ℕ → ℕ → Bool → List Item
probe id at late = probe_array id at late ∷ probe_id id at late ∷ probe_one id at late ∷ probe_store id at late ∷ []

-- ---- what belongs to an instruction

-- the probe of the fall-through into i
abbrev pub lead_part : Option ℕ → ℕ → List Item
lead_part None i = []
lead_part (Some id) i = probe id i true

-- the probe of a goto, return or athrow, in front of it
abbrev pub early_part : Option ℕ → ℕ → List Item
early_part None i = []
early_part (Some id) i = probe id i false

-- a probe behind the image, and a goto
abbrev pub hop_part : (land : ℕ → ℕ) → Option ℕ → ℕ → List Item
hop_part land None to = []
hop_part land (Some id) to = probe id to true ++ hop (land to) to None ∷ []

abbrev pub arm_parts : (land : ℕ → ℕ) → (Branch → Option ℕ) → List Branch → List Item
arm_parts land ids [] = []
arm_parts land ids (x ∷ xs) = hop_part land (ids x) (to_of x) ++ arm_parts land ids xs

-- a conditional jump; where it is wide its inverse and a goto
abbrev pub test_part : Bool → (q : ℕ) → Insn → (i on : ℕ) → (due : Option ℕ) → List Item
test_part false q insn i on due = image insn i None ∷ []
test_part true q insn i on due = image (inverted (q + 2) insn) i None ∷ hop (jump_target insn) on due ∷ []

module _ (b : Body) (first : ℕ) (form : TwinForm) where
  -- how many instructions belong to i
  abbrev pub segment_size : ℕ → ℕ
  segment_size i = probe_size (lead_probe b first i) + (probe_size (early_probe b first i) + (1 + behind_size b first form i))

  -- where fall-throughs into i lead, where jumps to i land, and where its image stands
  abbrev pub lead_of : ℕ → ℕ
  lead_of i = prelude_size form.fetch + total segment_size i

  abbrev pub land_of : ℕ → ℕ
  land_of i = lead_of i + probe_size (lead_probe b first i)

  abbrev pub image_of : ℕ → ℕ
  image_of i = land_of i + probe_size (early_probe b first i)

  -- a conditional jump with its probe, or without one
  abbrev pub tests_part : ℕ → Insn → Option ℕ → List Item
  tests_part i insn None = test_part (is_wide form i) (image_of i) (with_places land_of insn) i (jump_target insn) None
  tests_part i insn (Some id) =
      test_part (is_wide form i) (image_of i) (inverted (lead_of (i + 1)) insn) i (i + 1) (lead_probe b first (i + 1))
      ++ hop_part land_of (Some id) (jump_target insn)

  -- the image of i and what stands behind it
  abbrev pub image_part : ℕ → Insn → Flow → List Item
  image_part i insn flows.GoesOn = image (with_slot b.arg_slots insn) i None ∷ []
  image_part i insn flows.Branches = tests_part i insn (late_probe b first i)
  image_part i insn flows.Jumps = image (with_places land_of insn) i (early_probe b first i) ∷ []
  image_part i insn flows.Switches =
      image (with_places (arm_place (probe_of b first) land_of (image_of i + 1) (arms_at b.code i)) insn) i None
      ∷ arm_parts land_of (probe_of b first) (arms_at b.code i)
  image_part i insn flows.Returns = image insn i (early_probe b first i) ∷ []
  image_part i insn flows.Throws = image insn i (early_probe b first i) ∷ []

  abbrev pub segment : ℕ → List Item
  segment i =
      lead_part (lead_probe b first i) i
      ++ (early_part (early_probe b first i) i ++ image_part i (insn_at b.code i) (flow_of (insn_at b.code i)))

  -- all of it: the prelude, and then what belongs to each instruction
  unfoldable pub twin_items : List Item
  twin_items = prelude form.fetch ++ pieces segment (length b.code)
