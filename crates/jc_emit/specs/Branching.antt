-- The probes of an instruction, read off the list of the probes of its branches.
use Rattle.std.specs.Prelude.{◌≡◌, ◌<◌, length, ⊤, ℕ, ◌+◌, ◌≤◌, List, [], ◌∷◌, Option, Some, None, slice_index, slice_index_or, nat_eq, if◌then◌else◌}
use Rattle.std.specs.List.{sum_by}
use Rattle.jc_methods.specs.Insn.{with_places}
use Rattle.jc_methods.specs.ProbeMembers.{most_short}
use Rattle.jc_methods.specs.Widened.{inverted}
use Rattle.jc_methods.specs.declared.insn.Insn.{Insn}
use Rattle.jc_methods.specs.declared.insn.Flow.{Flow}
use Rattle.jc_methods.specs.declared.insn.Flow.TheVariants as flows
use Rattle.jc_emit.specs.declared.places.Places.{Places}
use Rattle.jc_emit.specs.Sizes.{hop_size}
use Rattle.jc_emit.specs.TwinCode.{here_or}
use Rattle.jc_emit.specs.Items.{Item, hop_part}

-- the probe of a goto, a return or an athrow: the one of its only branch
abbrev pub early_in : Flow → List (Option ℕ) → Option ℕ
early_in flows.Jumps ids = slice_index_or ids 0 None
early_in flows.Returns ids = slice_index_or ids 0 None
early_in flows.Throws ids = slice_index_or ids 0 None
early_in _ ids = None

-- the probe of the jump of a conditional jump: the one of its second branch
abbrev pub late_in : Flow → List (Option ℕ) → Option ℕ
late_in flows.Branches ids = slice_index_or ids 1 None
late_in _ ids = None

-- how many instructions stand behind the image: a probe and a goto for each probe of a branch
abbrev pub behind_in : Flow → List (Option ℕ) → ℕ
behind_in flows.Branches ids = sum_by hop_size ids
behind_in flows.Switches ids = sum_by hop_size ids
behind_in _ ids = 0

-- One instruction pushes the id: sipush, or ldc of one of so many Integers, of the numbers behind those that sipush pushes (JVM
-- Specification 6.5).
abbrev pub IsPushed : (integers : ℕ) → Option ℕ → Type 0
IsPushed integers None = ⊤
IsPushed integers (Some id) = id < most_short + 1 + integers

-- the image of a conditional jump: with a probe its inverse, which leads to where the fall-through does
abbrev pub test_image : (ℕ → ℕ) → (next : ℕ) → Insn → Option ℕ → Insn
test_image land next insn None = with_places land insn
test_image land next insn (Some id) = inverted next insn

-- a table has the values of a function as far as it goes
abbrev pub IsTableOf : (ℕ → ℕ) → List ℕ → Type 0
IsTableOf place table = (i : ℕ) → i < length table → slice_index table i ≡ place i

-- ---- switches

-- where a switch leads for a target, from the distinct targets and their probes
abbrev pub arm_place_in : (ℕ → ℕ) → (here : ℕ) → List ℕ → List (Option ℕ) → ℕ → ℕ
arm_place_in land here [] ids to = land to
arm_place_in land here (x ∷ xs) [] to = land to
arm_place_in land here (x ∷ xs) (id ∷ ids) to =
    if nat_eq x to then here_or id here (land to) else arm_place_in land (here + hop_size id) xs ids to

-- what stands at the arm place of a target
abbrev pub arm_part_in : (ℕ → ℕ) → List ℕ → List (Option ℕ) → ℕ → List Item
arm_part_in land targets ids n = hop_part land (slice_index_or ids n None) (slice_index_or targets n 0)

-- each place is at most 1,000,000
pub record AreSmall (places : Places) : Type 0 where
  pub leads : (i : ℕ) → slice_index places.leads.items i ≤ 1000000
  pub lands : (i : ℕ) → slice_index places.lands.items i ≤ 1000000
  pub images : (i : ℕ) → slice_index places.images.items i ≤ 1000000
