-- The branches of a body's instructions with their probes, and what marking does with them.
use Rattle.std.specs.Prelude.{⊤, ℕ, ◌+◌, ◌<◌, Bool, false, List, [], ◌∷◌, map, Option, Some, None}
use Rattle.std.specs.List.{list_any}
use Rattle.jc_bytes.specs.PlainLists.{map_from}
use Rattle.jc_methods.specs.declared.insn.Insn.{Insn}
use Rattle.jc_methods.specs.declared.body.Body.{Body}
use Rattle.jc_methods.specs.declared.plan.Plan.{Plan}
use Rattle.jc_plan.specs.declared.branch.Branch.{Branch}
use Rattle.jc_plan.specs.Edges.{place_of, branches_of}
use Rattle.jc_plan.specs.ByBranch.{planned}
use Rattle.jc_plan.specs.Probed.{probe_of}
use Rattle.jc_cover.specs.Covered.{is_hit}
use Rattle.jc_cover.specs.Marking.{with_source, mark_if, mark_back, is_marked}
use Rattle.jc_cover.specs.declared.planned.PlannedBranch.{PlannedBranch}

-- ---- branches with their probes

-- what a plan says of the branch at the index `k` among those of its instruction
abbrev pub read_branch : Plan → ℕ → Branch → PlannedBranch
read_branch plan k x = record { to = place_of x.way; probe = planned plan x k }

abbrev pub read_branches : Plan → ℕ → Insn → List PlannedBranch
read_branches plan i insn = map_from (read_branch plan) 0 (branches_of i insn)

-- where the branch leads, and its probe
abbrev pub planned_branch : Body → ℕ → Branch → PlannedBranch
planned_branch b first x = record { to = place_of x.way; probe = probe_of b first x }

abbrev pub planned_branches : Body → ℕ → ℕ → Insn → List PlannedBranch
planned_branches b first i insn = map (planned_branch b first) (branches_of i insn)

-- those of each instruction of the body
abbrev pub body_branches : Body → ℕ → List (List PlannedBranch)
body_branches b first = map_from (planned_branches b first) 0 b.code

-- ---- sources

abbrev pub IsWithin : ℕ → Option ℕ → Type 0
IsWithin count None = ⊤
IsWithin count (Some to) = to < count

-- the branch leads to one of so many instructions, or out of the method
abbrev pub LeadsInside : ℕ → PlannedBranch → Type 0
LeadsInside count x = IsWithin count x.to

-- where a branch without a probe leads
abbrev pub free_by : Option ℕ → Option ℕ → Option ℕ
free_by None to = to
free_by (Some id) to = None

abbrev pub free_place : PlannedBranch → Option ℕ
free_place x = free_by x.probe x.to

-- the instruction at `at` is put down as the source of each place to which one of its branches without a probe leads
abbrev pub with_branches : ℕ → List PlannedBranch → List (Option ℕ) → List (Option ℕ)
with_branches at [] sources = sources
with_branches at (x ∷ xs) sources = with_branches at xs (with_source (free_place x) at sources)

-- the same for those of each instruction, from this one on
abbrev pub with_insns : ℕ → List (List PlannedBranch) → List (Option ℕ) → List (Option ℕ)
with_insns at [] sources = sources
with_insns at (xs ∷ rest) sources = with_insns (at + 1) rest (with_branches at xs sources)

-- ---- marks

-- the branch has a probe, and it is hit
abbrev pub is_hit_probe : List Bool → Option ℕ → Bool
is_hit_probe hits None = false
is_hit_probe hits (Some id) = is_hit hits id

abbrev pub is_hit_branch : List Bool → PlannedBranch → Bool
is_hit_branch hits x = is_hit_probe hits x.probe

-- marks back from each instruction of which a probe is hit, from this one on
abbrev pub mark_insns : List Bool → List (Option ℕ) → ℕ → ℕ → List (List PlannedBranch) → List Bool → List Bool
mark_insns hits from count i [] marks = marks
mark_insns hits from count i (xs ∷ rest) marks =
    mark_insns hits from count (i + 1) rest (mark_if (list_any (is_hit_branch hits) xs) (mark_back from count i) marks)

-- ---- values

-- by its probe, or by the instruction where it leads
abbrev pub told_by : Option ℕ → Option ℕ → List Bool → List Bool → Bool
told_by (Some id) to hits marks = is_hit hits id
told_by None to hits marks = is_marked marks to

abbrev pub told : List Bool → List Bool → PlannedBranch → Bool
told hits marks x = told_by x.probe x.to hits marks
