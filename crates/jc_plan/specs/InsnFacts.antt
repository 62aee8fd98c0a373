-- What the code notes of each instruction, on the way to a plan.
use Rattle.std.specs.Prelude.{⊤, ℕ, ◌+◌, ◌<◌, Bool, true, false, List, [], ◌∷◌, Option, nat_eq, slice_index_or}
use Rattle.jc_plan.specs.declared.branch.Branch.{Branch}
use Rattle.jc_plan.specs.declared.branch.Way.{Way}
use Rattle.jc_plan.specs.declared.branch.Way.TheVariants.{Falls, Jumps, Switches, Exits}
use Rattle.jc_plan.specs.Entries.{one_if}
use Rattle.jc_plan.specs.Probed.{id_if}

-- a jump or a switch leads to the instruction
abbrev pub enters_by : ℕ → Way → Bool
enters_by i (Jumps to) = nat_eq to i
enters_by i (Switches to) = nat_eq to i
enters_by i _ = false

abbrev pub enters : ℕ → Branch → Bool
enters i x = enters_by i x.way

-- where a jump or a switch leads is one of so many instructions
abbrev pub LeadsInto : ℕ → Way → Type 0
LeadsInto count (Jumps to) = to < count
LeadsInto count (Switches to) = to < count
LeadsInto count _ = ⊤

abbrev pub EntersWithin : ℕ → Branch → Type 0
EntersWithin count x = LeadsInto count x.way

-- whether a branch that isn't a sequence has a probe, by the list of multi-targets
abbrev pub has_probe : List Bool → Way → Bool
has_probe multi (Falls to) = false
has_probe multi (Jumps to) = slice_index_or multi to false
has_probe multi (Switches to) = slice_index_or multi to false
has_probe multi Exits = true

-- the ids of the branches that have a probe, from the next one on
abbrev pub ids_from : (Way → Bool) → ℕ → List Branch → List (Option ℕ)
ids_from probed next [] = []
ids_from probed next (x ∷ xs) = id_if (probed x.way) next ∷ ids_from probed (next + one_if (probed x.way)) xs
