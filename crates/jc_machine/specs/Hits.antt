-- The probes of a program, and what a sink gains of their hits.
use Rattle.std.specs.Prelude.{ℕ, ◌⊎◌, ◌↔◌, List, map, Option, Some, None, Contains}
use Rattle.jc_programs.specs.declared.program.Program.{Program}
use Rattle.jc_programs.specs.declared.program.Linked.{Linked}
use Rattle.jc_programs.specs.declared.program.ProbeInit.{ProbeInit}
use Rattle.jc_machine_model.specs.World.{Hit}

abbrev pub count_in : Option ProbeInit → ℕ
count_in None = 0
count_in (Some init) = init.count

-- how many probes each class of the program has
abbrev pub probe_counts : Program → List ℕ
probe_counts program = map (λ (c : Linked). count_in c.probes) program.classes

-- a sink's hits are then exactly those that it had, and these
abbrev pub Gained : (ℕ → ℕ → Type 0) → List Hit → (ℕ → ℕ → Type 0) → Type 0
Gained before more after = (class id : ℕ) → (after class id ↔ (before class id ⊎ Contains {X = Hit} more (record { class = class; id = id })))
