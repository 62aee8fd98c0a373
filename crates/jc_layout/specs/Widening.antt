-- Code of which one jump after the other becomes wide.
use Rattle.std.specs.Prelude.{◌≡◌, ℕ, ◌+◌, ◌%◌, ◌≤◌, Bool, true, List, [], ◌∷◌, length, map, set, slice_index}
use Rattle.jc_methods.specs.declared.insn.Insn.{Insn}
use Rattle.jc_methods.specs.Widened.{listed}
use Rattle.jc_layout.specs.Layout.{starts_of}
use Rattle.jc_layout.specs.Shift.{AreJumpsOf, ends_in, is_stop}
use Rattle.jc_layout.specs.declared.jumps.Jump.{Jump}
use Rattle.jc_layout.specs.declared.jumps.Ends.{Ends}
use Rattle.jc_layout.specs.declared.widening.Widening.{Widening}

-- these jumps become wide too
abbrev pub widened_each : List Jump → List Bool → List Bool
widened_each [] wide = wide
widened_each (j ∷ far) wide = widened_each far (set wide j.number true)

-- The offsets of the jumps are those of the code where these jumps are wide, and those of switches and of the end are so but for a
-- multiple of four.
pub record AreKept (code : List Insn) (jumps : List Jump) (wide : List Bool) (starts : List ℕ) (ends : List Ends) : Type 0 where
  pub are_jumps : AreJumpsOf code jumps
  pub size : length wide ≡ length code
  pub starts_size : length starts ≡ length code + 1
  pub stops : (p : ℕ) → p ≤ length code → is_stop code p ≡ true
      → slice_index starts p % 4 ≡ slice_index (starts_of (listed wide) code) p % 4
  pub ends_are : ends ≡ map (ends_in (starts_of (listed wide) code)) jumps

abbrev pub IsWidening : Widening → Type 0
IsWidening w = AreKept w.code.now w.jumps.items w.wide.items w.starts.items w.ends.items
