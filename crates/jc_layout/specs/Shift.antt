-- One more jump wide: which offsets rise, and by how much (JVM Specification 6.5, goto_w, tableswitch).
use Rattle.std.specs.Prelude.{◌≡◌, ℕ, zero, suc, ◌+◌, ◌-◌, ◌<◌, ◌≤◌, Bool, true, false, ◌&&◌, not, List, [], ◌∷◌, length, Contains, nat_eq, nat_le, slice_index, if◌then◌else◌}
use Rattle.std.specs.List.{AllByRecursion}
use Rattle.jc_methods.specs.Opcode as opcode
use Rattle.jc_methods.specs.declared.insn.Insn.{Insn}
use Rattle.jc_methods.specs.declared.insn.Insn.TheVariants as insns
use Rattle.jc_methods.specs.Widened.{HasAt, listed}
use Rattle.jc_insn.specs.Items.{padding}
use Rattle.jc_layout.specs.Layout.{is_near}
use Rattle.jc_layout.specs.declared.jumps.Jump.{Jump}
use Rattle.jc_layout.specs.declared.jumps.Ends.{Ends}
use Rattle.jc_layout.specs.declared.shift.Shift.{Shift}

-- ---- switches

abbrev pub is_switch : Insn → Bool
is_switch (insns.Table low default arms) = true
is_switch (insns.Lookup default arms) = true
is_switch insn = false

-- a switch stands at the place, or the code ends there
abbrev pub is_stop : List Insn → (place : ℕ) → Bool
is_stop [] place = true
is_stop (insn ∷ code) zero = is_switch insn
is_stop (insn ∷ code) (suc place) = is_stop code place

-- behind the instruction at the place x the first switch stands at p, or the code ends there
pub record IsNext (code : List Insn) (x p : ℕ) : Type 0 where
  pub behind : x < p
  pub within : p ≤ length code
  pub stop : is_stop code p ≡ true
  pub none : (k : ℕ) → x < k → k < p → is_stop code k ≡ false

-- ---- jumps

-- how many bytes more a wide jump takes
abbrev pub widening : (op : ℕ) → ℕ
widening op = if nat_eq op opcode.goto then 2 else 5

-- a jump of the code
pub record IsJumpOf (code : List Insn) (j : Jump) : Type 0 where
  pub op : ℕ
  pub has : HasAt code j.number (insns.Jump op j.to)
  pub within : j.to < length code
  pub next : IsNext code j.number j.switch
  pub more : j.more ≡ widening op

-- all jumps of the code
pub record AreJumpsOf (code : List Insn) (jumps : List Jump) : Type 0 where
  pub each : AllByRecursion (IsJumpOf code) jumps
  pub every : (place op to : ℕ) → HasAt code place (insns.Jump op to) → (j : Jump) × Contains jumps j × (j.number ≡ place)

-- the offsets of a jump and of where it leads
abbrev pub ends_in : (starts : List ℕ) → Jump → Ends
ends_in starts j = record { at = slice_index starts j.number; to = slice_index starts j.to }

-- the jumps that aren't wide and have no room in two bytes
abbrev pub far_in : List Jump → List Ends → List Bool → List Jump
far_in [] ends wide = []
far_in (j ∷ jumps) [] wide = []
far_in (j ∷ jumps) (e ∷ ends) wide =
    if not (listed wide j.number) && not (is_near e.at e.to) then j ∷ far_in jumps ends wide else far_in jumps ends wide

-- ---- offsets that rise

-- What an offset behind a switch rises by, where the switch stands at this offset and rises by so many bytes: its padding falls or rises.
abbrev pub passed_on : (offset more : ℕ) → ℕ
passed_on offset more = more + padding (offset + more) - padding offset

-- by how much the offset rises of the instruction with this number
abbrev pub rise_at : Shift → (number : ℕ) → ℕ
rise_at s number = if nat_le number s.jump then 0 else if nat_le number s.switch then s.near else s.behind

abbrev pub risen_ends : Shift → Jump → Ends → Ends
risen_ends s j e = record { at = e.at + rise_at s j.number; to = e.to + rise_at s j.to }

abbrev pub all_risen : Shift → List Jump → List Ends → List Ends
all_risen s [] ends = ends
all_risen s (j ∷ jumps) [] = []
all_risen s (j ∷ jumps) (e ∷ ends) = risen_ends s j e ∷ all_risen s jumps ends
