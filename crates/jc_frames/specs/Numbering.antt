-- A table of the numbers of instructions by their offsets.
use Rattle.std.specs.Prelude.{◌≡◌, ℕ, ◌≤◌, ◌^◌, List, length, slice_index_or}
use Rattle.jc_methods.specs.Starts.{insn_number}

-- the table has the number of the instruction that begins at each offset, and so many instructions stand for none
pub record HasEachNumber (insns : ℕ) (starts numbers : List ℕ) : Type 0 where
  pub few : length numbers ≤ 2 ^ 32
  pub each : (offset : ℕ) → slice_index_or numbers offset insns ≡ insn_number starts offset
