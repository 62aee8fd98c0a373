-- The table over the offsets of a method's code.
use Rattle.std.specs.Prelude.{◌≡◌, ℕ, List, length, slice_index_or}
use Rattle.jc_methods.specs.Starts.{insn_number}
use Rattle.jc_body.specs.declared.coded.Coded.{Coded}
use Rattle.jc_body.specs.declared.places.Offsets.{Offsets}

-- the number of the instruction that begins at an offset, as the table has it
abbrev pub numbering : Offsets → ℕ → ℕ
numbering offsets offset = slice_index_or offsets.numbers.now offset offsets.count

-- the list numbers each offset as the instructions begin
abbrev pub IsTable : Coded → List ℕ → Type 0
IsTable coded numbers = (offset : ℕ) → slice_index_or numbers offset (length coded.insns) ≡ insn_number coded.starts offset

-- the table is that of the code: it numbers each offset as the instructions begin
pub record Numbers (coded : Coded) (offsets : Offsets) : Type 0 where
  pub count : offsets.count ≡ length coded.insns
  pub size : offsets.size ≡ length coded.items.code
  pub each : (offset : ℕ) → numbering offsets offset ≡ insn_number coded.starts offset
