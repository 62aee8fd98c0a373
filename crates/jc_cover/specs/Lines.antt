-- The lines of instructions, one by one.
use Rattle.std.specs.Prelude.{ℕ, ◌-◌, Bool, length, List, [], ◌∷◌, map, filter, Option, Some, None, option_to_list, slice_set, if◌then◌else◌}
use Rattle.std.specs.List.{flat_map}
use Rattle.jc_bytes.specs.PlainLists.{join_from}
use Rattle.jc_bytes.specs.FirstSeen.{first_seen}
use Rattle.jc_methods.specs.declared.body.LineAt.{LineAt}
use Rattle.jc_cover.specs.declared.coverage.Count.{Count}
use Rattle.jc_cover.specs.Counters.{Method, is_covered, line_of, Lined, lined_insns}

-- for each instruction, the line of the last entry there
abbrev pub with_lines : List LineAt → List (Option ℕ) → List (Option ℕ)
with_lines [] starts = starts
with_lines (line ∷ lines) starts = with_lines lines (slice_set starts line.at (Some line.line))

-- the first of two that is one
abbrev pub first_of : Option ℕ → Option ℕ → Option ℕ
first_of None other = other
first_of (Some number) other = Some number

-- the line of the instruction, if it has one
abbrev pub insn_line : List LineAt → ℕ → List Bool → List ℕ
insn_line lines i values = option_to_list (line_of lines i)

-- the same if the instruction is covered
abbrev pub covered_insn_line : List LineAt → ℕ → List Bool → List ℕ
covered_insn_line lines i values = option_to_list (if is_covered values then line_of lines i else None)

-- the line of each instruction of a method that has one
abbrev pub insn_lines : List LineAt → List (List Bool) → List ℕ
insn_lines lines insns = join_from (insn_line lines) 0 insns

-- those of the covered ones
abbrev pub covered_insn_lines : List LineAt → List (List Bool) → List ℕ
covered_insn_lines lines insns = join_from (covered_insn_line lines) 0 insns

abbrev pub numbers : List Lined → List ℕ
numbers insns = map (λ l. l.number) insns

abbrev pub covered_numbers : List Lined → List ℕ
covered_numbers insns = numbers (filter (λ l. l.covered) insns)

-- the line of each instruction of methods that has one, and those of the covered ones
abbrev pub methods_lines : List Method → List ℕ
methods_lines methods = numbers (flat_map lined_insns methods)

abbrev pub covered_methods_lines : List Method → List ℕ
covered_methods_lines methods = covered_numbers (flat_map lined_insns methods)

-- how many different lines there are, of which these are covered
abbrev pub counted_lines : List ℕ → List ℕ → Count
counted_lines all covered = record {
  missed = length (first_seen all) - length (first_seen covered);
  covered = length (first_seen covered);
}
