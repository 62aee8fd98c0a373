-- The counters of a class (JaCoCo's documentation on coverage counters).
use Rattle.std.specs.Prelude.{◌≡◌, ◌↔◌, ◌⊎◌, ℕ, ◌+◌, ◌-◌, ◌<◌, ◌≤◌, Bool, not, ◌&&◌, ◌||◌, List, [], ◌∷◌, map, length, filter}
use Rattle.std.specs.Prelude.{Option, Some, None, option_map, option_to_list, nat_eq, nat_le, bit_and, codes, slice_get, IsTrue}
use Rattle.std.specs.Prelude.{if◌then◌else◌}
use Rattle.std.specs.List.{count_by, sum_by, flat_map, list_any, starts_with}
use Rattle.jc_bytes.specs.PlainLists.{join_from}
use Rattle.jc_bytes.specs.FirstSeen.{first_seen}
use Rattle.jc_methods.specs.declared.insn.Insn.{Insn}
use Rattle.jc_methods.specs.declared.body.Body.{Body}
use Rattle.jc_methods.specs.declared.body.LineAt.{LineAt}
use Rattle.jc_cover.specs.declared.coverage.Coverage.{Coverage}
use Rattle.jc_cover.specs.declared.coverage.Count.{Count}
use Rattle.jc_cover.specs.declared.coverage.Counters.{Counters}
use Rattle.jc_plan.specs.Probed.{first_id}
use Rattle.jc_cover.specs.Covered.{CoveredInsn, values_of}

-- ---- which methods count

-- the flag of what no source file has (JVM Specification 4.6, ACC_SYNTHETIC)
abbrev pub is_synthetic : ℕ → Bool
is_synthetic flags = not (nat_eq (bit_and flags 0x1000) 0)

-- methods with code count, and not the synthetic ones unless their name begins with `lambda$`
abbrev pub is_counted : Body → Bool
is_counted b = not (is_synthetic b.flags) || starts_with nat_eq b.name (codes "lambda$")

-- a method with code, and for each instruction a value for each branch
pub record Method : Type 0 where
  pub body : Body
  pub insns : List (List Bool)

abbrev pub methods_of : List Body → List (List (List Bool)) → List Method
methods_of [] values = []
methods_of (b ∷ bodies) [] = []
methods_of (b ∷ bodies) (insns ∷ values) = record { body = b; insns = insns } ∷ methods_of bodies values

-- the methods that count
abbrev pub counted_methods : List Body → Coverage → List Method
counted_methods bodies coverage = filter (λ m. is_counted m.body) (methods_of bodies coverage.edges)

-- ---- what is covered

-- of the values of its branches one is true
abbrev pub is_covered : List Bool → Bool
is_covered values = list_any (λ value. value) values

-- of the values for an instruction one is true exactly where the instruction is covered
abbrev pub TellsInsn : Body → ℕ → List Bool → ℕ → List Bool → Type 0
TellsInsn b first hits i values = IsTrue (is_covered values) ↔ CoveredInsn b first hits i

-- the values of a coverage do so for each instruction of the class
abbrev pub TellsInsns : List Body → List Bool → Coverage → Type 0
TellsInsns bodies hits c =
    (n i : ℕ) (b : Body) (insn : Insn) (values : List Bool) → slice_get bodies n ≡ Some b → slice_get b.code i ≡ Some insn
    → values_of c n i ≡ Some values → TellsInsn b (first_id bodies n) hits i values

-- one of its instructions is covered
abbrev pub is_covered_method : Method → Bool
is_covered_method m = list_any is_covered m.insns

-- those that pass the test are covered, and the others are missed
abbrev pub count_of : {X : Type 0} → (X → Bool) → List X → Count
count_of test xs = record { missed = count_by (λ x. not (test x)) xs; covered = count_by test xs }

-- ---- lines

-- The entry is better than the best one in front of it, if there is one: it doesn't start past the instruction, and it
-- doesn't start before that one.
abbrev pub is_better : ℕ → Option LineAt → LineAt → Bool
is_better i None line = nat_le line.at i
is_better i (Some best) line = nat_le line.at i && nat_le best.at line.at

abbrev pub best_line : ℕ → Option LineAt → List LineAt → Option LineAt
best_line i best [] = best
best_line i best (line ∷ lines) = best_line i (if is_better i best line then Some line else best) lines

abbrev pub line_number : Option LineAt → Option ℕ
line_number None = None
line_number (Some line) = Some line.line

-- the line of an instruction
abbrev pub line_of : List LineAt → ℕ → Option ℕ
line_of lines i = line_number (best_line i None lines)

-- The entry has the greatest start that isn't past the instruction, and is the last in the table among those of equal
-- starts. `index` is its index in the table.
pub record IsLineEntry (lines : List LineAt) (i index : ℕ) (line : LineAt) : Type 0 where
  pub listed : slice_get lines index ≡ Some line
  pub not_past : line.at ≤ i
  pub greatest : (other : ℕ) (entry : LineAt) → slice_get lines other ≡ Some entry → entry.at ≤ i
      → (entry.at < line.at) ⊎ ((entry.at ≡ line.at) × (other ≤ index))

-- the line of an instruction is that of this entry; it has none where no entry starts at it or before it
abbrev pub IsLineOf : List LineAt → ℕ → Option ℕ → Type 0
IsLineOf lines i (Some number) = (index : ℕ) × (line : LineAt) × IsLineEntry lines i index line × (line.line ≡ number)
IsLineOf lines i None = (index : ℕ) (line : LineAt) → slice_get lines index ≡ Some line → line.at ≤ i → ⊥

-- an instruction with a line: the line's number, and whether the instruction is covered
pub record Lined : Type 0 where
  pub number : ℕ
  pub covered : Bool

abbrev pub lined : Bool → ℕ → Lined
lined covered number = record { number = number; covered = covered }

-- instructions without a line count in no line
abbrev pub lined_insns : Method → List Lined
lined_insns m = join_from (λ i values. option_to_list (option_map (lined (is_covered values)) (line_of m.body.lines i))) 0 m.insns

-- one of the instructions of the line is covered
abbrev pub is_covered_line : List Lined → ℕ → Bool
is_covered_line insns number = list_any (λ l. nat_eq l.number number && l.covered) insns

-- each line number counts once
abbrev pub line_count : List Lined → Count
line_count insns = count_of (is_covered_line insns) (first_seen (map (λ l. l.number) insns))

-- ---- branches and complexity

-- the instructions with two branches or more
abbrev pub branching : List (List Bool) → List (List Bool)
branching insns = filter (λ values. nat_le 2 (length values)) insns

-- how many branches of an instruction are covered
abbrev pub covered_branches : List Bool → ℕ
covered_branches values = count_by (λ value. value) values

-- with C covered branches an instruction adds C - 1 to covered complexity, or nothing where none is covered
abbrev pub covered_paths : List Bool → ℕ
covered_paths values = covered_branches values - 1

-- with B branches it adds the rest of B - 1 to missed complexity
abbrev pub missed_paths : List Bool → ℕ
missed_paths values = length values - 1 - covered_paths values

-- each method adds 1 too, covered where it is covered
abbrev pub complexity_count : List Method → List (List Bool) → Count
complexity_count methods insns = record {
  missed = count_by (λ m. not (is_covered_method m)) methods + sum_by missed_paths (branching insns);
  covered = count_by is_covered_method methods + sum_by covered_paths (branching insns);
}

-- ---- the counters

abbrev pub counters_by : List Method → List (List Bool) → Counters
counters_by methods insns = record {
  -- each instruction counts 1
  instruction = count_of is_covered insns;
  -- each branch of an instruction with two or more
  branch = count_of (λ value. value) (flat_map (λ values. values) (branching insns));
  line = line_count (flat_map lined_insns methods);
  complexity = complexity_count methods insns;
  -- each method counts 1
  method = count_of is_covered_method methods;
}

abbrev pub all_insns : List Method → List (List Bool)
all_insns methods = flat_map (λ m. m.insns) methods

-- the counters of methods that count
abbrev pub counters_of_methods : List Method → Counters
counters_of_methods methods = counters_by methods (all_insns methods)

abbrev pub whole : Count → ℕ
whole c = c.missed + c.covered

-- the counters of a class with this coverage
abbrev pub counters_of : List Body → Coverage → Counters
counters_of bodies coverage = counters_of_methods (counted_methods bodies coverage)

-- missed and covered of each counter together are at most this number
pub record AreAtMost (most : ℕ) (c : Counters) : Type 0 where
  pub instruction : whole c.instruction ≤ most
  pub branch : whole c.branch ≤ most
  pub line : whole c.line ≤ most
  pub complexity : whole c.complexity ≤ most
  pub method : whole c.method ≤ most
