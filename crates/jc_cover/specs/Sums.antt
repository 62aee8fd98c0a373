-- Counters put together from instructions and methods.
use Rattle.std.specs.Prelude.{ℕ, ◌+◌, ◌-◌, ◌<◌, Bool, not, List, [], ◌∷◌, length, filter, nat_le, if◌then◌else◌}
use Rattle.std.specs.List.{list_any, sum_by}
use Rattle.jc_methods.specs.declared.body.Body.{Body}
use Rattle.jc_plan.specs.Entries.{one_if}
use Rattle.jc_cover.specs.declared.coverage.Count.{Count}
use Rattle.jc_cover.specs.declared.sums.Sums.{Sums}
use Rattle.jc_cover.specs.Counters.{Method, is_counted, is_covered, count_of}

abbrev pub no_items : Count
no_items = record { missed = 0; covered = 0 }

abbrev pub one_item : Bool → Count
one_item covered = record { missed = one_if (not covered); covered = one_if covered }

abbrev pub plus_count : Count → Count → Count
plus_count a b = record { missed = a.missed + b.missed; covered = a.covered + b.covered }

abbrev pub plus : Sums → Sums → Sums
plus a b = record {
  instruction = plus_count a.instruction b.instruction;
  branch = plus_count a.branch b.branch;
  complexity = plus_count a.complexity b.complexity;
  method = plus_count a.method b.method;
}

abbrev pub no_sums : Sums
no_sums = record { instruction = no_items; branch = no_items; complexity = no_items; method = no_items }

abbrev pub IsSmallCount : Count → Type 0
IsSmallCount c = (c.missed < 4294967296) × (c.covered < 4294967296)

-- each number fits into four bytes
pub record AreSmall (s : Sums) : Type 0 where
  pub instruction : IsSmallCount s.instruction
  pub branch : IsSmallCount s.branch
  pub complexity : IsSmallCount s.complexity
  pub method : IsSmallCount s.method

-- the values of an instruction with two branches or more
abbrev pub branch_values : List Bool → Count
branch_values values = if nat_le 2 (length values) then count_of (λ value. value) values else no_items

-- of an instruction with this many branches, what it adds to complexity
abbrev pub paths : Count → Count
paths c = record { missed = c.missed + c.covered - 1 - (c.covered - 1); covered = c.covered - 1 }

abbrev pub path_values : List Bool → Count
path_values values = if nat_le 2 (length values) then paths (count_of (λ value. value) values) else no_items

-- what an instruction adds
abbrev pub insn_sums : List Bool → Sums
insn_sums values = record {
  instruction = one_item (is_covered values);
  branch = branch_values values;
  complexity = path_values values;
  method = no_items;
}

-- what the instructions of a method add
abbrev pub insns_sums : List (List Bool) → Sums
insns_sums [] = no_sums
insns_sums (values ∷ insns) = plus (insn_sums values) (insns_sums insns)

-- what a method adds beside its instructions
abbrev pub own_sums : Bool → Sums
own_sums covered = record { instruction = no_items; branch = no_items; complexity = one_item covered; method = one_item covered }

abbrev pub method_sums : List (List Bool) → Sums
method_sums insns = plus (own_sums (list_any is_covered insns)) (insns_sums insns)

-- what methods add
abbrev pub methods_sums : List Method → Sums
methods_sums [] = no_sums
methods_sums (m ∷ methods) = plus (method_sums m.insns) (methods_sums methods)

-- one, an instruction each, and a branch each
abbrev pub insns_weight : List (List Bool) → ℕ
insns_weight insns = 1 + length insns + sum_by length insns

-- the method, if it counts
abbrev pub one_counted : Body → List (List Bool) → List Method
one_counted b insns = filter (λ m. is_counted m.body) (record { body = b; insns = insns } ∷ [])
