-- The rows of a report.
use Rattle.std.specs.Prelude.{◌+◌, ℕ, Bool, List, map, filter, nat_lt, option_map}
use Rattle.std.specs.Cmp.Lexicographic.{slice_cmp}
use Rattle.std.specs.Ordering.{nat_cmp, ordering_then, is_lt}
use Rattle.std.specs.declared.cmp.Ordering.{Ordering}
use Rattle.jc_report.specs.declared.row.Counted.{Counted}
use Rattle.jc_report.specs.declared.row.Row.{Row}
use Rattle.jc_report.specs.Spelled.{shown}
use Rattle.jc_report.specs.Names.{package_of, class_of, parent_of}
use Rattle.jc_report.specs.Order.{in_order}

-- an instruction of the class counts
abbrev pub has_counted_insn : Counted → Bool
has_counted_insn c = nat_lt 0 (c.counters.instruction.missed + c.counters.instruction.covered)

-- the row of a class in the report of this name
unfoldable pub row_of : List ℕ → Counted → Row
row_of name c = record {
  group = name;
  «package» = package_of (shown c.name);
  class = class_of (shown c.name) (option_map shown (parent_of c.super_name c.interfaces));
  id = c.id;
  counters = c.counters;
}

-- by package, class and class id, the texts by their bytes
abbrev pub row_cmp : Row → Row → Ordering
row_cmp r s =
    ordering_then (slice_cmp nat_cmp r.«package» s.«package»)
    (ordering_then (slice_cmp nat_cmp r.class s.class) (nat_cmp r.id s.id))

abbrev pub row_lt : Row → Row → Bool
row_lt r s = is_lt (row_cmp r s)

-- one row for each class with an instruction that counts
abbrev pub each_row : List ℕ → List Counted → List Row
each_row name classes = map (row_of name) (filter has_counted_insn classes)

-- those rows in order; rows of one order stand as their classes do
abbrev pub rows_of : List ℕ → List Counted → List Row
rows_of name classes = in_order row_lt (each_row name classes)
