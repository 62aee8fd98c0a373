-- The text of a report: a header line, and a line for each row (RFC 4180, with LF at the end of each line).
use Rattle.std.specs.Prelude.{◌==◌, ◌||◌, ℕ, Bool, List, [], ◌∷◌, ◌++◌, map, if◌then◌else◌, codes, decimal}
use Rattle.std.specs.List.{list_any, flat_map, join_with_byte}
use Rattle.jc_cover.specs.declared.coverage.Count.{Count}
use Rattle.jc_report.specs.declared.row.Row.{Row}

abbrev pub comma : ℕ
comma = 44

abbrev pub quote : ℕ
quote = 34

abbrev pub carriage_return : ℕ
carriage_return = 13

abbrev pub line_feed : ℕ
line_feed = 10

abbrev pub calls_for_quotes : ℕ → Bool
calls_for_quotes b = (b == comma) || (b == quote) || (b == carriage_return) || (b == line_feed)

-- the bytes of a field, each quote written twice
abbrev pub doubled : List ℕ → List ℕ
doubled [] = []
doubled (b ∷ rest) = if b == quote then quote ∷ b ∷ doubled rest else b ∷ doubled rest

-- A field as it is written: between quotes, with its own quotes doubled, where it holds a comma, a quote, CR or LF.
abbrev pub written_field : List ℕ → List ℕ
written_field field = if list_any calls_for_quotes field then quote ∷ (doubled field ++ quote ∷ []) else field

-- fields joined by commas, and LF
abbrev pub line : List (List ℕ) → List ℕ
line fields = join_with_byte comma (map written_field fields) ++ line_feed ∷ []

abbrev pub count_fields : Count → List (List ℕ)
count_fields c = decimal c.missed ∷ decimal c.covered ∷ []

-- the fields of a row: three names, and five pairs of numbers
abbrev pub row_fields : Row → List (List ℕ)
row_fields r = r.group ∷ r.«package» ∷ r.class ∷ []
    ++ count_fields r.counters.instruction ++ count_fields r.counters.branch ++ count_fields r.counters.line
    ++ count_fields r.counters.complexity ++ count_fields r.counters.method

abbrev pub row_line : Row → List ℕ
row_line r = line (row_fields r)

abbrev pub header : List ℕ
header = codes "GROUP,PACKAGE,CLASS,INSTRUCTION_MISSED,INSTRUCTION_COVERED,BRANCH_MISSED,BRANCH_COVERED,LINE_MISSED,LINE_COVERED,COMPLEXITY_MISSED,COMPLEXITY_COVERED,METHOD_MISSED,METHOD_COVERED\n"

abbrev pub csv_of : List Row → List ℕ
csv_of rows = header ++ flat_map row_line rows
