-- Classes of the worked examples.
use Rattle.std.specs.Prelude.{ℕ, List, [], ◌∷◌, Option, Some, None, codes}
use Rattle.jc_cover.specs.declared.coverage.Count.{Count}
use Rattle.jc_cover.specs.declared.coverage.Counters.{Counters}
use Rattle.jc_report.specs.declared.row.Counted.{Counted}
use Rattle.jc_report.specs.Csv.{csv_of}
use Rattle.jc_report.specs.Rows.{rows_of}

abbrev pub count : ℕ → ℕ → Count
count missed covered = record { missed = missed; covered = covered }

-- a jump that goes one way of two: seven instructions, of which four were covered
abbrev pub half_covered : Counters
half_covered = record { instruction = count 3 4; branch = count 1 1; line = count 0 0; complexity = count 1 1; method = count 0 1 }

abbrev pub not_covered : Counters
not_covered = record { instruction = count 7 0; branch = count 2 0; line = count 0 0; complexity = count 2 0; method = count 1 0 }

abbrev pub calculator : Counters
calculator = record { instruction = count 8 8; branch = count 1 1; line = count 3 3; complexity = count 3 2; method = count 2 2 }

-- nothing of the class counts
abbrev pub nothing_counted : Counters
nothing_counted = record { instruction = count 0 0; branch = count 0 0; line = count 0 0; complexity = count 0 0; method = count 0 0 }

abbrev pub object : Option (List ℕ)
object = Some (codes "java/lang/Object")

-- a class that extends Object and implements nothing
abbrev pub counted : ℕ → List ℕ → Counters → Counted
counted id name counters = record { id = id; name = name; super_name = object; interfaces = []; counters = counters }

-- classes out of order, one of them without an instruction that counts
abbrev pub unordered : List Counted
unordered =
    counted 1 (codes "b/A") half_covered ∷ counted 9 (codes "a/B") half_covered ∷ counted 4 (codes "a/None") nothing_counted
    ∷ counted 7 (codes "a/A") half_covered ∷ counted 3 (codes "a/B") half_covered ∷ []

-- the file of the report of this name
abbrev pub file_of : List ℕ → List Counted → List ℕ
file_of name classes = csv_of (rows_of name classes)

-- ---- a class of two methods
