-- A line of a report is what the writer's defaults write.
use Rattle.std.proofs.Common.{◌≡◌, ◌∙◌, ap, ap₂, sym, refl, ℕ, ◌+◌, ◌<◌, Bool, true, false, ◌==◌, ◌||◌, List, [], ◌∷◌, ◌++◌, map, length, take, get_or, if◌then◌else◌}
use Rattle.std.proofs.lemmas.List.{flat_map_more, take_more}
use Rattle.std.specs.List.{list_any, join_with_byte}
use Rattle.csv.specs.Writing.{default_writer, escaped, field_text, fields_text, is_blank, needs_byte, row_text}
use Rattle.jc_report.specs.declared.row.Row.{Row}
use Rattle.jc_report.specs.Csv.{calls_for_quotes, written_field, csv_of, doubled, header, line, row_line}

or-false : (b : Bool) → (b || false) ≡ b
or-false true = refl
or-false false = refl

or_assoc : (a b c : Bool) → (a || (b || c)) ≡ ((a || b) || c)
or_assoc true b c = refl
or_assoc false b c = refl

byte_same : (b : ℕ) → needs_byte default_writer b ≡ calls_for_quotes b
byte_same b = or-false _ ∙ or-false _ ∙ or_assoc ((b == 44) || (b == 34)) (b == 13) (b == 10)

any_same : (field : List ℕ) → list_any (needs_byte default_writer) field ≡ list_any calls_for_quotes field
any_same [] = refl
any_same (b ∷ rest) = ap₂ (λ x y. x || y) (byte_same b) (any_same rest)

escaped_same : (field : List ℕ) → escaped default_writer field ≡ doubled field
unfolding escaped
escaped_same [] = refl
escaped_same (b ∷ rest) = ap₂ (λ x y. if b == 34 then 34 ∷ b ∷ x else b ∷ y) (escaped_same rest) (escaped_same rest)

cell_same : (field : List ℕ) → field_text default_writer field ≡ written_field field
cell_same field = ap₂ (λ c e. if c then 34 ∷ (e ++ 34 ∷ []) else field) (any_same field) (escaped_same field)

-- the fields behind the first, each behind a comma
more_same : (first : List ℕ) (fields : List (List ℕ)) → first ++ fields_text default_writer fields ≡ join_with_byte 44 (first ∷ map written_field fields)
unfolding fields_text
more_same first [] = append_nil first
  where
    append_nil : (xs : List ℕ) → xs ++ [] ≡ xs
    append_nil [] = refl
    append_nil (x ∷ xs) = ap (λ l. x ∷ l) (append_nil xs)
more_same first (f ∷ rest) = ap (λ l. first ++ (44 ∷ l)) (ap (λ l. l ++ fields_text default_writer rest) (cell_same f) ∙ more_same (written_field f) rest)

-- a record of two fields or more
pub line_same : (f g : List ℕ) (rest : List (List ℕ)) → row_text default_writer (f ∷ g ∷ rest) ≡ line (f ∷ g ∷ rest)
unfolding is_blank
line_same f g rest = ap (λ l. l ++ 10 ∷ []) (ap (λ l. l ++ fields_text default_writer (g ∷ rest)) (cell_same f) ∙ more_same (written_field f) (g ∷ rest))

-- the text grows by the line of one more row
pub csv_of-more : (rows : List Row) (i : ℕ) (row : Row) → i < length rows → row ≡ get_or rows i row → csv_of (take (i + 1) rows) ≡ csv_of (take i rows) ++ row_line row
csv_of-more rows i row inside is =
    ap csv_of (take_more rows i row inside ∙ ap (λ r. take i rows ++ r ∷ []) (sym is)) ∙ sym (flat_map_more row_line header (take i rows) row)
