-- Rows, lines and variables by numbers of instructions: they are well made.
use Rattle.std.proofs.Common.{◌≡◌, ◌⊎◌, inl, inr, ℕ, ◌+◌, ◌<◌, ◌≤◌, true, ◌&&◌, ◌||◌, List, map, filter, All, nat_eq, nat_lt, get_or, Option, Some, None, refl, ◌∙◌, ap, arith}
use Rattle.std.proofs.lemmas.Bool.{and_parts, or_cases, eqb-true, ltb-true, cases_eq}
use Rattle.std.proofs.lemmas.Option.{none-some, slice_get-get_or}
use Rattle.std.proofs.lemmas.List.Elements.{All-map, filter_passes}
use Rattle.jc_methods.specs.WellMade.{IsHandler, IsLine, IsVar}
use Rattle.jc_pool.specs.Lookup.{class_name_of}
use Rattle.jc_pool.specs.Pool.{PoolValue}
use Rattle.jc_body.specs.declared.items.Row.{Row}
use Rattle.jc_body.specs.declared.items.LineEntry.{LineEntry}
use Rattle.jc_body.specs.declared.items.VarEntry.{VarEntry}
use Rattle.jc_body.specs.BodyOf.{handler_of, line_of, var_of, keeps_line, keeps_var, lines_of, vars_of}
use Rattle.jc_body.specs.Faults.{IsRow, IsStart, IsClassOrNone}
use Rattle.jc_body.specs.First.{NoItem}
use Rattle.jc_body.proofs.DecidedLaws.{Decided, either_or_not, below_or_not}

-- ---- rows

name_or_not : (o : Option (List ℕ)) → Decided ((name : List ℕ) × (o ≡ Some name))
name_or_not None = inr (λ some. none-some some.0 some.1)
name_or_not (Some name) = inl (name, refl)

class_or_not : (pool : PoolValue) (place : ℕ) → Decided (IsClassOrNone pool place)
class_or_not pool place = either_or_not _ _ (cases_eq place 0) (name_or_not (class_name_of pool place))

pub row_or_not : (pool : PoolValue) (number : ℕ → ℕ) (count size : ℕ) (row : Row) → IsRow pool number count size row ⊎ (IsRow pool number count size row → ⊥)
row_or_not pool number count size row = by
    (below_or_not row.start row.end)
    (below_or_not (number row.start) count)
    (either_or_not _ _ (below_or_not (number row.end) count) (cases_eq row.end size))
    (below_or_not (number row.target) count)
    (class_or_not pool row.class)
  where
    by : Decided (row.start < row.end) → Decided (IsStart number count row.start) → Decided (IsStart number count row.end ⊎ (row.end ≡ size))
        → Decided (IsStart number count row.target) → Decided (IsClassOrNone pool row.class) → Decided (IsRow pool number count size row)
    by (inl ordered) (inl start) (inl end) (inl target) (inl class) = inl (record { ordered = ordered; start = start; end = end; target = target; class = class })
    by (inr never) start end target class = inr (λ is. never is.ordered)
    by (inl ordered) (inr never) end target class = inr (λ is. never is.start)
    by (inl ordered) (inl start) (inr never) target class = inr (λ is. never is.end)
    by (inl ordered) (inl start) (inl end) (inr never) class = inr (λ is. never is.target)
    by (inl ordered) (inl start) (inl end) (inl target) (inr never) = inr (λ is. never is.class)

row_handled : (pool : PoolValue) (number : ℕ → ℕ) (count size : ℕ) (row : Row) → number size ≡ count
    → ((offset offset' : ℕ) → offset < offset' → number offset < count → number offset' < count → number offset < number offset')
    → IsRow pool number count size row → IsHandler count (handler_of number row)
row_handled pool number count size row past rises is = by is.end
  where
    by : IsStart number count row.end ⊎ (row.end ≡ size) → IsHandler count (handler_of number row)
    by (inl inside) = record { some = rises row.start row.end is.ordered is.start inside; end = omega (arith, inside); target = is.target }
    by (inr last) =
        let same : number row.end ≡ count = ap number last ∙ past in
        record { some = omega (arith, same, is.start); end = omega (arith, same); target = is.target }

pub rows_handled : (pool : PoolValue) (number : ℕ → ℕ) (count size : ℕ) (rows : List Row) → number size ≡ count
    → ((offset offset' : ℕ) → offset < offset' → number offset < count → number offset' < count → number offset < number offset')
    → NoItem (λ place row. IsRow pool number count size row → ⊥) rows → All (IsHandler count) (map (handler_of number) rows)
rows_handled pool number count size rows past rises none = All-map (IsHandler count) (handler_of number) rows each
  where
    is_row : (row : Row) → ((IsRow pool number count size row → ⊥) → ⊥) → Decided (IsRow pool number count size row) → IsRow pool number count size row
    is_row row not_not (inl is) = is
    is_row row not_not (inr never) = absurd (not_not never)

    each : All (λ row. IsHandler count (handler_of number row)) rows
    each k d lt = row_handled pool number count size (get_or rows k d) past rises
        (is_row (get_or rows k d) (none k (get_or rows k d) (slice_get-get_or rows k d lt)) (row_or_not pool number count size (get_or rows k d)))

-- ---- lines and variables

pub lines_kept : (number : ℕ → ℕ) (count : ℕ) (entries : List LineEntry) → All (IsLine count) (lines_of number count entries)
lines_kept number count entries = All-map (IsLine count) (line_of number) (filter (keeps_line number count) entries)
    (λ k d lt. ltb-true (number (get_or (filter (keeps_line number count) entries) k d).start) count (filter_passes (keeps_line number count) entries k d lt))

var_kept : (number : ℕ → ℕ) (count size max_locals : ℕ) (entry : VarEntry) → number size ≡ count
    → ((offset offset' : ℕ) → offset ≤ offset' → number offset < count → number offset' < count → number offset ≤ number offset')
    → keeps_var number count size max_locals entry ≡ true → IsVar count max_locals (var_of number entry)
var_kept number count size max_locals entry past rises kept =
    let outer = and_parts (nat_lt (number entry.start) count) ((nat_lt (number (entry.start + entry.length)) count || nat_eq (entry.start + entry.length) size) && nat_lt entry.slot max_locals) kept in
    let inner = and_parts (nat_lt (number (entry.start + entry.length)) count || nat_eq (entry.start + entry.length) size) (nat_lt entry.slot max_locals) outer.1 in
    by (ltb-true (number entry.start) count outer.0) (ltb-true entry.slot max_locals inner.1)
    (or_cases (nat_lt (number (entry.start + entry.length)) count) (nat_eq (entry.start + entry.length) size) inner.0)
  where
    by : number entry.start < count → entry.slot < max_locals → (nat_lt (number (entry.start + entry.length)) count ≡ true)
        ⊎ (nat_eq (entry.start + entry.length) size ≡ true) → IsVar count max_locals (var_of number entry)
    by start slot (inl inside) =
        let end = ltb-true (number (entry.start + entry.length)) count inside in
        record { start = start; ordered = rises entry.start (entry.start + entry.length) (omega arith) start end; end = omega (arith, end); slot = slot }
    by start slot (inr last) =
        let same : number (entry.start + entry.length) ≡ count = ap number (eqb-true (entry.start + entry.length) size last) ∙ past in
        record { start = start; ordered = omega (arith, same, start); end = omega (arith, same); slot = slot }

pub vars_kept : (number : ℕ → ℕ) (count size max_locals : ℕ) (entries : List VarEntry) → number size ≡ count
    → ((offset offset' : ℕ) → offset ≤ offset' → number offset < count → number offset' < count → number offset ≤ number offset')
    → All (IsVar count max_locals) (vars_of number count size max_locals entries)
vars_kept number count size max_locals entries past rises = All-map (IsVar count max_locals) (var_of number) (filter (keeps_var number count size max_locals) entries)
    (λ k d lt. var_kept number count size max_locals (get_or (filter (keeps_var number count size max_locals) entries) k d) past rises
    (filter_passes (keeps_var number count size max_locals) entries k d lt))
