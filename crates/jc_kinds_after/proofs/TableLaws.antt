-- The table as it is kept has the forms of each opcode.
use Rattle.std.proofs.Common.{◌≡◌, ◌<◌, ◌≤◌, ℕ, zero, suc, Bool, true, false, ◌&&◌, List, [], ◌∷◌, map, get_or, refl, sym, ◌∙◌, ap, arith, nat_le}
use Rattle.std.proofs.Common.{if◌then◌else◌}
use Rattle.std.proofs.lemmas.Bool.{and_parts, leb-true, lt-leb}
use Rattle.std.proofs.lemmas.List.FromFn.{get_or-map-range_with_len}
use Rattle.std.specs.List.{range_with_len, flat_map, list_all}
use Rattle.jc_kinds_after.specs.declared.table.Shape.{Shape}
use Rattle.jc_kinds_after.specs.Shapes.{forms_of}
use Rattle.jc_kinds_after.specs.Table.{Row, table, find, forms_at}

mapped_at : (xs : List (List Shape)) (i : ℕ) → get_or (map (flat_map forms_of) xs) i [] ≡ flat_map forms_of (get_or xs i [])
mapped_at [] i = refl
mapped_at (x ∷ xs) zero = refl
mapped_at (x ∷ xs) (suc i) = mapped_at xs i

pub by_table : (xs : List (List Shape)) (op : ℕ) → map (flat_map forms_of) xs ≡ map forms_at (range_with_len 0 202) → op < 202
    → flat_map forms_of (get_or xs op []) ≡ forms_at op
by_table xs op e lt = sym (mapped_at xs op) ∙ ap (λ l. get_or l op []) e ∙ get_or-map-range_with_len forms_at 0 202 op op [] lt (omega arith)

ends_before : Row → Bool
ends_before r = nat_le r.last 201

no_row : (op : ℕ) (rows : List Row) → list_all ends_before rows ≡ true → 202 ≤ op → find op rows ≡ []
unfolding ends_before
no_row op [] all past = refl
no_row op (r ∷ rows) all past =
    let p = and_parts (nat_le r.last 201) (list_all ends_before rows) all in
    let low = leb-true r.last 201 p.0 in
    by (nat_le r.first op) (nat_le op r.last) (lt-leb op r.last (omega (arith, low, past))) (no_row op rows p.1 past)
  where
    by : (a b : Bool) → b ≡ false → find op rows ≡ [] → (if a && b then r.forms else find op rows) ≡ []
    by true true e rest = absurd cc
    by true false e rest = rest
    by false b e rest = rest

pub past_table : (op : ℕ) → 202 ≤ op → [] ≡ forms_at op
unfolding forms_at table ends_before
past_table op past = sym (no_row op table refl past)
