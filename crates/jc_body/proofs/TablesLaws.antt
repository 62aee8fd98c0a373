-- The entries of several tables, one table behind the other.
use Rattle.std.proofs.Common.{◌≡◌, ◌<◌, ◌≤◌, ◌⊎◌, inl, inr, ⊎_elim, ℕ, ◌+◌, List, [], ◌∷◌, ◌++◌, length, drop, map, filter, get_or, Bor, All, codes, refl, sym, ◌∙◌, ap, subst, append_assoc, arith}
use Rattle.std.proofs.lemmas.List.{append-nil, drop_all, length-map}
use Rattle.std.proofs.lemmas.List.Elements.{All-map, All-filter}
use Rattle.std.proofs.Math.ListN.{get_or-map}
use Rattle.jc_bytes.specs.Counted.{counted_at}
use Rattle.jc_bytes.specs.Grammar.{Grammar, Agrees}
use Rattle.jc_bytes.specs.Reader.{most_read}
use Rattle.jc_bytes.specs.Parsing.{Parsed}
use Rattle.jc_bytes.proofs.AppendingLaws.{drop_at}
use Rattle.jc_bytes.proofs.GrammarLaws.{one_value}
use Rattle.jc_pool.specs.Pool.{PoolValue}
use Rattle.jc_class.specs.declared.class_file.Attribute.{Attribute}
use Rattle.jc_body.specs.declared.items.Tables.{Tables}
use Rattle.jc_body.specs.CodeForm.{line_table, var_table}
use Rattle.jc_body.specs.CodeReading.{line_at, var_at}
use Rattle.jc_body.specs.Attributes.{has_name, bodies_of, AreEntries, AreTables}
use Rattle.jc_body.proofs.FormLaws.{lines_agree, vars_agree, whole_or_none}

-- ---- one list of entries, or none

module _ {X : Type 0} (table : Grammar (List X)) (read : List ℕ → Parsed (List X)) (a : Agrees table read) where
  pub one_list : (bodies : List (List ℕ)) (xs ys : List X) → AreEntries table bodies xs → AreEntries table bodies ys → xs ≡ ys
  one_list [] xs ys p q = p ∙ sym q
  one_list (body ∷ bodies) xs ys p q =
      let front : p.0 ≡ q.0 = one_value table read a body p.0 q.0 p.3 q.3 in
      let rest : p.1 ≡ q.1 = one_list bodies p.1 q.1 p.4 q.4 in
      p.2 ∙ (λ i. front i ++ rest i) ∙ sym q.2

  pub list_or_none : (bodies : List (List ℕ)) → ((xs : List X) × AreEntries table bodies xs) ⊎ ((xs : List X) → AreEntries table bodies xs → ⊥)
  list_or_none [] = inl ([], refl)
  list_or_none (body ∷ bodies) = ⊎_elim
      (λ front. ⊎_elim (λ rest. inl (front.0 ++ rest.0, (front.0, rest.0, refl, front.1, rest.1))) (λ none. inr (λ xs are. none are.1 are.4)) (list_or_none bodies))
      (λ none. inr (λ xs are. none are.0 are.3))
      (whole_or_none table read a body)

-- ---- all tables

pub one_tables : (pool : PoolValue) (attributes : List Attribute) (s t : Tables) → AreTables pool attributes s → AreTables pool attributes t → s ≡ t
one_tables pool attributes s t p q =
    let lines = one_list line_table (counted_at line_at) lines_agree _ s.lines t.lines p.lines q.lines in
    let vars = one_list var_table (counted_at var_at) vars_agree _ s.vars t.vars p.vars q.vars in
    let kind_vars = one_list var_table (counted_at var_at) vars_agree _ s.kind_vars t.kind_vars p.kind_vars q.kind_vars in
    λ i. record { lines = lines i; vars = vars i; kind_vars = kind_vars i }

pub tables_or_none : (pool : PoolValue) (attributes : List Attribute) → ((tables : Tables) × AreTables pool attributes tables) ⊎ ((tables : Tables) → AreTables pool attributes tables → ⊥)
tables_or_none pool attributes = ⊎_elim
    (λ lines. ⊎_elim
    (λ vars. ⊎_elim
    (λ kind_vars. inl (record { lines = lines.0; vars = vars.0; kind_vars = kind_vars.0 }, record { lines = lines.1; vars = vars.1; kind_vars = kind_vars.1 }))
    (λ none. inr (λ tables are. none tables.kind_vars are.kind_vars))
    (list_or_none var_table (counted_at var_at) vars_agree (bodies_of pool (codes "LocalVariableTypeTable") attributes)))
    (λ none. inr (λ tables are. none tables.vars are.vars))
    (list_or_none var_table (counted_at var_at) vars_agree (bodies_of pool (codes "LocalVariableTable") attributes)))
    (λ none. inr (λ tables are. none tables.lines are.lines))
    (list_or_none line_table (counted_at line_at) lines_agree (bodies_of pool (codes "LineNumberTable") attributes))

-- ---- joined in a loop

module _ {X : Type 0} (table : Grammar (List X)) (bodies : List (List ℕ)) where
  -- the entries so far stand in front of those of the bodies that are left
  pub record Joining (xs : List X) (left : List (List ℕ)) : Type 0 where
    pub whole : (ys : List X) → AreEntries table left ys → AreEntries table bodies (xs ++ ys)
    pub some : (zs : List X) → AreEntries table bodies zs → (ys : List X) × AreEntries table left ys

  pub one_joined : (xs front : List X) (body : List ℕ) (left : List (List ℕ)) → table.Text body front → Joining xs (body ∷ left) → Joining (xs ++ front) left
  one_joined xs front body left text j = record {
    whole = λ ys are. subst (AreEntries table bodies) (sym (append_assoc xs front ys)) (j.whole (front ++ ys) (front, ys, refl, text, are));
    some = λ zs are. let rest = (j.some zs are).1 in (rest.1, rest.4);
  }

  pub all_joined : (xs : List X) → Joining xs [] → AreEntries table bodies xs
  all_joined xs j = subst (AreEntries table bodies) (append-nil xs) (j.whole [] refl)

  pub none_spelled : (xs : List X) (body : List ℕ) (left : List (List ℕ)) → ((front : List X) → table.Text body front → ⊥) → Joining xs (body ∷ left) → (zs : List X) → AreEntries table bodies zs → ⊥
  none_spelled xs body left none j zs are = let rest = (j.some zs are).1 in none rest.0 rest.3

-- the bodies as the loop has them, each behind a reference
abbrev pub texts : List (Bor (List ℕ)) → List (List ℕ)
texts bodies = map (λ body. body.now) bodies

module _ {X : Type 0} (table : Grammar (List X)) (bodies : List (Bor (List ℕ))) where
  pub table_joined : (xs front next : List X) (i : ℕ) (default : Bor (List ℕ)) → i < length bodies → table.Text (get_or bodies i default).now front → next ≡ xs ++ front
      → Joining table (texts bodies) xs (texts (drop i bodies)) → Joining table (texts bodies) next (texts (drop (i + 1) bodies))
  table_joined xs front next i default room text is j =
      rw is
      (one_joined table (texts bodies) xs front (get_or bodies i default).now (texts (drop (i + 1) bodies)) text
      (subst (Joining table (texts bodies) xs) (ap texts (drop_at bodies i default room)) j))

  pub table_missing : (xs : List X) (i : ℕ) (default : Bor (List ℕ)) → i < length bodies → ((front : List X) → table.Text (get_or bodies i default).now front → ⊥)
      → Joining table (texts bodies) xs (texts (drop i bodies)) → (zs : List X) → AreEntries table (texts bodies) zs → ⊥
  table_missing xs i default room none j =
      none_spelled table (texts bodies) xs (get_or bodies i default).now (texts (drop (i + 1) bodies)) none
      (subst (Joining table (texts bodies) xs) (ap texts (drop_at bodies i default room)) j)

  pub tables_joined : (xs : List X) (i : ℕ) → length bodies ≤ i → Joining table (texts bodies) xs (texts (drop i bodies)) → AreEntries table (texts bodies) xs
  tables_joined xs i full j = all_joined table (texts bodies) xs (subst (Joining table (texts bodies) xs) (ap texts (drop_all i bodies full)) j)

-- ---- the bodies of the attributes of a name

-- no longer than a file that is read
abbrev pub IsBounded : List ℕ → Type 0
IsBounded bytes = length bytes ≤ most_read

-- what holds of each attribute's body holds of each of these
module _ (P : List ℕ → Type 0) (pool : PoolValue) (name : List ℕ) (attributes : List Attribute) (all : All (λ a. P a.body) attributes) where
  each_named : All P (bodies_of pool name attributes)
  each_named = All-map P (λ a. a.body) (filter (has_name pool name) attributes) (All-filter (has_name pool name) (λ a. P a.body) attributes all)

  pub each_body : (bodies : List (Bor (List ℕ))) → texts bodies ≡ bodies_of pool name attributes → All (λ body. P body.now) bodies
  each_body bodies is k default within =
      let each = subst (All P) (sym is) each_named in
      subst P (get_or-map (λ body. body.now) bodies k default) (each k default.now (rw (length-map bodies (λ body. body.now)) within))

  pub each_text : (text : List ℕ) → bodies_of pool name attributes ≡ text ∷ [] → P text
  each_text text is = subst (All P) is each_named 0 text (omega arith)
