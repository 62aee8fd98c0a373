-- The line of each instruction, by the entries that start there and by the instruction before it.
use Rattle.std.proofs.Common.{◌≡◌, ◌⊎◌, inl, inr, ⊎_elim, ℕ, zero, suc, ◌+◌, ◌<◌, ◌≤◌, Bool, cond, List, [], ◌∷◌, ◌++◌, length, get_or, set, take, replicate, Option, Some, None, refl, sym, ap, ap₂, ◌∙◌, subst, arith}
use Rattle.std.specs.Prelude.{slice_get, option_to_list}
use Rattle.std.proofs.lemmas.Bool.{cases_order}
use Rattle.std.proofs.lemmas.Option.{same_Some, none-some}
use Rattle.std.proofs.lemmas.List.{get_or-set_same, get_or-set_other, get_or_default, length-set, length-replicate, get_or-replicate, append-nil}
use Rattle.jc_bytes.specs.PlainLists.{join_from}
use Rattle.jc_methods.specs.declared.body.LineAt.{LineAt}
use Rattle.jc_cover.specs.Counters.{is_covered, line_of, IsLineOf}
use Rattle.jc_cover.specs.Lines.{with_lines, first_of, insn_line, covered_insn_line}
use Rattle.jc_cover.proofs.LineLaws.{line_found, one_line}
use Rattle.jc_cover.proofs.InsnLinesLaws.{line_put}

-- the last entry that starts at the instruction
record StartsAt (lines : List LineAt) (i number : ℕ) : Type 0 where
  place : ℕ
  line : LineAt
  listed : slice_get lines place ≡ Some line
  here : line.at ≡ i
  is : line.line ≡ number
  last : (other : ℕ) (entry : LineAt) → slice_get lines other ≡ Some entry → entry.at ≡ i → other ≤ place

abbrev NoneAt : List LineAt → ℕ → Type 0
NoneAt lines i = (other : ℕ) (entry : LineAt) → slice_get lines other ≡ Some entry → entry.at ≡ i → ⊥

later : (l : LineAt) (lines : List LineAt) (i number : ℕ) → StartsAt lines i number → StartsAt (l ∷ lines) i number
later l lines i number s = record {
  place = suc s.place;
  line = s.line;
  listed = s.listed;
  here = s.here;
  is = s.is;
  last = λ other entry h e. by other entry h e;
}
  where
    by : (other : ℕ) (entry : LineAt) → slice_get (l ∷ lines) other ≡ Some entry → entry.at ≡ i → other ≤ suc s.place
    by zero entry h e = omega arith
    by (suc other) entry h e = let le = s.last other entry h e in omega (arith, le)

started : (lines : List LineAt) (table : List (Option ℕ)) (i : ℕ) → i < length table
    → ((number : ℕ) × StartsAt lines i number × (get_or (with_lines lines table) i None ≡ Some number)) ⊎ (NoneAt lines i × (get_or (with_lines lines table) i None ≡ get_or table i None))
started [] table i lt = inr ((λ other entry h e. none-some entry h), refl)
started (l ∷ lines) table i lt = by (started lines (set table l.at (Some l.line)) i (subst (λ n. i < n) (sym (length-set table l.at (Some l.line))) lt))
  where
    here : NoneAt lines i → get_or (with_lines lines (set table l.at (Some l.line))) i None ≡ get_or (set table l.at (Some l.line)) i None
        → ((number : ℕ) × StartsAt (l ∷ lines) i number × (get_or (with_lines (l ∷ lines) table) i None ≡ Some number))
        ⊎ (NoneAt (l ∷ lines) i × (get_or (with_lines (l ∷ lines) table) i None ≡ get_or table i None))
    here none e =
        ⊎_elim
        (λ same. inl (
          l.line,
          record { place = 0; line = l; listed = refl; here = same; is = refl; last = only },
          e
              ∙ ap (λ k. get_or (set table k (Some l.line)) i None) same ∙ get_or-set_same table i (Some l.line) None lt,
        ))
        (λ apart. inr (nowhere (λ f. differ apart f), e ∙ get_or-set_other table l.at i (Some l.line) None (λ f. differ apart (sym f))))
        (cases_order l.at i)
      where
        differ : (l.at < i) ⊎ (i < l.at) → l.at ≡ i → ⊥
        differ (inl less) f = omega (arith, less, f)
        differ (inr more) f = omega (arith, more, f)

        only : (other : ℕ) (entry : LineAt) → slice_get (l ∷ lines) other ≡ Some entry → entry.at ≡ i → other ≤ 0
        only zero entry h f = omega arith
        only (suc other) entry h f = absurd (none other entry h f)

        nowhere : (l.at ≡ i → ⊥) → (other : ℕ) (entry : LineAt) → slice_get (l ∷ lines) other ≡ Some entry → entry.at ≡ i → ⊥
        nowhere apart zero entry h f = apart (ap (λ (k : LineAt). k.at) (same_Some l entry h) ∙ f)
        nowhere apart (suc other) entry h f = none other entry h f

    by : ((number : ℕ) × StartsAt lines i number × (get_or (with_lines lines (set table l.at (Some l.line))) i None ≡ Some number))
        ⊎ (NoneAt lines i × (get_or (with_lines lines (set table l.at (Some l.line))) i None ≡ get_or (set table l.at (Some l.line)) i None))
        → ((number : ℕ) × StartsAt (l ∷ lines) i number × (get_or (with_lines (l ∷ lines) table) i None ≡ Some number))
        ⊎ (NoneAt (l ∷ lines) i × (get_or (with_lines (l ∷ lines) table) i None ≡ get_or table i None))
    by (inl found) = inl (found.0, later l lines i found.0 found.1, found.2)
    by (inr none) = here none.0 none.1

-- ---- on the way

-- the line of the instruction before this one, if there is one
pub record Carried (lines : List LineAt) (n : ℕ) (line : Option ℕ) : Type 0 where
  pub begins : n ≡ 0 → line ≡ None
  pub goes_on : (i : ℕ) → i + 1 ≡ n → line ≡ line_of lines i

pub none_carried : (lines : List LineAt) → Carried lines 0 None
none_carried lines = record { begins = λ e. refl; goes_on = λ i e. absurd (omega (arith, e)) }

-- the entry stands at the instruction
by_start : (lines : List LineAt) (n number : ℕ) → StartsAt lines n number → IsLineOf lines n (Some number)
by_start lines n number s =
    let here = s.here in (
      s.place,
      s.line,
      record {
        listed = s.listed;
        not_past = omega (arith, here);
        greatest = λ other entry h past.
            ⊎_elim
            (λ same. inr (same ∙ sym here, s.last other entry h same))
            (λ apart. ⊎_elim (λ less. inl (omega (arith, less, here))) (λ more. absurd (omega (arith, more, past))) apart)
            (cases_order entry.at n);
      },
      s.is,
    )

-- no entry stands at the instruction
by_before : (lines : List LineAt) (n i : ℕ) (o : Option ℕ) → i + 1 ≡ n → NoneAt lines n → IsLineOf lines i o → IsLineOf lines n o
by_before lines n i o e none is = by o is
  where
    before : (other : ℕ) (entry : LineAt) → slice_get lines other ≡ Some entry → entry.at ≤ n → entry.at ≤ i
    before other entry h past =
        ⊎_elim
        (λ same. absurd (none other entry h same))
        (λ apart. ⊎_elim (λ less. omega (arith, less, e)) (λ more. absurd (omega (arith, more, past))) apart)
        (cases_order entry.at n)

    by : (o : Option ℕ) → IsLineOf lines i o → IsLineOf lines n o
    by None f = λ place line h past. f place line h (before place line h past)
    by (Some number) f =
        let entry = f.2 in
        let past = entry.not_past in
        (f.0, f.1, record { listed = entry.listed; not_past = omega (arith, past, e); greatest = λ other found h le. entry.greatest other found h (before other found h le) }, f.3)

-- the first instruction
by_first : (lines : List LineAt) (n : ℕ) → n ≡ 0 → NoneAt lines n → IsLineOf lines n None
by_first lines n z none = λ place line h past. none place line h (omega (arith, z, past))

lines_size : (lines : List LineAt) (table : List (Option ℕ)) → length (with_lines lines table) ≡ length table
lines_size [] table = refl
lines_size (l ∷ lines) table = lines_size lines (set table l.at (Some l.line)) ∙ length-set table l.at (Some l.line)

pub starts_size : (lines : List LineAt) (count : ℕ) → length (with_lines lines (replicate count None)) ≡ count
starts_size lines count = lines_size lines (replicate count None) ∙ length-replicate {A = Option ℕ} count None

pub line_carried : (lines : List LineAt) (count n : ℕ) (start line : Option ℕ) → n < count → start ≡ get_or (with_lines lines (replicate count None)) n start → Carried lines n line
    → first_of start line ≡ line_of lines n
line_carried lines count n start line lt read carried =
    one_line lines n (first_of start line) (line_of lines n)
    (by (started lines (replicate count None) n (subst (λ k. n < k) (sym (length-replicate {A = Option ℕ} count None)) lt))) (line_found lines n)
  where
    is : start ≡ get_or (with_lines lines (replicate count None)) n None
    is = read ∙ get_or_default (with_lines lines (replicate count None)) n start None (subst (λ k. n < k) (sym (starts_size lines count)) lt)

    before : (k : ℕ) → n ≡ k → NoneAt lines n → IsLineOf lines n line
    before zero z none = subst (IsLineOf lines n) (sym (carried.begins z)) (by_first lines n z none)
    before (suc i) z none =
        let e : i + 1 ≡ n = omega (arith, z) in
        subst (IsLineOf lines n) (sym (carried.goes_on i e)) (by_before lines n i (line_of lines i) e none (line_found lines i))

    by : ((number : ℕ) × StartsAt lines n number × (get_or (with_lines lines (replicate count None)) n None ≡ Some number))
        ⊎ (NoneAt lines n × (get_or (with_lines lines (replicate count None)) n None ≡ get_or (replicate {A = Option ℕ} count None) n None))
        → IsLineOf lines n (first_of start line)
    by (inl found) = subst (λ s. IsLineOf lines n (first_of s line)) (sym (is ∙ found.2)) (by_start lines n found.0 found.1)
    by (inr none) = subst (λ s. IsLineOf lines n (first_of s line)) (sym (is ∙ none.1 ∙ get_or-replicate {A = Option ℕ} count n None None lt)) (before n refl none.0)

pub carried_on : (lines : List LineAt) (n : ℕ) (line : Option ℕ) → line ≡ line_of lines n → Carried lines (n + 1) line
carried_on lines n line e = record { begins = λ z. absurd (omega (arith, z)); goes_on = λ i f. let same : n ≡ i = omega (arith, f) in e ∙ ap (line_of lines) same }

-- so many instructions have their lines, behind those that stood there
pub record Lining (table : List LineAt) (insns : List (List Bool)) (at : ℕ) (all covered : List ℕ) (now told : List ℕ) (line : Option ℕ) : Type 0 where
  pub lined : now ≡ all ++ join_from (insn_line table) 0 (take at insns)
  pub known : told ≡ covered ++ join_from (covered_insn_line table) 0 (take at insns)
  pub carried : Carried table at line

pub lining_begun : (table : List LineAt) (insns : List (List Bool)) (all covered : List ℕ) → Lining table insns 0 all covered all covered None
lining_begun table insns all covered = record { lined = sym (append-nil all); known = sym (append-nil covered); carried = none_carried table }

pub lining_more : (table : List LineAt) (insns : List (List Bool)) (at : ℕ) (values : List Bool) (all covered now told next known : List ℕ) (start line line' : Option ℕ) (t : Bool)
    → at < length insns → values ≡ get_or insns at values → start ≡ get_or (with_lines table (replicate (length insns) None)) at start → line' ≡ first_of start line → t ≡ is_covered values
    → next ≡ now ++ option_to_list line' → known ≡ told ++ option_to_list (cond t line' None) → Lining table insns at all covered now told line
    → Lining table insns (at + 1) all covered next known line'
lining_more table insns at values all covered now told next known start line line' t lt is read first test put put' l =
    let e : line' ≡ line_of table at = first ∙ line_carried table (length insns) at start line lt read l.carried in
    record {
      lined = line_put (insn_line table) insns at values all now next lt is l.lined (put ∙ ap (λ (o : Option ℕ). now ++ option_to_list o) e);
      known = line_put (covered_insn_line table) insns at values covered told known lt is l.known
          (put' ∙ ap₂ (λ (s : Bool) (o : Option ℕ). told ++ option_to_list (cond s o None)) test e);
      carried = carried_on table at line' e;
    }
