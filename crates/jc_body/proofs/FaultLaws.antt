-- The least place of each fault, and that it can be decided whether there is one.
use Rattle.std.proofs.Common.{◌≡◌, ◌⊎◌, inl, inr, ℕ, ◌<◌, ◌≤◌, List, length, Option, Some, None, slice_get, get_or, sym, subst, arith}
use Rattle.std.proofs.lemmas.Bool.{cases_lt}
use Rattle.std.proofs.lemmas.Option.{slice_get_within, slice_get-get_or, get_or_from_slice_get}
use Rattle.jc_methods.specs.declared.insn.Insn.{Insn}
use Rattle.jc_pool.specs.Pool.{PoolValue}
use Rattle.jc_methods.specs.Starts.{AreStarts, insn_number}
use Rattle.jc_methods.proofs.StartsLaws.{rising}
use Rattle.jc_body.specs.declared.items.Row.{Row}
use Rattle.jc_body.specs.declared.coded.Coded.{Coded}
use Rattle.jc_body.specs.Faults.{InsnAt, IsRow, BadRow}
use Rattle.jc_bytes.specs.Least.{IsNowhere, IsLeast}
use Rattle.jc_body.specs.First.{IsFirstItem, NoItem, FirstItem}
use Rattle.jc_body.specs.declared.places.Offsets.{Offsets}
use Rattle.jc_body.specs.Numbering.{numbering, Numbers}
use Rattle.jc_body.proofs.OrderLaws.{IsDecided}

-- ---- instructions

module _ (coded : Coded) (are : AreStarts (length coded.insns) (length coded.items.code) coded.starts) (Fact : ℕ → Insn → Type 0) where
  start_at : (number : ℕ) → number < length coded.insns → slice_get coded.starts number ≡ Some (get_or coded.starts number 0)
  start_at number inside = slice_get-get_or coded.starts number 0 (omega (arith, inside, are.one_more))

  pub insn_least : (number : ℕ) → IsFirstItem Fact coded.insns number → IsLeast (InsnAt Fact coded) (get_or coded.starts number 0)
  insn_least number found =
      let inside = slice_get_within coded.insns number found.item found.stands in
      record {
        there = record { number = number; insn = found.item; stands = found.stands; start = start_at number inside; fault = found.fact };
        first = λ before less other. by before less other (cases_lt other.number number);
      }
    where
      by : (before : ℕ) → before < get_or coded.starts number 0 → (other : InsnAt Fact coded before) → (other.number < number) ⊎ (number ≤ other.number) → ⊥
      by before less other (inl smaller) = found.first other.number other.insn smaller other.stands other.fault
      by before less other (inr larger) = at_least (slice_get_within coded.insns other.number other.insn other.stands)
          (get_or_from_slice_get coded.starts other.number before 0 other.start) (cases_lt number other.number)
        where
          at_least : other.number < length coded.insns → get_or coded.starts other.number 0 ≡ before → (number < other.number) ⊎ (other.number ≤ number) → ⊥
          at_least inside is (inl more) = let up = rising (length coded.insns) (length coded.items.code) coded.starts are number other.number more
              (omega (arith, inside)) in omega (arith, up, is, less)
          at_least inside is (inr same) =
              let equal : other.number ≡ number = omega (arith, larger, same) in
              let there = subst (λ (k : ℕ). get_or coded.starts k 0 ≡ before) equal is in
              omega (arith, there, less)

  pub insn_nowhere : NoItem Fact coded.insns → IsNowhere (InsnAt Fact coded)
  insn_nowhere none place other = none other.number other.insn other.stands other.fault

  pub insn_decided : (found : Option ℕ) → FirstItem Fact coded.insns found → IsDecided (InsnAt Fact coded)
  insn_decided None none = inr (insn_nowhere none)
  insn_decided (Some number) first = inl (get_or coded.starts number 0, insn_least number first)

  -- as a search over the instructions tells it
  pub least_found : (xs : List Insn) (starts : List ℕ) (found : Option ℕ) (number : ℕ) → xs ≡ coded.insns → starts ≡ coded.starts
      → found ≡ Some number → FirstItem Fact xs found → IsLeast (InsnAt Fact coded) (get_or starts number 0)
  least_found xs starts found number xs_are starts_are is first =
      let here = subst (λ (o : Option ℕ). FirstItem Fact xs o) is first in
      let there = subst (λ (l : List Insn). IsFirstItem Fact l number) xs_are here in
      subst (λ (l : List ℕ). IsLeast (InsnAt Fact coded) (get_or l number 0)) (sym starts_are) (insn_least number there)

  pub found_inside : (xs : List Insn) (starts : List ℕ) (found : Option ℕ) (number : ℕ) → xs ≡ coded.insns → starts ≡ coded.starts
      → found ≡ Some number → FirstItem Fact xs found → number < length starts
  found_inside xs starts found number xs_are starts_are is first =
      let there = subst (λ (l : List Insn). IsFirstItem Fact l number) xs_are (subst (λ (o : Option ℕ). FirstItem Fact xs o) is first) in
      let inside = slice_get_within coded.insns number there.item there.stands in
      subst (λ (l : List ℕ). number < length l) (sym starts_are) (omega (arith, inside, are.one_more))

  pub none_found : (xs : List Insn) (found : Option ℕ) → xs ≡ coded.insns → found ≡ None → FirstItem Fact xs found → IsNowhere (InsnAt Fact coded)
  none_found xs found xs_are is first =
      insn_nowhere (subst (λ (l : List Insn). NoItem Fact l) xs_are (subst (λ (o : Option ℕ). FirstItem Fact xs o) is first))

-- ---- rows

module _ (pool : PoolValue) (coded : Coded) where
  abbrev pub IsBad : ℕ → Row → Type 0
  IsBad place row = IsRow pool (insn_number coded.starts) (length coded.insns) (length coded.items.code) row → ⊥

  pub row_least : (number : ℕ) → IsFirstItem IsBad coded.items.rows number → IsLeast (BadRow pool coded) number
  row_least number found = record {
    there = record { row = found.item; stands = found.stands; fault = found.fact };
    first = λ before less other. found.first before other.row less other.stands other.fault;
  }

  pub row_nowhere : NoItem IsBad coded.items.rows → IsNowhere (BadRow pool coded)
  row_nowhere none place other = none place other.row other.stands other.fault

  pub row_decided : (found : Option ℕ) → FirstItem IsBad coded.items.rows found → IsDecided (BadRow pool coded)
  row_decided None none = inr (row_nowhere none)
  row_decided (Some number) first = inl (number, row_least number first)

  -- as a search over the rows tells it, by a table over the offsets
  module _ (offsets : Offsets) (numbers : Numbers coded offsets) where
    abbrev IsBadBy : ℕ → Row → Type 0
    IsBadBy place row = IsRow pool (numbering offsets) offsets.count offsets.size row → ⊥

    same_row : (row : Row) → IsRow pool (numbering offsets) offsets.count offsets.size row ≡ IsRow pool (insn_number coded.starts) (length coded.insns) (length coded.items.code) row
    same_row row = λ i. IsRow pool (λ offset. numbers.each offset i) (numbers.count i) (numbers.size i) row

    same_bad : IsBadBy ≡ IsBad
    same_bad = λ i place row. same_row row i → ⊥

    pub row_found : (rows : List Row) (found : Option ℕ) → rows ≡ coded.items.rows → FirstItem IsBadBy rows found → FirstItem IsBad coded.items.rows found
    row_found rows found rows_are first =
        subst (λ (l : List Row). FirstItem IsBad l found) rows_are (subst (λ (F : ℕ → Row → Type 0). FirstItem F rows found) same_bad first)

  pub row_first : (found : Option ℕ) (number : ℕ) → found ≡ Some number → FirstItem IsBad coded.items.rows found → IsLeast (BadRow pool coded) number
  row_first found number is first = row_least number (subst (λ (o : Option ℕ). FirstItem IsBad coded.items.rows o) is first)

  pub row_none : (found : Option ℕ) → found ≡ None → FirstItem IsBad coded.items.rows found → IsNowhere (BadRow pool coded)
  row_none found is first = row_nowhere (subst (λ (o : Option ℕ). FirstItem IsBad coded.items.rows o) is first)
