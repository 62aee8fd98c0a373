-- A class has one list of lines.
use Rattle.std.proofs.Common.{◌≡◌, ⊎_elim, ℕ, ◌+◌, ◌-◌, List, [], ◌∷◌, refl, sym, ◌∙◌, ap₂, subst, arith}
use Rattle.std.proofs.lemmas.Bool.{cases_lt}
use Rattle.jc_bytes.specs.Least.{IsLeast}
use Rattle.jc_bytes.specs.PlainLists.{numbers_from}
use Rattle.jc_bytes.proofs.BooleanLaws.{first_in, later_in}
use Rattle.jc_bytes.proofs.ListLaws.{head_is, tail_is, cons_nil}
use Rattle.jc_cover.specs.Counters.{Method}
use Rattle.jc_rules.specs.declared.status.LineStatus.{LineStatus}
use Rattle.jc_rules.specs.LineList.{IsUsed, IsGreatest, IsLineList, IsRange, HaveStatuses, lines_of, no_lines, some_lines}
use Rattle.jc_rules.specs.Status.{HasItem, IsLineStatus}
use Rattle.jc_rules.proofs.StatusLaws.{one_status}

module _ (methods : List Method) where
  abbrev Used : ℕ → Type 0
  Used = IsUsed methods

  one_least : (m n : ℕ) → IsLeast Used m → IsLeast Used n → m ≡ n
  one_least m n a b =
      ⊎_elim (λ less. absurd (b.first m less a.there)) (λ le. ⊎_elim (λ less. absurd (a.first n less b.there)) (λ ge. omega (arith, le, ge)) (cases_lt n m)) (cases_lt m n)

  one_greatest : (m n : ℕ) → IsGreatest Used m → IsGreatest Used n → m ≡ n
  one_greatest m n a b = let le = b.last m a.there in let ge = a.last n b.there in omega (arith, le, ge)

  one_range : (m n : List ℕ) → IsRange methods m → IsRange methods n → m ≡ n
  one_range m n a b =
      a.numbers
      ∙ ap₂ (λ (l g : ℕ). numbers_from l (g + 1 - l)) (one_least a.least b.least a.is_least b.is_least) (one_greatest a.greatest b.greatest a.is_greatest b.is_greatest)
      ∙ sym b.numbers

  same_lines : (a b : List LineStatus) → HaveStatuses methods a → HaveStatuses methods b → lines_of a ≡ lines_of b → a ≡ b
  same_lines [] [] x y e = refl
  same_lines [] (t ∷ b) x y e = absurd (cons_nil (sym e))
  same_lines (s ∷ a) [] x y e = absurd (cons_nil e)
  same_lines (s ∷ a) (t ∷ b) x y e =
      let line : s.line ≡ t.line = head_is e in
      let status = one_status (HasItem methods t.line) s.status t.status (subst (λ n. IsLineStatus methods n s.status) line (x s (first_in s a))) (y t (first_in t b)) in
      let same : s ≡ t = λ i. record { line = line i; status = status i } in
      ap₂ (λ (r : LineStatus) (l : List LineStatus). r ∷ l) same (same_lines a b (λ r there. x r (later_in s a r there)) (λ r there. y r (later_in t b r there)) (tail_is e))

  pub one_list : (a b : List LineStatus) → IsLineList methods a → IsLineList methods b → a ≡ b
  one_list a b (no_lines none e) (no_lines none' f) = e ∙ sym f
  one_list a b (no_lines none e) (some_lines range statuses) = absurd (none range.least range.is_least.there)
  one_list a b (some_lines range statuses) (no_lines none e) = absurd (none range.least range.is_least.there)
  one_list a b (some_lines range statuses) (some_lines range' statuses') = same_lines a b statuses statuses' (one_range (lines_of a) (lines_of b) range range')
