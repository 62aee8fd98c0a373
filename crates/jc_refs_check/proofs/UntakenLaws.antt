-- Frames of handlers that don't take what is caught, row by row.
use Rattle.std.proofs.Common.{inl, inr, ⊎_elim, ℕ, ◌+◌, ◌<◌, ◌≤◌, List, [], ◌∷◌, ◌++◌, length, take, sym, subst, arith}
use Rattle.std.specs.List.{Contains}
use Rattle.std.proofs.lemmas.List.{take_more, take_all}
use Rattle.std.proofs.lemmas.List.Elements.{Contains-push, Contains-append_left, Contains-push_cases}
use Rattle.jc_methods.specs.declared.body.Body.{Body}
use Rattle.jc_methods.specs.declared.body.Handler.{Handler}
use Rattle.jc_methods.specs.VerificationTypes.{Names}
use Rattle.jc_kinds.specs.First.{IsFirstOrBound}
use Rattle.jc_kinds.proofs.FirstLaws.{none_first, instead_first, either_first}
use Rattle.jc_kinds.proofs.GuardLaws.{no_row, row_at}
use Rattle.jc_refs_check.specs.Unguarded.{IsUntakenBy, IsUntaken}

-- one of the rows guards the instruction, and its handler's frame doesn't take what is caught
abbrev pub IsUntakenIn : Names → Body → List Handler → ℕ → Type 0
IsUntakenIn names b rows i = (h : Handler) × Contains rows h × IsUntakenBy names b h i

none_of_none : (h : Handler) → Contains [] h → ⊥
none_of_none h there = let l = there.1 in omega (arith, l)

module _ (names : Names) (b : Body) (bound : ℕ) where
  pub untaken_begins : IsFirstOrBound (IsUntakenIn names b []) bound bound
  untaken_begins = none_first bound (λ i u. none_of_none u.0 u.1)

  row_on : (rows : List Handler) (h : Handler) (first next : ℕ) → IsFirstOrBound (IsUntakenIn names b rows) bound first → IsFirstOrBound (IsUntakenBy names b h) first next
      → IsFirstOrBound (IsUntakenIn names b (rows ++ h ∷ [])) bound next
  row_on rows h first next so_far one = instead_first bound next
      (λ i lt u. ⊎_elim
      (λ before. (before.0, Contains-append_left rows (h ∷ []) before.0 before.1, before.2))
      (λ last. (h, Contains-push rows h, last)) u)
      (λ i lt u. ⊎_elim
      (λ before. inl (u.0, before, u.2))
      (λ last. inr (subst (λ (r : Handler). IsUntakenBy names b r i) (sym last) u.2))
      (Contains-push_cases rows h u.0 u.1))
      (either_first bound first next so_far one)

  pub untaken_on : (rows : List Handler) (i first next : ℕ) → i < length rows → IsFirstOrBound (IsUntakenIn names b (take i rows)) bound first
      → IsFirstOrBound (IsUntakenBy names b (row_at rows i)) first next → IsFirstOrBound (IsUntakenIn names b (take (i + 1) rows)) bound next
  untaken_on rows i first next room so_far one =
      subst (λ (l : List Handler). IsFirstOrBound (IsUntakenIn names b l) bound next) (sym (take_more rows i no_row room)) (row_on (take i rows) (row_at rows i) first next so_far one)

  pub untaken_done : (i first : ℕ) → length b.handlers ≤ i → IsFirstOrBound (IsUntakenIn names b (take i b.handlers)) bound first → IsFirstOrBound (IsUntaken names b) bound first
  untaken_done i first past is = instead_first bound first
      (λ k lt u. record { handler = u.0; guards = record { row = u.1; start = u.2.start; end = u.2.end }; untaken = u.2.untaken })
      (λ k lt u. (u.handler, u.guards.row, record { start = u.guards.start; end = u.guards.end; untaken = u.untaken }))
      (subst (λ (l : List Handler). IsFirstOrBound (IsUntakenIn names b l) bound first) (take_all i b.handlers past) is)
