-- Facts that hold or don't, and what is made of them.
use Rattle.std.proofs.Common.{◌≡◌, ◌⊎◌, inl, inr, ⊎_elim, ℕ, ◌<◌, ◌≤◌, Bool, true, false, List, [], ◌∷◌, refl, sym, ◌∙◌, arith}
use Rattle.std.specs.List.{AllByRecursion}
use Rattle.std.proofs.lemmas.Bool.{false≢true, cases_lt}
use Rattle.jc_bytes.proofs.DecidingLaws.{Decides}

abbrev pub Decided : Type 0 → Type 0
Decided P = P ⊎ (P → ⊥)

pub both_or_not : (P Q : Type 0) → Decided P → Decided Q → Decided (P × Q)
both_or_not P Q (inl p) (inl q) = inl (p, q)
both_or_not P Q (inl p) (inr other) = inr (λ h. other h.1)
both_or_not P Q (inr other) q = inr (λ h. other h.0)

pub either_or_not : (P Q : Type 0) → Decided P → Decided Q → Decided (P ⊎ Q)
either_or_not P Q (inl p) q = inl (inl p)
either_or_not P Q (inr other) (inl q) = inl (inr q)
either_or_not P Q (inr other) (inr more) = inr (λ h. ⊎_elim other more h)

pub if_or_not : (P Q : Type 0) → Decided P → Decided Q → Decided (P → Q)
if_or_not P Q (inl p) (inl q) = inl (λ h. q)
if_or_not P Q (inl p) (inr other) = inr (λ h. other (h p))
if_or_not P Q (inr other) q = inl (λ p. absurd (other p))

pub not_or_not : (P : Type 0) → Decided P → Decided (P → ⊥)
not_or_not P (inl p) = inr (λ h. h p)
not_or_not P (inr other) = inl other

pub by_test : (test : Bool) (P : Type 0) → Decides test P → Decided P
by_test test P d = by test refl
  where
    by : (answer : Bool) → test ≡ answer → Decided P
    by true is = inl (d.to is)
    by false is = inr (λ p. false≢true (sym is ∙ d.back p))

pub below_or_not : (a b : ℕ) → Decided (a < b)
below_or_not a b = ⊎_elim (λ less. inl less) (λ above. inr (λ less. omega (arith, above, less))) (cases_lt a b)

pub within_or_not : (a b : ℕ) → Decided (a ≤ b)
within_or_not a b = ⊎_elim (λ less. inr (λ within. omega (arith, less, within))) (λ within. inl within) (cases_lt b a)

pub all_or_not : {X : Type 0} (Fact : X → Type 0) → ((x : X) → Decided (Fact x)) → (xs : List X) → Decided (AllByRecursion Fact xs)
all_or_not Fact decide [] = inl tt
all_or_not Fact decide (x ∷ xs) = both_or_not (Fact x) (AllByRecursion Fact xs) (decide x) (all_or_not Fact decide xs)
