-- Causes of refusals in a list, and the refusal of the first one.
use Rattle.std.proofs.Common.{◌≡◌, ◌⊎◌, inl, inr, ℕ, ◌<◌, List, [], ◌∷◌, ◌++◌, sym, ◌∙◌, ap₂, subst}
use Rattle.std.specs.Bool.{⊤}
use Rattle.std.proofs.lemmas.Bool.{cases_order}
use Rattle.jc_bytes.specs.declared.refusal.Refusal.{Refusal}
use Rattle.jc_bytes.specs.declared.refusal.RefusalKind.{RefusalKind}
use Rattle.jc_instrument.specs.Causes.{Cause, Never, IsFirstCause, NoCause, of_method, InMethod}

-- ---- a front and a rest

pub first_in_front : (Cs Ds : List Cause) (r : Refusal) → IsFirstCause Cs r → IsFirstCause (Cs ++ Ds) r
first_in_front [] Ds r first = absurd first
first_in_front (C ∷ Cs) Ds r (inl here) = inl here
first_in_front (C ∷ Cs) Ds r (inr later) = inr (later.0, first_in_front Cs Ds r later.1)

pub first_behind : (Cs Ds : List Cause) (r : Refusal) → NoCause Cs → IsFirstCause Ds r → IsFirstCause (Cs ++ Ds) r
first_behind [] Ds r none first = first
first_behind (C ∷ Cs) Ds r none first = inr (none.0, first_behind Cs Ds r none.1 first)

pub none_in_both : (Cs Ds : List Cause) → NoCause Cs → NoCause Ds → NoCause (Cs ++ Ds)
none_in_both [] Ds none rest = rest
none_in_both (C ∷ Cs) Ds none rest = (none.0, none_in_both Cs Ds none.1 rest)

-- ---- one refusal

-- the cause gives one refusal at most
abbrev pub IsSingle : Cause → Type 0
IsSingle C = (r s : Refusal) → C r → C s → r ≡ s

-- each of the causes does
abbrev pub AreSingle : List Cause → Type 0
AreSingle [] = ⊤
AreSingle (C ∷ Cs) = IsSingle C × AreSingle Cs

pub both_single : (Cs Ds : List Cause) → AreSingle Cs → AreSingle Ds → AreSingle (Cs ++ Ds)
both_single [] Ds single rest = rest
both_single (C ∷ Cs) Ds single rest = (single.0, both_single Cs Ds single.1 rest)

pub first_or_none : (Cs : List Cause) (r : Refusal) → NoCause Cs → IsFirstCause Cs r → ⊥
first_or_none [] r none first = first
first_or_none (C ∷ Cs) r none (inl here) = none.0 r here
first_or_none (C ∷ Cs) r none (inr later) = first_or_none Cs r none.1 later.1

pub one_first : (Cs : List Cause) (r s : Refusal) → AreSingle Cs → IsFirstCause Cs r → IsFirstCause Cs s → r ≡ s
one_first [] r s single p q = absurd p
one_first (C ∷ Cs) r s single (inl p) (inl q) = single.0 r s p q
one_first (C ∷ Cs) r s single (inl p) (inr q) = absurd (q.0 r p)
one_first (C ∷ Cs) r s single (inr p) (inl q) = absurd (p.0 s q)
one_first (C ∷ Cs) r s single (inr p) (inr q) = one_first Cs r s single.1 p.1 q.1

-- ---- in methods

pub one_method : (kind : RefusalKind) (Fact : ℕ → ℕ → Type 0) → ((number p q : ℕ) → Fact number p → Fact number q → p ≡ q) → IsSingle (InMethod kind Fact)
one_method kind Fact one r s a b = a.refusal ∙ by (cases_order a.number b.number) ∙ sym b.refusal
  where
    same : a.number ≡ b.number → of_method kind a.number a.place ≡ of_method kind b.number b.place
    same numbers = ap₂ (of_method kind) numbers (one b.number a.place b.place (subst (λ (n : ℕ). Fact n a.place) numbers a.holds) b.holds)

    by : (a.number ≡ b.number) ⊎ ((a.number < b.number) ⊎ (b.number < a.number)) → of_method kind a.number a.place ≡ of_method kind b.number b.place
    by (inl numbers) = same numbers
    by (inr (inl less)) = absurd (b.none_before a.number a.place less a.holds)
    by (inr (inr more)) = absurd (a.none_before b.number b.place more b.holds)

-- where the fact holds of no method, the cause gives no refusal
pub never_in_method : (kind : RefusalKind) (Fact : ℕ → ℕ → Type 0) → ((number place : ℕ) → Fact number place → ⊥) → Never (InMethod kind Fact)
never_in_method kind Fact none r m = none m.number m.place m.holds
