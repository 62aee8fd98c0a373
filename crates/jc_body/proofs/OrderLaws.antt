-- The first of several faults is one, and faults of a list with a front and a rest.
use Rattle.std.proofs.Common.{◌≡◌, ◌⊎◌, inl, inr, ℕ, ◌<◌, List, [], ◌∷◌, ◌++◌, arith}
use Rattle.std.proofs.lemmas.Bool.{cases_order}
use Rattle.jc_bytes.specs.Least.{IsNowhere, IsLeast}
use Rattle.jc_body.specs.First.{Fault, IsFirstFault, AreNowhere}

-- ---- one first place

pub least_once : (F : Fault) (p q : ℕ) → IsLeast F p → IsLeast F q → p ≡ q
least_once F p q a b = by (cases_order p q)
  where
    by : (p ≡ q) ⊎ ((p < q) ⊎ (q < p)) → p ≡ q
    by (inl same) = same
    by (inr (inl less)) = absurd (b.first p less a.there)
    by (inr (inr more)) = absurd (a.first q more b.there)

pub first_once : (Fs : List Fault) (p q : ℕ) → IsFirstFault Fs p → IsFirstFault Fs q → p ≡ q
first_once [] p q a b = absurd a
first_once (F ∷ Fs) p q (inl a) (inl b) = least_once F p q a b
first_once (F ∷ Fs) p q (inl a) (inr b) = absurd (b.0 p a.there)
first_once (F ∷ Fs) p q (inr a) (inl b) = absurd (a.0 q b.there)
first_once (F ∷ Fs) p q (inr a) (inr b) = first_once Fs p q a.1 b.1

pub first_or_nowhere : (Fs : List Fault) (p : ℕ) → IsFirstFault Fs p → AreNowhere Fs → ⊥
first_or_nowhere [] p a none = a
first_or_nowhere (F ∷ Fs) p (inl a) none = none.0 p a.there
first_or_nowhere (F ∷ Fs) p (inr a) none = first_or_nowhere Fs p a.1 none.1

-- ---- a front and a rest

pub first_in_front : (Fs Gs : List Fault) (p : ℕ) → IsFirstFault Fs p → IsFirstFault (Fs ++ Gs) p
first_in_front [] Gs p a = absurd a
first_in_front (F ∷ Fs) Gs p (inl a) = inl a
first_in_front (F ∷ Fs) Gs p (inr a) = inr (a.0, first_in_front Fs Gs p a.1)

pub first_behind : (Fs Gs : List Fault) (p : ℕ) → AreNowhere Fs → IsFirstFault Gs p → IsFirstFault (Fs ++ Gs) p
first_behind [] Gs p none a = a
first_behind (F ∷ Fs) Gs p none a = inr (none.0, first_behind Fs Gs p none.1 a)

pub nowhere_both : (Fs Gs : List Fault) → AreNowhere Fs → AreNowhere Gs → AreNowhere (Fs ++ Gs)
nowhere_both [] Gs none rest = rest
nowhere_both (F ∷ Fs) Gs none rest = (none.0, nowhere_both Fs Gs none.1 rest)

-- ---- faults that can be decided

-- the fault is nowhere, or has a least place
abbrev pub IsDecided : Fault → Type 0
IsDecided F = ((p : ℕ) × IsLeast F p) ⊎ IsNowhere F

abbrev pub AreDecided : List Fault → Type 0
AreDecided [] = Unit {0}
AreDecided (F ∷ Fs) = IsDecided F × AreDecided Fs

pub each_decided : (Fs : List Fault) → AreDecided Fs → ((p : ℕ) × IsFirstFault Fs p) ⊎ AreNowhere Fs
each_decided [] d = inr tt
each_decided (F ∷ Fs) d = by d.0 (each_decided Fs d.1)
  where
    by : IsDecided F → ((p : ℕ) × IsFirstFault Fs p) ⊎ AreNowhere Fs → ((p : ℕ) × IsFirstFault (F ∷ Fs) p) ⊎ AreNowhere (F ∷ Fs)
    by (inl least) rest = inl (least.0, inl least.1)
    by (inr none) (inl first) = inl (first.0, inr (none, first.1))
    by (inr none) (inr rest) = inr (none, rest)

-- a fault that can only be at place 0
pub at_zero : (F : Fault) → F 0 → IsLeast F 0
at_zero F is = record { there = is; first = λ before less at. omega (arith, less) }
