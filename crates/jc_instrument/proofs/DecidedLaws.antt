-- Causes that are decided: each gives a refusal or none, and so one of several is the first, or none gives one.
use Rattle.std.proofs.Common.{◌≡◌, ◌⊎◌, inl, inr, ℕ, zero, suc, ◌<◌, Bool, true, false, List, [], ◌∷◌, ◌++◌, length, get_or, Contains, Option, Some, None, refl, sym, subst, arith, bytes_eq}
use Rattle.std.specs.Bool.{⊤}
use Rattle.std.proofs.lemmas.Bool.{false≢true}
use Rattle.std.proofs.lemmas.Option.{none-some, same_Some}
use Rattle.std.proofs.lemmas.Slice.Eq.{bytes_eq-Decides}
use Rattle.jc_bytes.specs.declared.refusal.Refusal.{Refusal}
use Rattle.jc_bytes.specs.declared.refusal.RefusalKind.{RefusalKind}
use Rattle.jc_instrument.specs.Causes.{Cause, Never, IsFirstCause, NoCause, unless, of_method, InMethod}
use Rattle.jc_instrument.proofs.LastBodyLaws.{less_or_last}

-- ---- facts

abbrev pub OrNot : Type 0 → Type 0
OrNot Fact = Fact ⊎ (Fact → ⊥)

pub either_or_not : (A B : Type 0) → OrNot A → OrNot B → OrNot (A ⊎ B)
either_or_not A B (inl a) b = inl (inl a)
either_or_not A B (inr not_here) (inl b) = inl (inr b)
either_or_not A B (inr not_here) (inr never) = inr none
  where
    none : A ⊎ B → ⊥
    none (inl a) = not_here a
    none (inr b) = never b

pub true_or_not : (b : Bool) → OrNot (b ≡ true)
true_or_not true = inl refl
true_or_not false = inr false≢true

-- a text is the one that is looked for
pub text_or_not : (o : Option (List ℕ)) (name : List ℕ) → OrNot (o ≡ Some name)
text_or_not None name = inr (λ e. none-some name e)
text_or_not (Some text) name = by (true_or_not (bytes_eq text name))
  where
    by : OrNot (bytes_eq text name ≡ true) → OrNot (Some text ≡ Some name)
    by (inl same) = inl (λ i. Some ((bytes_eq-Decides text name).0 same i))
    by (inr other) = inr (λ e. other ((bytes_eq-Decides text name).1 (same_Some text name e)))

-- it holds of one of the items
pub some_or_none : {X : Type 0} (P : X → Type 0) → ((x : X) → OrNot (P x)) → (xs : List X) → OrNot ((x : X) × Contains xs x × P x)
some_or_none {X} P decide [] = inr (λ found. let less = found.1.1 in omega (arith, less))
some_or_none {X} P decide (y ∷ ys) = by (decide y) (some_or_none P decide ys)
  where
    behind : ((x : X) × Contains ys x × P x) → (x : X) × Contains (y ∷ ys) x × P x
    behind found = let less = found.1.1 in (found.0, (suc found.1.0, omega (arith, less), found.1.2), found.2)

    none : (P y → ⊥) → ((x : X) × Contains ys x × P x → ⊥) → (x : X) (k : ℕ) → k < length (y ∷ ys) → get_or (y ∷ ys) k x ≡ x → P x → ⊥
    none not_here later x zero less at p = not_here (subst P (sym at) p)
    none not_here later x (suc k) less at p = later (x, (k, omega (arith, less), at), p)

    by : OrNot (P y) → OrNot ((x : X) × Contains ys x × P x) → OrNot ((x : X) × Contains (y ∷ ys) x × P x)
    by (inl p) rest = inl (y, (0, omega arith, refl), p)
    by (inr not_here) (inl found) = inl (behind found)
    by (inr not_here) (inr later) = inr (λ found. none not_here later found.0 found.1.0 found.1.1 found.1.2 found.2)

-- it holds of some number, or of none below the bound
pub some_below : (P : ℕ → Type 0) → ((n : ℕ) → OrNot (P n)) → (most : ℕ) → ((n : ℕ) × P n) ⊎ ((n : ℕ) → n < most → P n → ⊥)
some_below P decide zero = inr (λ n less p. omega (arith, less))
some_below P decide (suc most) = by (some_below P decide most) (decide most)
  where
    none : ((n : ℕ) → n < most → P n → ⊥) → (P most → ⊥) → (n : ℕ) → P n → (n < most) ⊎ (n ≡ most) → ⊥
    none before not_here n p (inl less) = before n less p
    none before not_here n p (inr last) = not_here (subst P last p)

    by : ((n : ℕ) × P n) ⊎ ((n : ℕ) → n < most → P n → ⊥) → OrNot (P most) → ((n : ℕ) × P n) ⊎ ((n : ℕ) → n < suc most → P n → ⊥)
    by (inl found) here = inl found
    by (inr before) (inl here) = inl (most, here)
    by (inr before) (inr not_here) = inr (λ n less p. none before not_here n p (less_or_last most n less))

-- ---- causes

-- it gives a refusal, or none
abbrev pub IsDecided : Cause → Type 0
IsDecided C = ((r : Refusal) × C r) ⊎ Never C

abbrev pub AreDecided : List Cause → Type 0
AreDecided [] = ⊤
AreDecided (C ∷ Cs) = IsDecided C × AreDecided Cs

pub first_or_none : (Cs : List Cause) → AreDecided Cs → ((r : Refusal) × IsFirstCause Cs r) ⊎ NoCause Cs
first_or_none [] decided = inr tt
first_or_none (C ∷ Cs) decided = by decided.0 (first_or_none Cs decided.1)
  where
    by : IsDecided C → ((r : Refusal) × IsFirstCause Cs r) ⊎ NoCause Cs → ((r : Refusal) × IsFirstCause (C ∷ Cs) r) ⊎ NoCause (C ∷ Cs)
    by (inl here) rest = inl (here.0, inl here.1)
    by (inr none) (inl later) = inl (later.0, inr (none, later.1))
    by (inr none) (inr all) = inr (none, all)

pub both_decided : (Cs Ds : List Cause) → AreDecided Cs → AreDecided Ds → AreDecided (Cs ++ Ds)
both_decided [] Ds decided rest = rest
both_decided (C ∷ Cs) Ds decided rest = (decided.0, both_decided Cs Ds decided.1 rest)

pub unless_decided : (t : Bool) (Cs : List Cause) → AreDecided Cs → AreDecided (unless t Cs)
unless_decided true Cs decided = tt
unless_decided false Cs decided = decided

pub none_behind : (Cs Ds : List Cause) → NoCause (Cs ++ Ds) → NoCause Ds
none_behind [] Ds none = none
none_behind (C ∷ Cs) Ds none = none_behind Cs Ds none.1

-- ---- methods

-- the fact holds at a place of the method, or at none
abbrev pub AtSomePlace : (ℕ → ℕ → Type 0) → ℕ → Type 0
AtSomePlace Fact number = ((place : ℕ) × Fact number place) ⊎ ((place : ℕ) → Fact number place → ⊥)

module _ (kind : RefusalKind) (Fact : ℕ → ℕ → Type 0) where
  abbrev NoneBelow : ℕ → Type 0
  NoneBelow n = (number place : ℕ) → number < n → Fact number place → ⊥

  first_below : (n : ℕ) → ((number : ℕ) → number < n → AtSomePlace Fact number) → ((r : Refusal) × InMethod kind Fact r) ⊎ NoneBelow n
  first_below zero decide = inr (λ number place less f. omega (arith, less))
  first_below (suc n) decide = by (first_below n (λ number less. decide number (omega (arith, less)))) (decide n (omega arith))
    where
      none : NoneBelow n → ((place : ℕ) → Fact n place → ⊥) → (number place : ℕ) → Fact number place → (number < n) ⊎ (number ≡ n) → ⊥
      none before not_here number place f (inl less) = before number place less f
      none before not_here number place f (inr last) = not_here place (subst (λ (m : ℕ). Fact m place) last f)

      by : ((r : Refusal) × InMethod kind Fact r) ⊎ NoneBelow n → AtSomePlace Fact n
          → ((r : Refusal) × InMethod kind Fact r) ⊎ NoneBelow (suc n)
      by (inl found) here = inl found
      by (inr before) (inl here) = inl (
        of_method kind n here.0,
        record {
          number = n;
          place = here.0;
          refusal = refl;
          holds = here.1;
          none_before = λ number at less f. before number at less f;
        },
      )
      by (inr before) (inr not_here) = inr (λ number place less f. none before not_here number place f (less_or_last n number less))

  module _ (count : ℕ) (decide : (number : ℕ) → number < count → AtSomePlace Fact number)
      (below : (number place : ℕ) → Fact number place → number < count) where
    pub in_method_decided : IsDecided (InMethod kind Fact)
    in_method_decided = by (first_below count decide)
      where
        by : ((r : Refusal) × InMethod kind Fact r) ⊎ NoneBelow count → IsDecided (InMethod kind Fact)
        by (inl found) = inl found
        by (inr none) = inr (λ r m. none m.number m.place (below m.number m.place m.holds) m.holds)

    -- where no method is the first of which the fact holds, it holds of none
    pub nowhere : Never (InMethod kind Fact) → (number place : ℕ) → Fact number place → ⊥
    nowhere never number place f = by (first_below count decide)
      where
        by : ((r : Refusal) × InMethod kind Fact r) ⊎ NoneBelow count → ⊥
        by (inl found) = never found.0 found.1
        by (inr none) = none number place (below number place f) f
