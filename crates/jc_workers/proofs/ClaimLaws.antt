-- Each step of a drawer keeps the rule of the claims.
use Rattle.std.proofs.Common.{◌≡◌, ℕ, zero, suc, ◌+◌, ◌-◌, ◌%◌, ◌^◌, ◌<◌, ◌≤◌, List}
use Rattle.std.proofs.Common.{[], ◌∷◌, ◌++◌, length, set, sym, ap, refl, subst, arith, length-set, length-append}
use Rattle.std.proofs.lemmas.Bool.Decides.{nat_tests}
use Rattle.std.specs.Prelude.{Contains, slice_index}
use Rattle.std.proofs.lemmas.List.{get_or-set_same}
use Rattle.std.proofs.Math.Nat.{mod-eq_of_lt}
use mathlib.Core.Option.{some, some-injective, some-ne-none}
use lib.ListN.{get_elem?}
use Rattle.atomic_table.specs.Table.{State, Me, keeps, Allows, Final, Seen}
use Rattle.jc_workers.specs.declared.drawn.Drawn.{Drawn}
use Rattle.jc_workers.specs.Claims.{drawn, times, once_below, AreThoseBelow, Draws, without_budget, joined}
use Rattle.jc_workers.specs.ClaimRule.{total, IsKept}

module _ (g : Drawn → ℕ) where
  total-append : (l m : List Drawn) → total g (l ++ m) ≡ total g l + total g m
  total-append [] m = omega arith
  total-append (x ∷ xs) m = omega (arith, total-append xs m)

  total-set : (l : List Drawn) (j : ℕ) (v w : Drawn) → get_elem? l j ≡ some v → total g (set l j w) + g v ≡ total g l + g w
  total-set [] j v w e = absurd (some-ne-none v (sym e))
  total-set (x ∷ xs) zero v w e = omega (arith, ap g (some-injective x v e))
  total-set (x ∷ xs) (suc j) v w e = omega (arith, total-set xs j v w e)

  term_le : (l : List Drawn) (j : ℕ) (v : Drawn) → get_elem? l j ≡ some v → g v ≤ total g l
  term_le [] j v e = absurd (some-ne-none v (sym e))
  term_le (x ∷ xs) zero v e = omega (arith, ap g (some-injective x v e))
  term_le (x ∷ xs) (suc j) v e = omega (arith, term_le xs j v e)

total_le : (f g : Drawn → ℕ) → ((v : Drawn) → f v ≤ g v) → (l : List Drawn) → total f l ≤ total g l
total_le f g h [] = omega arith
total_le f g h (x ∷ xs) = omega (arith, h x, total_le f g h xs)

pub times-append : (x : ℕ) (l m : List ℕ) → times x (l ++ m) ≡ times x l + times x m
times-append x [] m = omega arith
times-append x (y ∷ ys) m = omega (arith, times-append x ys m)

pub times_le : (x : ℕ) (l : List ℕ) → times x l ≤ length l
times_le x [] = omega arith
times_le x (y ∷ ys) = let e = times_le x ys in grind (arith, nat_tests)

pub contains_times : (l : List ℕ) (y : ℕ) → Contains l y → 0 < times y l
contains_times [] y h = absurd (omega (arith, h.1))
contains_times (x ∷ xs) y (zero, lt, e) = let is : x ≡ y = e in grind (arith, nat_tests)
contains_times (x ∷ xs) y (suc k, lt, e) = let t = contains_times xs y (k, omega (arith, lt), e) in omega (arith, t)

once_more : (x n : ℕ) → once_below x (n + 1) ≡ once_below x n + times x (n ∷ [])
once_more x n = grind (arith, nat_tests)

pub below_once : (x n : ℕ) → 0 < once_below x n → x < n
below_once x n h = grind (arith, nat_tests)

module _ {S : Type 0} where
  -- a number is drawn
  pub draw_keeps : (all slots id : ℕ) (me : Me S Drawn) → 0 < me.0.budget
      → Allows (λ (s : State S Drawn). IsKept all s.words s.views) slots id me 0 (λ n. (n + 1) % 2 ^ 64) (Draws me)
  draw_keeps all slots id me some_budget s k homes there small =
      let n = slice_index s.words 0 in
      let now = drawn (me.0.numbers ++ n ∷ []) (me.0.budget - 1) in
      let mine = term_le (λ v. v.budget) s.views id me.0 there in
      let next : (n + 1) % 2 ^ 64 ≡ n + 1 = mod-eq_of_lt (omega (arith, mine, some_budget, k.budgets, k.fits)) in (
        now,
        keeps,
        tt,
        subst (λ m. IsKept all (set s.words 0 m) (set s.views id now)) (sym next) (record {
          some_word = omega (arith, k.some_word, length-set s.words 0 (n + 1));
          fits = k.fits;
          budgets = omega (arith, get_or-set_same s.words 0 (n + 1) 0 k.some_word, total-set (λ v. v.budget) s.views id me.0 now there, k.budgets, some_budget);
          once = λ x. omega (
            arith,
            ap (once_below x) (get_or-set_same s.words 0 (n + 1) 0 k.some_word),
            once_more x n,
            total-set (λ v. times x v.numbers)
                s.views id me.0 now there,
            k.once x,
            times-append x me.0.numbers (n ∷ []),
          );
          count = omega (
            arith,
            get_or-set_same s.words 0 (n + 1) 0 k.some_word,
            total-set (λ v. length v.numbers) s.views id me.0 now there,
            k.count,
            length-append me.0.numbers (n ∷ []),
          );
        }),
        record {
          gained = refl;
          above = λ y h. below_once y n
              (omega (arith, contains_times me.0.numbers y h, term_le (λ v. times y v.numbers) s.views id me.0 there, k.once y));
        },
      )

-- a budget is given to a new drawer
pub split_keeps : (all : ℕ) (words : List ℕ) (views : List Drawn) (id amount : ℕ) (v : Drawn) → amount ≤ v.budget → IsKept all words views
    → get_elem? views id ≡ some v
    → IsKept all words (set views id (without_budget amount v) ++ drawn [] amount ∷ [])
split_keeps all words views id amount v enough k there =
    let left = without_budget amount v in
    let new = drawn [] amount in
    record {
      some_word = k.some_word;
      fits = k.fits;
      budgets = omega (arith, total-append (λ w. w.budget) (set views id left) (new ∷ []), total-set (λ w. w.budget) views id v left there, k.budgets, enough);
      once = λ x. omega (
        arith,
        total-append (λ w. times x w.numbers) (set views id left) (new ∷ []),
        total-set (λ w. times x w.numbers) views id v left
            there,
        k.once x,
      );
      count = omega (
        arith,
        total-append (λ w. length w.numbers) (set views id left) (new ∷ []),
        total-set (λ w. length w.numbers) views id v left there,
        k.count,
      );
    }

-- a drawer is taken in
pub join_keeps : (all : ℕ) (words : List ℕ) (views : List Drawn) (id other : ℕ) (v w : Drawn) → IsKept all words views → get_elem? views id ≡ some v
    → get_elem? (set views id (joined v w)) other ≡ some w
    → IsKept all words (set (set views id (joined v w)) other (drawn [] 0))
join_keeps all words views id other v w k there yonder =
    let both = joined v w in
    let half = set views id both in
    let spent = drawn [] 0 in
    record {
      some_word = k.some_word;
      fits = k.fits;
      budgets = omega (arith, total-set (λ u. u.budget) views id v both there, total-set (λ u. u.budget) half other w spent yonder, k.budgets);
      once = λ x. omega (
        arith,
        total-set (λ u. times x u.numbers) views id v both there,
        total-set (λ u. times x u.numbers) half other w spent yonder,
        times-append x v.numbers w.numbers,
        k.once x,
      );
      count = omega (
        arith,
        total-set (λ u. length u.numbers) views id v both there,
        total-set (λ u. length u.numbers) half other w spent yonder,
        length-append v.numbers w.numbers,
        k.count,
      );
    }

-- a drawer that has all the budget, drawn or not, has every number below the word, once
pub closes : {S : Type 0} (all : ℕ) (words : List ℕ) (slots : List S) (id : ℕ) (v : Drawn)
    → Final (Seen (λ (s : State S Drawn). IsKept all s.words s.views) id v) words slots
    → length v.numbers + v.budget ≡ all → (n : ℕ) × AreThoseBelow n v.numbers
closes all words slots id v f whole =
    let k = f.1.0 in
    let there = f.1.1 in
    let views = f.0.views in
    let gone = drawn [] 0 in
    let budgets = term_le (λ u. u.budget) views id v there in
    let counts = term_le (λ u. length u.numbers) views id v there in
    let no_more : total (λ u. length u.numbers) (set views id gone) ≡ 0 =
    omega (arith, total-set (λ u. length u.numbers) views id v gone there, k.count, k.budgets, budgets, counts, whole) in (
      slice_index f.0.words 0,
      λ x. omega (
        arith,
        total_le (λ u. times x u.numbers) (λ u. length u.numbers) (λ u. times_le x u.numbers) (set views id gone),
        no_more,
        total-set (λ u. times x u.numbers) views id v gone there,
        k.once x,
      ),
    )
