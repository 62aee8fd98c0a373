-- The parts of views, when one view changes.
use Rattle.std.proofs.Common.{◌≡◌, ◌≢◌, ℕ, zero, suc, ◌+◌, ◌≤◌, List, [], ◌∷◌, ◌++◌, set, sym, ap, arith}
use mathlib.Core.Option.{some, some-injective, some-ne-none}
use lib.ListN.{get_elem?}
use Rattle.jc_dump_board.specs.declared.seat.View.{View}
use Rattle.jc_dump_board.specs.Rule.{sum_of_parts}

pub sum_of_parts-append : (l m : List View) → sum_of_parts (l ++ m) ≡ sum_of_parts l + sum_of_parts m
sum_of_parts-append [] m = omega arith
sum_of_parts-append (x ∷ xs) m = omega (arith, sum_of_parts-append xs m)

pub sum_of_parts-set : (l : List View) (j : ℕ) (v w : View) → get_elem? l j ≡ some v → sum_of_parts (set l j w) + v.part ≡ sum_of_parts l + w.part
sum_of_parts-set [] j v w e = absurd (some-ne-none v (sym e))
sum_of_parts-set (x ∷ xs) zero v w e = omega (arith, ap (λ (u : View). u.part) (some-injective x v e))
sum_of_parts-set (x ∷ xs) (suc j) v w e = omega (arith, sum_of_parts-set xs j v w e)

pub part_le : (l : List View) (j : ℕ) (v : View) → get_elem? l j ≡ some v → v.part ≤ sum_of_parts l
part_le [] j v e = absurd (some-ne-none v (sym e))
part_le (x ∷ xs) zero v e = omega (arith, ap (λ (u : View). u.part) (some-injective x v e))
part_le (x ∷ xs) (suc j) v e = omega (arith, part_le xs j v e)

pub parts_le : (l : List View) (j k : ℕ) (v u : View) → k ≢ j → get_elem? l j ≡ some v → get_elem? l k ≡ some u → v.part + u.part ≤ sum_of_parts l
parts_le [] j k v u n e d = absurd (some-ne-none v (sym e))
parts_le (x ∷ xs) zero zero v u n e d = absurd (n (λ i. zero))
parts_le (x ∷ xs) zero (suc k) v u n e d = omega (arith, ap (λ (w : View). w.part) (some-injective x v e), part_le xs k u d)
parts_le (x ∷ xs) (suc j) zero v u n e d = omega (arith, ap (λ (w : View). w.part) (some-injective x u d), part_le xs j v e)
parts_le (x ∷ xs) (suc j) (suc k) v u n e d = omega (arith, parts_le xs j k v u (λ h. n (ap suc h)) e d)
