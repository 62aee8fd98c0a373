-- The inverse of a conditional jump tests the opposite of the same operands.
use Rattle.std.proofs.Common.{◌≡◌, ⊎_elim, ℕ, ℤ, pos, Bool, true, false, not, ◌&&◌, ◌||◌, cond, List, [], ◌∷◌, Option, Some, None, nat_eq, nat_le, refl, sym, ap, ◌∙◌, subst, arith}
use Rattle.std.specs.Prelude.{int_lt, int_le}
use Rattle.std.proofs.lemmas.Int.{ints}
use Rattle.std.proofs.lemmas.Bool.{leb-true, eqb-true, and_parts, or_cases}
use Rattle.jc_bytes.proofs.EachLaws.{AllFrom, all_from}
use Rattle.jc_methods.specs.Flow.{is_conditional_branch, inverse_of}
use Rattle.jc_machine_model.specs.Values.{Value, int, null, is_reference, is_same}
use Rattle.jc_machine_model.specs.Jumps.{Tested, int_equal, compares, agrees, tested, zero_test, int_test, reference_test, null_test, test_of}

-- the opposite of a test
abbrev pub negated : Option Tested → Option Tested
negated None = None
negated (Some t) = Some (record { jumps = not t.jumps; stack = t.stack })

not_twice : (b : Bool) → b ≡ not (not b)
not_twice true = refl
not_twice false = refl

le_not_lt : (x y : ℤ) → int_le y x ≡ not (int_lt x y)
le_not_lt x y = grind (arith, ints)

lt_not_le : (x y : ℤ) → int_lt x y ≡ not (int_le y x)
lt_not_le x y = not_twice (int_lt x y) ∙ ap not (sym (le_not_lt x y))

-- ---- comparisons with opposite numbers

abbrev Opposite : ℕ → ℕ → Type 0
Opposite j k = (x y : ℤ) → compares k x y ≡ not (compares j x y)

zero_tests : (j k : ℕ) → Opposite j k → (stack : List Value) → zero_test k stack ≡ negated (zero_test j stack)
zero_tests j k h (int x ∷ stack) = ap (λ b. tested b stack) (h x (pos 0))
zero_tests j k h _ = refl

int_tests : (j k : ℕ) → Opposite j k → (stack : List Value) → int_test k stack ≡ negated (int_test j stack)
int_tests j k h (int y ∷ int x ∷ stack) = ap (λ b. tested b stack) (h x y)
int_tests j k h _ = refl

abbrev Differs : ℕ → ℕ → Type 0
Differs j k = (b : Bool) → agrees k b ≡ not (agrees j b)

by_references : (c : Bool) (a b : Bool) (stack : List Value) → a ≡ not b → (cond c (tested a stack) None) ≡ negated (cond c (tested b stack) None)
by_references true a b stack e = ap (λ x. tested x stack) e
by_references false a b stack e = refl

reference_tests : (j k : ℕ) → Differs j k → (stack : List Value) → reference_test k stack ≡ negated (reference_test j stack)
reference_tests j k h (b ∷ a ∷ stack) =
    by_references (is_reference a && is_reference b) (agrees k (is_same a b)) (agrees j (is_same a b)) stack (h (is_same a b))
reference_tests j k h _ = refl

null_tests : (j k : ℕ) → Differs j k → (stack : List Value) → null_test k stack ≡ negated (null_test j stack)
null_tests j k h (a ∷ stack) = by_references (is_reference a) (agrees k (is_same a null)) (agrees j (is_same a null)) stack (h (is_same a null))
null_tests j k h [] = refl

eq_ne : Opposite 0 1
eq_ne x y = refl

ne_eq : Opposite 1 0
ne_eq x y = not_twice (int_equal x y)

lt_ge : Opposite 2 3
lt_ge x y = le_not_lt x y

ge_lt : Opposite 3 2
ge_lt x y = lt_not_le x y

gt_le : Opposite 4 5
gt_le x y = le_not_lt y x

le_gt : Opposite 5 4
le_gt x y = lt_not_le y x

same_other : Differs 0 1
same_other b = refl

other_same : Differs 1 0
other_same b = not_twice b

-- ---- the opcodes one by one

abbrev Flips : ℕ → Type 0
Flips op = (stack : List Value) → test_of (inverse_of op) stack ≡ negated (test_of op stack)

each : AllFrom Flips 153 14
unfolding test_of inverse_of
each = (
  zero_tests 0 1 eq_ne,
  (
    zero_tests 1 0 ne_eq,
    (
      zero_tests 2 3 lt_ge,
      (
        zero_tests 3 2 ge_lt,
        (
          zero_tests 4 5 gt_le,
          (
            zero_tests 5 4 le_gt,
            (
              int_tests 0 1 eq_ne,
              (
                int_tests 1 0 ne_eq,
                (
                  int_tests 2 3 lt_ge,
                  (
                    int_tests 3 2 ge_lt,
                    (
                      int_tests 4 5 gt_le,
                      (
                        int_tests 5 4 le_gt,
                        (reference_tests 0 1 same_other, (reference_tests 1 0 other_same, tt)),
                      ),
                    ),
                  ),
                ),
              ),
            ),
          ),
        ),
      ),
    ),
  ),
)

on_null : Flips 198
unfolding test_of inverse_of
on_null = null_tests 0 1 same_other

on_object : Flips 199
unfolding test_of inverse_of
on_object = null_tests 1 0 other_same

pub inverse_tests : (op : ℕ) → is_conditional_branch op ≡ true → (stack : List Value) → test_of (inverse_of op) stack ≡ negated (test_of op stack)
inverse_tests op test = ⊎_elim
    (λ range. let q = and_parts (nat_le 153 op) (nat_le op 166) range in
    let low = leb-true 153 op q.0 in let high = leb-true op 166 q.1 in
    all_from Flips 153 14 op each low (omega (arith, high)))
    (λ null. ⊎_elim
    (λ a. subst Flips (sym (eqb-true op 198 a)) on_null)
    (λ b. subst Flips (sym (eqb-true op 199 b)) on_object)
    (or_cases (nat_eq op 198) (nat_eq op 199) null))
    (or_cases (nat_le 153 op && nat_le op 166) (nat_eq op 198 || nat_eq op 199) test)

-- the inverse of a conditional jump is no goto
abbrev NoGoto : ℕ → Type 0
NoGoto op = nat_eq (inverse_of op) 167 ≡ false

no_gotos : AllFrom NoGoto 153 14
unfolding inverse_of
no_gotos = (refl, (refl, (refl, (refl, (refl, (refl, (refl, (refl, (refl, (refl, (refl, (refl, (refl, (refl, tt))))))))))))))

null_no_goto : NoGoto 198
unfolding inverse_of
null_no_goto = refl

object_no_goto : NoGoto 199
unfolding inverse_of
object_no_goto = refl

pub inverse_no_goto : (op : ℕ) → is_conditional_branch op ≡ true → nat_eq (inverse_of op) 167 ≡ false
inverse_no_goto op test = ⊎_elim
    (λ range. let q = and_parts (nat_le 153 op) (nat_le op 166) range in
    let low = leb-true 153 op q.0 in let high = leb-true op 166 q.1 in
    all_from NoGoto 153 14 op no_gotos low (omega (arith, high)))
    (λ null. ⊎_elim
    (λ a. subst NoGoto (sym (eqb-true op 198 a)) null_no_goto)
    (λ b. subst NoGoto (sym (eqb-true op 199 b)) object_no_goto)
    (or_cases (nat_eq op 198) (nat_eq op 199) null))
    (or_cases (nat_le 153 op && nat_le op 166) (nat_eq op 198 || nat_eq op 199) test)
