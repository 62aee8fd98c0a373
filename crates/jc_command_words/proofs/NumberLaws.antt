-- Decimal numbers, decided digit by digit.
use Rattle.std.proofs.Common.{◌≡◌, ap, sym, subst, refl, ℕ, ◌≤◌, Bool, true, false, not, ◌&&◌, cond, nat_eq, nat_le, [], ◌∷◌, Some, None, arith, true≢false}
use Rattle.std.proofs.lemmas.Bool.Decides.{nat_tests}
use Rattle.std.specs.List.{fold, list_all}
use Rattle.std.proofs.lemmas.Bool.{and_parts}
use Rattle.jc_bytes.specs.Digits.{is_digit}
use Rattle.jc_command_words.specs.Words.{Word}
use Rattle.jc_command_words.specs.Numbers.{one_more_digit, IsNumber, digits_up_to, number_up_to}
use Rattle.jc_command_words.proofs.BoolLaws.{both_true}

pub le_test : (a b : ℕ) → nat_le a b ≡ true → a ≤ b
le_test a b h = grind (arith, nat_tests)

le_tested : (a b : ℕ) → a ≤ b → nat_le a b ≡ true
le_tested a b h = grind (arith, nat_tests)

-- a number only grows with more digits
pub grows : (n : ℕ) (bytes : Word) → n ≤ fold one_more_digit n bytes
grows n [] = omega arith
grows n (b ∷ bytes) = let rest = grows (one_more_digit n b) bytes in omega (arith, rest)

record Digits (most n : ℕ) (bytes : Word) (m : ℕ) : Type 0 where
  digits : list_all is_digit bytes ≡ true
  value : m ≡ fold one_more_digit n bytes
  small : m ≤ most

digits_are : (most n : ℕ) (bytes : Word) (m : ℕ) → n ≤ most → digits_up_to most n bytes ≡ Some m → Digits most n bytes m
digits_are most n [] m small e = let same : n ≡ m = cc in record { digits = refl; value = sym same; small = subst (λ k. k ≤ most) same small }
digits_are most n (b ∷ bytes) m small e =
    by (is_digit b) (nat_le (one_more_digit n b) most) refl refl e (λ small e. digits_are most (one_more_digit n b) bytes m small e)
  where
    by : (p q : Bool) → is_digit b ≡ p → nat_le (one_more_digit n b) most ≡ q
        → cond (p && q) (digits_up_to most (one_more_digit n b) bytes) None ≡ Some m
        → (one_more_digit n b ≤ most → digits_up_to most (one_more_digit n b) bytes ≡ Some m → Digits most (one_more_digit n b) bytes m) → Digits most n (b ∷ bytes) m
    by true true p q e behind =
        let rest = behind (le_test (one_more_digit n b) most q) e in
        record { digits = both_true _ _ p rest.digits; value = rest.value; small = rest.small }
    by true false p q e behind = absurd cc
    by false q p h e behind = absurd cc

digits_found : (most n : ℕ) (bytes : Word) (m : ℕ) → Digits most n bytes m → digits_up_to most n bytes ≡ Some m
digits_found most n [] m d = ap Some (sym d.value)
digits_found most n (b ∷ bytes) m d =
    let parts = and_parts (is_digit b) (list_all is_digit bytes) d.digits in
    let more = grows (one_more_digit n b) bytes in
    let few : one_more_digit n b ≤ most = omega (arith, more, d.value, d.small) in
    rw (parts.0, le_tested (one_more_digit n b) most few) (digits_found most (one_more_digit n b) bytes m (record { digits = parts.1; value = d.value; small = d.small }))

pub number_is : (most : ℕ) (text : Word) (n : ℕ) → number_up_to most text ≡ Some n → IsNumber most text n
number_is most [] n e = absurd cc
number_is most (b ∷ bytes) n e = by (nat_eq b 48) refl e
  where
    by : (z : Bool) → nat_eq b 48 ≡ z → cond z None (digits_up_to most 0 (b ∷ bytes)) ≡ Some n → IsNumber most (b ∷ bytes) n
    by true z e = absurd cc
    by false z e =
        let d = digits_are most 0 (b ∷ bytes) n (omega arith) e in
        record { decimal = both_true _ _ (ap not z) d.digits; value = d.value; small = d.small }

pub number_found : (most : ℕ) (text : Word) (n : ℕ) → IsNumber most text n → number_up_to most text ≡ Some n
number_found most [] n h = absurd (true≢false (sym h.decimal))
number_found most (b ∷ bytes) n h =
    let parts = and_parts (not (nat_eq b 48)) (list_all is_digit (b ∷ bytes)) h.decimal in
    rw (no_zero (nat_eq b 48) parts.0) (digits_found most 0 (b ∷ bytes) n (record { digits = parts.1; value = h.value; small = h.small }))
  where
    no_zero : (z : Bool) → not z ≡ true → z ≡ false
    no_zero true e = cc
    no_zero false e = refl
