-- Arithmetic on ints and longs.
use Rattle.std.proofs.Common.{◌≡◌, ℕ, zero, suc, ◌+◌, ◌-◌, ◌*◌, ◌/◌, ◌%◌, ◌^◌, ◌<◌, ◌≤◌, Bool, true, false, List, [], ◌∷◌, refl, sym, ◌∙◌, ap, subst, arith, SFits, pow_pos, leb, leb-true}
use Rattle.std.specs.Prelude.{ℤ, pos, negsuc, neg_ℤ, ◌+ℤ◌, ◌-ℤ◌, ◌*ℤ◌, ◌≤ℤ◌, ◌<ℤ◌, unsigned_abs, int_lt, int_div, int_rem, int_le, ◌&&◌, cond}
use Rattle.std.specs.Int.{w8, w16, w32, w64, int_wrap, int_rem_euclid, cast_signed, cast_unsigned, int_shr}
use Rattle.std.proofs.lemmas.Int.{ints, wrapping_add_is, wrapping_sub_is, wrapping_mul_is, wrapping_neg_is, of_z-to_z, quot-rem, rem_below}
use Rattle.std.proofs.Math.Facts.{sfits_to_z}
use Rattle.std.proofs.Math.Dec.{T}
use Rattle.std.proofs.Math.Nat.{div-add-mod', div-le_self, mod-lt, mod-le}
use Rattle.jc_bytes.proofs.BooleanLaws.{test_true}
use Rattle.jc_programs.specs.declared.run_end.Thrown.TheVariants as thrown
use Rattle.jc_machine_model.specs.Values.{Value, int, long}
use Rattle.jc_machine_model.specs.Effects.{effect, gives, raises, int_pair, int_bits, long_pair, long_shift, int_single, long_single, single, pair, compared, count_of_32, count_of_64}
use Rattle.jc_machine_model.specs.Arithmetic.{FitsInt, FitsLong, AreCongruent, Wraps, IntsWrap, LongsWrap, IsDivision, IntsDivide, LongsDivide, ByZero, LeastByMinusOne, IsMasked, RoundsDown, DividesUnsigned, IntsShift, LongsShift, Compares, Narrows, Converts}

-- ---- numbers that differ by a multiple

differ_then : (m : ℕ) (x y z : ℤ) → AreCongruent m x y → AreCongruent m y z → AreCongruent m x z
differ_then m x y z d e = record { above = d.above + e.above; below = d.below + e.below; same = let p = d.same in let q = e.same in omega (arith, ints, p, q) }

-- by a multiple of k * m, so by one of m
differ_in : (m k : ℕ) (x y : ℤ) → AreCongruent (k * m) x y → AreCongruent m x y
differ_in m k x y d = record { above = d.above * k; below = d.below * k; same = let p = d.same in omega (arith, ints, p) }

rest_differs : (m : ℕ) (z : ℤ) → AreCongruent (suc m) z (int_rem_euclid z (pos (suc m)))
rest_differs m (pos a) = record { above = 0; below = a / suc m; same = omega (arith, ints, div-add-mod' a (suc m)) }
rest_differs m (negsuc a) = record { above = a / suc m + 1; below = 0; same = let l : a % suc m < suc m = mod-lt a (omega arith) in omega (arith, ints, div-add-mod' a (suc m), l) }

-- ---- bits read with a sign

bits_8 : (z : ℤ) → SFits w8 z → Wraps 7 (pos (cast_unsigned w8 z)) z
bits_8 (pos n) f = record { fits = f.sfits; same = record { above = 0; below = 0; same = refl } }
bits_8 (negsuc n) f = let l = f.sfits in record { fits = f.sfits; same = record { above = 0; below = 1; same = omega (arith, ints, l) } }

bits_16 : (z : ℤ) → SFits w16 z → Wraps 15 (pos (cast_unsigned w16 z)) z
bits_16 (pos n) f = record { fits = f.sfits; same = record { above = 0; below = 0; same = refl } }
bits_16 (negsuc n) f = let l = f.sfits in record { fits = f.sfits; same = record { above = 0; below = 1; same = omega (arith, ints, l) } }

bits_32 : (z : ℤ) → SFits w32 z → Wraps 31 (pos (cast_unsigned w32 z)) z
bits_32 (pos n) f = record { fits = f.sfits; same = record { above = 0; below = 0; same = refl } }
bits_32 (negsuc n) f = let l = f.sfits in record { fits = f.sfits; same = record { above = 0; below = 1; same = omega (arith, ints, l) } }

bits_64 : (z : ℤ) → SFits w64 z → Wraps 63 (pos (cast_unsigned w64 z)) z
bits_64 (pos n) f = record { fits = f.sfits; same = record { above = 0; below = 0; same = refl } }
bits_64 (negsuc n) f = let l = f.sfits in record { fits = f.sfits; same = record { above = 0; below = 1; same = omega (arith, ints, l) } }

cast_8 : (n : ℕ) → n < 2 ^ 8 → Wraps 7 (pos n) (cast_signed w8 n)
cast_8 n h = subst (λ m. Wraps 7 (pos m) (cast_signed w8 n)) (of_z-to_z w8 n h) (bits_8 (cast_signed w8 n) (sfits_to_z record { fits = h }))

cast_16 : (n : ℕ) → n < 2 ^ 16 → Wraps 15 (pos n) (cast_signed w16 n)
cast_16 n h = subst (λ m. Wraps 15 (pos m) (cast_signed w16 n)) (of_z-to_z w16 n h) (bits_16 (cast_signed w16 n) (sfits_to_z record { fits = h }))

cast_32 : (n : ℕ) → n < 2 ^ 32 → Wraps 31 (pos n) (cast_signed w32 n)
cast_32 n h = subst (λ m. Wraps 31 (pos m) (cast_signed w32 n)) (of_z-to_z w32 n h) (bits_32 (cast_signed w32 n) (sfits_to_z record { fits = h }))

cast_64 : (n : ℕ) → n < 2 ^ 64 → Wraps 63 (pos n) (cast_signed w64 n)
cast_64 n h = subst (λ m. Wraps 63 (pos m) (cast_signed w64 n)) (of_z-to_z w64 n h) (bits_64 (cast_signed w64 n) (sfits_to_z record { fits = h }))

-- ---- what wraps around

wraps_from : (bits : ℕ) (x y z : ℤ) → AreCongruent (2 ^ (bits + 1)) x y → Wraps bits y z → Wraps bits x z
wraps_from bits x y z d w = record { fits = w.fits; same = differ_then (2 ^ (bits + 1)) x y z d w.same }

rest_within : (m : ℕ) (z : ℤ) → unsigned_abs (int_rem_euclid z (pos (suc m))) < suc m
rest_within m (pos a) = mod-lt a (omega arith)
rest_within m (negsuc a) = omega arith

rest_is : (m : ℕ) (z : ℤ) → pos (unsigned_abs (int_rem_euclid z (pos (suc m)))) ≡ int_rem_euclid z (pos (suc m))
rest_is m (pos a) = refl
rest_is m (negsuc a) = refl

wrap_32 : (z : ℤ) → Wraps 31 z (int_wrap w32 z)
unfolding int_wrap
wrap_32 z = wraps_from 31 z _ _ (rest_differs 4294967295 z)
    (subst (λ r. Wraps 31 r (int_wrap w32 z)) (rest_is 4294967295 z) (cast_32 (unsigned_abs (int_rem_euclid z (pos 4294967296))) (rest_within 4294967295 z)))

wrap_64 : (z : ℤ) → Wraps 63 z (int_wrap w64 z)
unfolding int_wrap
wrap_64 z = wraps_from 63 z _ _ (rest_differs 18446744073709551615 z)
    (subst (λ r. Wraps 63 r (int_wrap w64 z)) (rest_is 18446744073709551615 z)
    (cast_64 (unsigned_abs (int_rem_euclid z (pos 18446744073709551616))) (rest_within 18446744073709551615 z)))

fits_32 : (z : ℤ) → FitsInt z → SFits w32 z
fits_32 (pos n) h = record { sfits = h }
fits_32 (negsuc n) h = record { sfits = h }

fits_64 : (z : ℤ) → FitsLong z → SFits w64 z
fits_64 (pos n) h = record { sfits = h }
fits_64 (negsuc n) h = record { sfits = h }

pub ints_wrap : (x y : ℤ) (stack : List Value) → FitsInt x → FitsInt y → IntsWrap x y stack
unfolding effect pair single int_pair int_bits int_single
ints_wrap x y stack p q = record {
  iadd = (_, refl, subst (Wraps 31 (x +ℤ y)) (sym (wrapping_add_is w32 x y (fits_32 x p) (fits_32 y q))) (wrap_32 (x +ℤ y)));
  isub = (_, refl, subst (Wraps 31 (x -ℤ y)) (sym (wrapping_sub_is w32 x y (fits_32 x p) (fits_32 y q))) (wrap_32 (x -ℤ y)));
  imul = (_, refl, subst (Wraps 31 (x *ℤ y)) (sym (wrapping_mul_is w32 x y (fits_32 x p) (fits_32 y q))) (wrap_32 (x *ℤ y)));
  ineg = (_, refl, subst (Wraps 31 (neg_ℤ x)) (sym (wrapping_neg_is w32 x (fits_32 x p))) (wrap_32 (neg_ℤ x)));
}

pub longs_wrap : (x y : ℤ) (stack : List Value) → FitsLong x → FitsLong y → LongsWrap x y stack
unfolding effect pair single long_pair long_single
longs_wrap x y stack p q = record {
  ladd = (_, refl, subst (Wraps 63 (x +ℤ y)) (sym (wrapping_add_is w64 x y (fits_64 x p) (fits_64 y q))) (wrap_64 (x +ℤ y)));
  lsub = (_, refl, subst (Wraps 63 (x -ℤ y)) (sym (wrapping_sub_is w64 x y (fits_64 x p) (fits_64 y q))) (wrap_64 (x -ℤ y)));
  lmul = (_, refl, subst (Wraps 63 (x *ℤ y)) (sym (wrapping_mul_is w64 x y (fits_64 x p) (fits_64 y q))) (wrap_64 (x *ℤ y)));
  lneg = (_, refl, subst (Wraps 63 (neg_ℤ x)) (sym (wrapping_neg_is w64 x (fits_64 x p))) (wrap_64 (neg_ℤ x)));
}

-- ---- division

pub by_zero : (x : ℤ) (stack : List Value) → ByZero x stack
unfolding effect pair int_pair long_pair
by_zero x stack = record { idiv = refl; irem = refl; ldiv = refl; lrem = refl }

pub least_by_minus_one : (stack : List Value) → LeastByMinusOne stack
unfolding effect pair int_pair long_pair
least_by_minus_one stack = record { idiv = refl; ldiv = refl }

abs_neg : (n : ℕ) → unsigned_abs (neg_ℤ (pos n)) ≡ n
abs_neg zero = refl
abs_neg (suc n) = refl

quotient_within : (x y : ℤ) → unsigned_abs (int_div x y) ≤ unsigned_abs x
quotient_within (pos a) (pos b) = div-le_self a b
quotient_within (pos a) (negsuc b) = subst (λ n. n ≤ a) (sym (abs_neg (a / suc b))) (div-le_self a (suc b))
quotient_within (negsuc a) (pos b) = subst (λ n. n ≤ suc a) (sym (abs_neg (suc a / b))) (div-le_self (suc a) b)
quotient_within (negsuc a) (negsuc b) = div-le_self (suc a) (suc b)

quotient_32 : (q : ℤ) → unsigned_abs q ≤ 2147483648 → Wraps 31 q (cast_signed w32 (cast_unsigned w32 q))
quotient_32 (pos n) h = cast_32 n (omega (arith, h))
quotient_32 (negsuc n) h = wraps_from 31 (negsuc n) (pos (4294967296 - suc n)) _ (record { above = 1; below = 0; same = omega (arith, ints, h) }) (cast_32 (4294967296 - suc n) (omega (arith, h)))

quotient_64 : (q : ℤ) → unsigned_abs q ≤ 9223372036854775808 → Wraps 63 q (cast_signed w64 (cast_unsigned w64 q))
quotient_64 (pos n) h = cast_64 n (omega (arith, h))
quotient_64 (negsuc n) h =
    wraps_from 63 (negsuc n) (pos (18446744073709551616 - suc n)) _ (record { above = 1; below = 0; same = omega (arith, ints, h) })
    (cast_64 (18446744073709551616 - suc n) (omega (arith, h)))

size_32 : (x : ℤ) → FitsInt x → unsigned_abs x ≤ 2147483648
size_32 (pos n) h = omega (arith, h)
size_32 (negsuc n) h = h

size_64 : (x : ℤ) → FitsLong x → unsigned_abs x ≤ 9223372036854775808
size_64 (pos n) h = omega (arith, h)
size_64 (negsuc n) h = h

some_size : (y : ℤ) → (y ≡ pos 0 → ⊥) → 0 < unsigned_abs y
some_size (pos zero) h = absurd (h refl)
some_size (pos (suc n)) h = omega arith
some_size (negsuc n) h = omega arith

remainder_above : (x y : ℤ) → pos 0 ≤ℤ x → pos 0 ≤ℤ int_rem x y
remainder_above (pos a) y h = omega (arith, ints)
remainder_above (negsuc a) y h = absurd (omega (arith, ints, h))

remainder_below : (x y : ℤ) → x ≤ℤ pos 0 → int_rem x y ≤ℤ pos 0
remainder_below (pos zero) y h = let l = mod-le 0 (unsigned_abs y) in omega (arith, ints, l)
remainder_below (pos (suc a)) y h = absurd (omega (arith, ints, h))
remainder_below (negsuc a) y h = omega (arith, ints)

divides_is : (x y : ℤ) → (y ≡ pos 0 → ⊥) → IsDivision x y (int_div x y) (int_rem x y)
divides_is x y some = record { whole = quot-rem x y; less = rem_below x y (some_size y some); above = remainder_above x y; below = remainder_below x y }

not_zero : (y : ℤ) → (y ≡ pos 0 → ⊥) → (int_le y (pos 0) && int_le (pos 0) y) ≡ false
not_zero (pos zero) some = absurd (some refl)
not_zero (pos (suc n)) some = by (leb (suc n) 0) refl
  where
    by : (z : Bool) → leb (suc n) 0 ≡ z → (z && leb 0 (suc n)) ≡ false
    by true e = absurd (omega (arith, leb-true (suc n) 0 e))
    by false e = refl
not_zero (negsuc n) some = refl

pub ints_divide : (x y : ℤ) (stack : List Value) → FitsInt x → (y ≡ pos 0 → ⊥) → IntsDivide x y stack
unfolding effect pair int_pair
ints_divide x y stack p some = record {
  quotient = int_div x y;
  remainder = int_rem x y;
  divides = divides_is x y some;
  idiv = (
    _,
    ap (λ z. cond z (raises thrown.ArithmeticException) (gives 2 (int (cast_signed w32 (cast_unsigned w32 (int_div x y))) ∷ []))) (not_zero y some),
    quotient_32 (int_div x y) (let s = size_32 x p in let l = quotient_within x y in omega (arith, s, l)),
  );
  irem = ap (λ z. cond z (raises thrown.ArithmeticException) (gives 2 (int (int_rem x y) ∷ []))) (not_zero y some);
}

pub longs_divide : (x y : ℤ) (stack : List Value) → FitsLong x → (y ≡ pos 0 → ⊥) → LongsDivide x y stack
unfolding effect pair long_pair
longs_divide x y stack p some = record {
  quotient = int_div x y;
  remainder = int_rem x y;
  divides = divides_is x y some;
  ldiv = (
    _,
    ap (λ z. cond z (raises thrown.ArithmeticException) (gives 2 (long (cast_signed w64 (cast_unsigned w64 (int_div x y))) ∷ []))) (not_zero y some),
    quotient_64 (int_div x y) (let s = size_64 x p in let l = quotient_within x y in omega (arith, s, l)),
  );
  lrem = ap (λ z. cond z (raises thrown.ArithmeticException) (gives 2 (long (int_rem x y) ∷ []))) (not_zero y some);
}

-- ---- shifts

differ_back : (m : ℕ) (x y : ℤ) → AreCongruent m x y → AreCongruent m y x
differ_back m x y d = record { above = d.below; below = d.above; same = sym d.same }

unsigned_32 : (x : ℤ) → FitsInt x → AreCongruent 4294967296 x (pos (cast_unsigned w32 x))
unsigned_32 x p = differ_back 4294967296 _ x (bits_32 x (fits_32 x p)).same

unsigned_64 : (x : ℤ) → FitsLong x → AreCongruent 18446744073709551616 x (pos (cast_unsigned w64 x))
unsigned_64 x p = differ_back 18446744073709551616 _ x (bits_64 x (fits_64 x p)).same

within_32 : (x : ℤ) → FitsInt x → cast_unsigned w32 x < 4294967296
within_32 (pos n) h = omega (arith, h)
within_32 (negsuc n) h = omega (arith, h)

within_64 : (x : ℤ) → FitsLong x → cast_unsigned w64 x < 18446744073709551616
within_64 (pos n) h = omega (arith, h)
within_64 (negsuc n) h = omega (arith, h)

masked_32 : (y : ℤ) → FitsInt y → IsMasked 32 y (count_of_32 y)
masked_32 y p = record {
  within = mod-lt (cast_unsigned w32 y) (omega arith);
  same = differ_then 32 y (pos (cast_unsigned w32 y)) _ (differ_in 32 134217728 _ _ (unsigned_32 y p)) (rest_differs 31 (pos (cast_unsigned w32 y)));
}

masked_64 : (y : ℤ) → FitsInt y → IsMasked 64 y (count_of_64 y)
masked_64 y p = record {
  within = mod-lt (cast_unsigned w32 y) (omega arith);
  same = differ_then 64 y (pos (cast_unsigned w32 y)) _ (differ_in 64 67108864 _ _ (unsigned_32 y p)) (rest_differs 63 (pos (cast_unsigned w32 y)));
}

times_below : (d n c m : ℕ) → d + suc n ≡ m → AreCongruent m (negsuc n *ℤ pos c) (pos (d * c))
times_below d n c m e = record { above = c; below = 0; same = let p : d * c + suc n * c ≡ m * c = omega (arith, ap (λ t. t * c) e) in omega (arith, ints, p) }

shifted_32 : (x : ℤ) (c : ℕ) → FitsInt x → AreCongruent 4294967296 (x *ℤ pos c) (pos (cast_unsigned w32 x * c))
shifted_32 (pos n) c h = record { above = 0; below = 0; same = refl }
shifted_32 (negsuc n) c h = times_below (4294967296 - suc n) n c 4294967296 (omega (arith, h))

shifted_64 : (x : ℤ) (c : ℕ) → FitsLong x → AreCongruent 18446744073709551616 (x *ℤ pos c) (pos (cast_unsigned w64 x * c))
shifted_64 (pos n) c h = record { above = 0; below = 0; same = refl }
shifted_64 (negsuc n) c h = times_below (18446744073709551616 - suc n) n c 18446744073709551616 (omega (arith, h))

left_32 : (x : ℤ) (c : ℕ) → FitsInt x → Wraps 31 (x *ℤ pos c) (cast_signed w32 ((cast_unsigned w32 x * c) % 4294967296))
left_32 x c h = wraps_from 31 _ (pos (cast_unsigned w32 x * c)) _ (shifted_32 x c h)
    (wraps_from 31 _ _ _ (rest_differs 4294967295 (pos (cast_unsigned w32 x * c))) (cast_32 _ (mod-lt (cast_unsigned w32 x * c) (omega arith))))

left_64 : (x : ℤ) (c : ℕ) → FitsLong x → Wraps 63 (x *ℤ pos c) (cast_signed w64 ((cast_unsigned w64 x * c) % 18446744073709551616))
left_64 x c h = wraps_from 63 _ (pos (cast_unsigned w64 x * c)) _ (shifted_64 x c h)
    (wraps_from 63 _ _ _ (rest_differs 18446744073709551615 (pos (cast_unsigned w64 x * c))) (cast_64 _ (mod-lt (cast_unsigned w64 x * c) (omega arith))))

rounds_down : (x : ℤ) (k : ℕ) → RoundsDown x (2 ^ k) (int_shr x k)
rounds_down (pos a) k = let m = 2 ^ k in let e = div-add-mod' a m in let l : a % m < m = mod-lt a (pow_pos k) in record { at_most = omega (arith, ints, e); close = omega (arith, ints, e, l) }
rounds_down (negsuc a) k = let m = 2 ^ k in let e = div-add-mod' a m in let l : a % m < m = mod-lt a (pow_pos k) in record { at_most = omega (arith, ints, e, l); close = omega (arith, ints, e) }

unsigned_shift_32 : (x : ℤ) (k : ℕ) → FitsInt x → DividesUnsigned 31 x (2 ^ k) (cast_signed w32 (cast_unsigned w32 x / 2 ^ k))
unsigned_shift_32 x k h = record {
  unsigned = cast_unsigned w32 x;
  within = within_32 x h;
  same = unsigned_32 x h;
  wraps = cast_32 (cast_unsigned w32 x / 2 ^ k) (let a = div-le_self (cast_unsigned w32 x) (2 ^ k) in let b = within_32 x h in omega (arith, a, b));
}

unsigned_shift_64 : (x : ℤ) (k : ℕ) → FitsLong x → DividesUnsigned 63 x (2 ^ k) (cast_signed w64 (cast_unsigned w64 x / 2 ^ k))
unsigned_shift_64 x k h = record {
  unsigned = cast_unsigned w64 x;
  within = within_64 x h;
  same = unsigned_64 x h;
  wraps = cast_64 (cast_unsigned w64 x / 2 ^ k) (let a = div-le_self (cast_unsigned w64 x) (2 ^ k) in let b = within_64 x h in omega (arith, a, b));
}

pub ints_shift : (x y : ℤ) (stack : List Value) → FitsInt x → FitsInt y → IntsShift x y stack
unfolding effect pair int_pair int_bits
ints_shift x y stack p q = record {
  count = count_of_32 y;
  masked = masked_32 y q;
  ishl = (_, refl, left_32 x (2 ^ count_of_32 y) p);
  ishr = (_, refl, rounds_down x (count_of_32 y));
  iushr = (_, refl, unsigned_shift_32 x (count_of_32 y) p);
}

pub longs_shift : (x y : ℤ) (stack : List Value) → FitsLong x → FitsInt y → LongsShift x y stack
unfolding effect pair long_shift
longs_shift x y stack p q = record {
  count = count_of_64 y;
  masked = masked_64 y q;
  lshl = (_, refl, left_64 x (2 ^ count_of_64 y) p);
  lshr = (_, refl, rounds_down x (count_of_64 y));
  lushr = (_, refl, unsigned_shift_64 x (count_of_64 y) p);
}

-- ---- narrowing

cut : (k m : ℕ) (x : ℤ) → FitsInt x → k * suc m ≡ 4294967296 → AreCongruent (suc m) x (pos (cast_unsigned w32 x % suc m))
cut k m x p e = differ_then (suc m) x
    (pos (cast_unsigned w32 x)) _ (differ_in (suc m) k _ _ (subst (λ t. AreCongruent t x (pos (cast_unsigned w32 x))) (sym e) (unsigned_32 x p)))
    (rest_differs m (pos (cast_unsigned w32 x)))

pub narrows : (x : ℤ) → FitsInt x → Narrows x
narrows x p = record {
  boolean = record { number = cast_unsigned w32 x % 2; is = refl; within = mod-lt (cast_unsigned w32 x) (omega arith); same = cut 2147483648 1 x p refl };
  byte = wraps_from 7 x _ _ (cut 16777216 255 x p refl) (cast_8 _ (mod-lt (cast_unsigned w32 x) (omega arith)));
  char = record { number = cast_unsigned w32 x % 65536; is = refl; within = mod-lt (cast_unsigned w32 x) (omega arith); same = cut 65536 65535 x p refl };
  short = wraps_from 15 x _ _ (cut 65536 65535 x p refl) (cast_16 _ (mod-lt (cast_unsigned w32 x) (omega arith)));
}

pub converts : (x y : ℤ) (stack : List Value) → FitsInt x → FitsLong y → Converts x y stack
unfolding effect single int_single long_single
converts x y stack p q = let n = narrows x p in record {
  i2b = (_, refl, n.byte);
  i2c = (_, refl, n.char);
  i2s = (_, refl, n.short);
  i2l = refl;
  l2i = (
    _,
    refl,
    wraps_from 31 y (pos (cast_unsigned w64 y)) _ (differ_in 4294967296 4294967296 _ _ (unsigned_64 y q))
        (wraps_from 31 _ _ _ (rest_differs 4294967295 (pos (cast_unsigned w64 y))) (cast_32 _ (mod-lt (cast_unsigned w64 y) (omega arith)))),
  );
}

-- ---- comparisons

below_is : (x y : ℤ) → x <ℤ y → int_lt x y ≡ true
below_is x y l = test_true (int_lt x y) l.lt

not_below : (x y : ℤ) → y ≤ℤ x → int_lt x y ≡ false
not_below x y l = by (int_lt x y) refl
  where
    by : (z : Bool) → int_lt x y ≡ z → z ≡ false
    by true e = let k : x <ℤ y = record { lt = subst T (sym e) tt } in absurd (omega (arith, ints, k, l))
    by false e = refl

pub compares_is : (x y : ℤ) (stack : List Value) → Compares x y stack
unfolding effect pair long_pair compared
compares_is x y stack = record {
  less = λ l. ap (λ z. gives 2 (int (cond z (negsuc 0) (cond (int_lt y x) (pos 1) (pos 0))) ∷ [])) (below_is x y l);
  equal = λ e. ap (λ z. gives 2 (int (cond z (negsuc 0) (cond (int_lt y x) (pos 1) (pos 0))) ∷ [])) (not_below x y (omega (arith, ints, e)))
      ∙ ap (λ z. gives 2 (int (cond z (pos 1) (pos 0)) ∷ [])) (not_below y x (omega (arith, ints, e)));
  greater = λ l. ap (λ z. gives 2 (int (cond z (negsuc 0) (cond (int_lt y x) (pos 1) (pos 0))) ∷ [])) (not_below x y (omega (arith, ints, l)))
      ∙ ap (λ z. gives 2 (int (cond z (pos 1) (pos 0)) ∷ [])) (below_is y x l);
}
