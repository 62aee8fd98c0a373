-- Signed numbers and differences of offsets, written and read again.
use Rattle.std.proofs.Common.{◌≡◌, ◌⊎◌, inl, inr, ℕ, suc, ◌+◌, ◌-◌, ◌%◌, ◌<◌, ◌≤◌, length, ◌∙◌, ap, arith, w8, w16, w32, ℤ, pos, negsuc}
use Rattle.std.specs.Prelude.{◌≤ℤ◌, FitsSigned}
use Rattle.std.specs.Int.{cast_signed, cast_unsigned}
use Rattle.std.proofs.lemmas.Int.{ints, to_z-of_z, of_z-to_z, to_z_pos}
use Rattle.std.proofs.lemmas.Bool.{cases_lt, le-ltb}
use Rattle.byteorder.specs.Numbers.{length-bytes_high_first}
use Rattle.jc_bytes.specs.Decoder.{IsBig}
use Rattle.jc_bytes.proofs.AppendingLaws.{big_spells}
use Rattle.jc_bytes.specs.BigNumbers.{short, word}
use Rattle.jc_insn.specs.Items.{target_of}
use Rattle.jc_insn.specs.Writing.{signed_byte, difference, IsNear}

pub short_size : (x : ℕ) → length (short x) ≡ 2
unfolding short
short_size x = length-bytes_high_first 2 x

pub word_size : (x : ℕ) → length (word x) ≡ 4
unfolding word
word_size x = length-bytes_high_first 4 x

pub big_short : (x : ℕ) → x < 65536 → IsBig 2 (short x) x
unfolding short
big_short x fits = big_spells 2 x fits

pub big_word : (x : ℕ) → x < 4294967296 → IsBig 4 (word x) x
unfolding word
big_word x fits = big_spells 4 x fits

pub signed_byte_back : (z : ℤ) → negsuc 127 ≤ℤ z → z ≤ℤ pos 127 → cast_signed w8 (signed_byte z) ≡ z
signed_byte_back (pos n) low high =
    let small : n ≤ 127 = omega (arith, ints, high) in
    let same : n % 256 ≡ n = omega (arith, small) in
    ap (cast_signed w8) same ∙ to_z_pos w8 n (omega (arith, small))
signed_byte_back (negsuc n) low high =
    let small : n ≤ 127 = omega (arith, ints, low) in
    let same : (65536 - suc n) % 256 ≡ 255 - n = omega (arith, small) in
    ap (cast_signed w8) same ∙ negative n small
  where
    negative : (n : ℕ) → n ≤ 127 → cast_signed w8 (255 - n) ≡ negsuc n
    negative n small = rw (le-ltb (255 - n) 128 (omega (arith, small))) (ap negsuc (let e : 256 - suc (255 - n) ≡ n = omega (arith, small) in e))

pub signed_short_back : (z : ℤ) → FitsSigned w16 z → cast_signed w16 (cast_unsigned w16 z) ≡ z
signed_short_back z fits = to_z-of_z w16 z fits

pub signed_word_back : (z : ℤ) → FitsSigned w32 z → cast_signed w32 (cast_unsigned w32 z) ≡ z
signed_word_back z fits = to_z-of_z w32 z fits

-- a difference of 32 bits leads back
pub word_target : (at to : ℕ) → at < 4294967296 → to < 4294967296 → target_of at (cast_signed w32 (difference at to)) ≡ to
word_target at to at_fits to_fits =
    let small : difference at to < 4294967296 = omega arith in
    ap (λ (k : ℕ). (at + k) % 4294967296) (of_z-to_z w32 (difference at to) small) ∙ omega (arith, at_fits, to_fits)

-- a difference that fits 16 bits leads back
pub short_target : (at to : ℕ) → at < 4294967296 → to < 4294967296 → IsNear at to → target_of at (cast_signed w16 (difference at to % 65536)) ≡ to
short_target at to at_fits to_fits near = by (cases_lt to at)
  where
    by : (to < at) ⊎ (at ≤ to) → target_of at (cast_signed w16 (difference at to % 65536)) ≡ to
    by (inr forward) =
        let back : difference at to % 65536 ≡ to - at = omega (arith, forward, near, at_fits, to_fits) in
        ap (λ (x : ℕ). target_of at (cast_signed w16 x)) back
        ∙ ap (target_of at) (to_z_pos w16 (to - at) (omega (arith, forward, near)))
        ∙ omega (arith, forward, to_fits)
    by (inl backward) =
        let back : difference at to % 65536 ≡ 65536 - (at - to) = omega (arith, backward, near, at_fits, to_fits) in
        let negative : cast_signed w16 (65536 - (at - to)) ≡ negsuc (at - to - 1) = rw (le-ltb (65536 - (at - to)) 32768 (omega (arith, backward, near)))
        (ap negsuc (let e : 65536 - suc (65536 - (at - to)) ≡ at - to - 1 = omega (arith, backward, near) in e)) in
        ap (λ (x : ℕ). target_of at (cast_signed w16 x)) back
        ∙ ap (target_of at) negative
        ∙ omega (arith, backward, at_fits, to_fits, near)
