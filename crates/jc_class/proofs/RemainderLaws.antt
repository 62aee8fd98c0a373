-- The remainder after the eight bits of a byte, from that of the low byte alone.
use Rattle.std.proofs.Common.{◌≡◌, ◌⊎◌, ⊎_elim, ℕ, zero, suc, ◌-◌, ◌+◌, ◌*◌, ◌/◌, ◌%◌, ◌^◌, ◌<◌, ◌≤◌, Bool, true, List, [], ◌∷◌, ◌++◌, length, take, drop, get_or, fold, map, nat_eq, nat_le, ◌&&◌, slice_index, slice_set, refl, sym, ◌∙◌, ap, arith, bit_xor, bit_and}
use Rattle.std.proofs.Math.Nat.{pow-suc, mod-lt}
use Rattle.std.specs.Int.Bits.{xor_step, block_half, block_odd, xor_zero_r, xor_block, xor_lt, differ}
use Rattle.std.proofs.Math.Arith.{bin_ind}
use Rattle.std.proofs.lemmas.Nat.{xor_shr, xor_comm, shr_split, pow_pos, and_mask}
use Rattle.std.proofs.lemmas.List.{take_all, length-drop}
use Rattle.std.proofs.lemmas.List.FromFn.{get_or-map-range_with_len}
use Rattle.std.proofs.lemmas.List.Sums.{fold-append}
use Rattle.std.proofs.lemmas.Bool.{cond-true}
use Rattle.std.proofs.lemmas.Bool.Decides.{nat_tests}
use Rattle.std.specs.List.{range_with_len}
use Rattle.jc_class.specs.ClassId.{polynomial, after_bit, after_bits, after_byte, class_id, remainder_of}

-- ---- exclusive or is associative

bits : (x : ℕ) → x < 2 → (x ≡ 0) ⊎ (x ≡ 1)
bits x h = grind arith

differ-assoc : (x y z : ℕ) → x < 2 → y < 2 → z < 2 → differ (differ x y) z ≡ differ x (differ y z)
differ-assoc x y z hx hy hz =
    ⊎_elim (λ (ex : x ≡ 0). ⊎_elim (λ (ey : y ≡ 0). ⊎_elim (λ (ez : z ≡ 0). rw (ex, ey, ez) refl) (λ (ez : z ≡ 1). rw (ex, ey, ez) refl) (bits z hz))
    (λ (ey : y ≡ 1). ⊎_elim (λ (ez : z ≡ 0). rw (ex, ey, ez) refl) (λ (ez : z ≡ 1). rw (ex, ey, ez) refl) (bits z hz)) (bits y hy))
    (λ (ex : x ≡ 1). ⊎_elim (λ (ey : y ≡ 0). ⊎_elim (λ (ez : z ≡ 0). rw (ex, ey, ez) refl) (λ (ez : z ≡ 1). rw (ex, ey, ez) refl) (bits z hz))
    (λ (ey : y ≡ 1). ⊎_elim (λ (ez : z ≡ 0). rw (ex, ey, ez) refl) (λ (ez : z ≡ 1). rw (ex, ey, ez) refl) (bits z hz)) (bits y hy))
    (bits x hx)

differ-below : (x y : ℕ) → x < 2 → y < 2 → differ x y < 2
differ-below x y hx hy =
    ⊎_elim (λ (ex : x ≡ 0). ⊎_elim (λ (ey : y ≡ 0). rw (ex, ey) (omega arith)) (λ (ey : y ≡ 1). rw (ex, ey) (omega arith)) (bits y hy))
    (λ (ex : x ≡ 1). ⊎_elim (λ (ey : y ≡ 0). rw (ex, ey) (omega arith)) (λ (ey : y ≡ 1). rw (ex, ey) (omega arith)) (bits y hy))
    (bits x hx)

xor-half : (a b : ℕ) → bit_xor a b / 2 ≡ bit_xor (a / 2) (b / 2)
xor-half a b = xor_shr a b 1

xor-odd : (a b : ℕ) → bit_xor a b % 2 ≡ differ (a % 2) (b % 2)
xor-odd a b = let d = differ-below (a % 2) (b % 2) (omega arith) (omega arith) in ap (λ (x : ℕ). x % 2) (xor_step a b) ∙ omega (arith, d)

xor_assoc : (a b c : ℕ) → bit_xor (bit_xor a b) c ≡ bit_xor a (bit_xor b c)
xor_assoc = bin_ind (λ (a : ℕ). (b c : ℕ) → bit_xor (bit_xor a b) c ≡ bit_xor a (bit_xor b c)) (λ b c. refl) (λ a ih b c.
    xor_step (bit_xor a b) c
    ∙ (λ i. bit_xor (xor-half a b i) (c / 2) * 2 + differ (xor-odd a b i) (c % 2))
    ∙ (λ i. ih (b / 2) (c / 2) i * 2 + differ-assoc (a % 2) (b % 2) (c % 2) (omega arith) (omega arith) (omega arith) i)
    ∙ (λ i. bit_xor (a / 2) (sym (xor-half b c) i) * 2 + differ (a % 2) (sym (xor-odd b c) i))
    ∙ sym (xor_step a (bit_xor b c)))

-- ---- some bits, and those above them

even_bit : (x : ℕ) → x % 2 ≡ 0 → after_bit x ≡ x / 2
unfolding after_bit
even_bit x e = rw e refl

odd_bit : (x : ℕ) → x % 2 ≡ 1 → after_bit x ≡ bit_xor (x / 2) polynomial
unfolding after_bit
odd_bit x e = rw e refl

two_cases : (x : ℕ) → (x % 2 ≡ 0) ⊎ (x % 2 ≡ 1)
two_cases x = bits (x % 2) (omega arith)

-- the bits above the n low ones are moved down, and the low ones leave what they leave alone
pub bits_split : (n h r : ℕ) → r < 2 ^ n → after_bits n (h * 2 ^ n + r) ≡ bit_xor h (after_bits n r)
unfolding after_bits
bits_split zero h r below =
    let none : r ≡ 0 = omega (arith, below) in
    rw none (omega (arith, xor_zero_r h))
bits_split (suc n) h r below =
    let low : r / 2 < 2 ^ n = omega (arith, pow-suc 2 n, below) in
    let half : (h * 2 ^ suc n + r) / 2 ≡ h * 2 ^ n + r / 2 = block_half h n r in
    let odd : (h * 2 ^ suc n + r) % 2 ≡ r % 2 = block_odd h n r in
    let high = polynomial / 2 ^ n in
    let rest = polynomial % 2 ^ n in
    let parts : high * 2 ^ n + rest ≡ polynomial = shr_split polynomial n in
    let small : rest < 2 ^ n = mod-lt polynomial (pow_pos n) in
    let mixed = bit_xor (r / 2) rest in
    let fits : mixed < 2 ^ n = xor_lt n (r / 2) rest low small in
    let above : bit_xor (h * 2 ^ n + r / 2) polynomial ≡ bit_xor h high * 2 ^ n + mixed = ap (bit_xor (h * 2 ^ n + r / 2)) (sym parts) ∙ xor_block n h high (r / 2) rest low small in
    let alone : bit_xor (r / 2) polynomial ≡ high * 2 ^ n + mixed = (λ i. bit_xor (no_high (r / 2) i) (sym parts i)) ∙ xor_block n 0 high (r / 2) rest low small in
    ⊎_elim
    (λ (e : r % 2 ≡ 0).
    ap (after_bits n) (even_bit (h * 2 ^ suc n + r) (odd ∙ e) ∙ half)
    ∙ bits_split n h (r / 2) low
    ∙ ap (λ (k : ℕ). bit_xor h (after_bits n k)) (sym (even_bit r e)))
    (λ (e : r % 2 ≡ 1).
    ap (after_bits n) (odd_bit (h * 2 ^ suc n + r) (odd ∙ e) ∙ ap (λ (k : ℕ). bit_xor k polynomial) half ∙ above)
    ∙ bits_split n (bit_xor h high) mixed fits
    ∙ xor_assoc h high (after_bits n mixed)
    ∙ ap (bit_xor h) (sym (bits_split n high mixed fits))
    ∙ ap (λ (k : ℕ). bit_xor h (after_bits n k)) (sym alone ∙ sym (odd_bit r e)))
    (two_cases r)
  where
    no_high : (k : ℕ) → k ≡ 0 * 2 ^ n + k
    no_high k = omega arith

-- ---- a byte, by the table

pub table_step : (table : List ℕ) (remainder byte : ℕ) → byte < 256 → table ≡ map (after_bits 8) (range_with_len 0 256)
    → bit_xor (get_or table (bit_and (bit_xor remainder byte) 255) 0) (remainder / 256) ≡ after_byte remainder byte
unfolding after_byte
table_step table remainder byte fits is =
    let x = bit_xor remainder byte in
    let masked : bit_and x 255 ≡ x % 256 = and_mask x 8 in
    let low : x % 256 < 256 = omega arith in
    let read : get_or table (x % 256) 0 ≡ after_bits 8 (x % 256) = ap (λ (l : List ℕ). get_or l (x % 256) 0) is
    ∙ get_or-map-range_with_len (after_bits 8) 0 256 (x % 256) (x % 256) 0 low (omega arith) in
    let high : x / 256 ≡ remainder / 256 = xor_shr remainder byte 8 ∙ ap (bit_xor (remainder / 256)) (none fits) ∙ xor_zero_r (remainder / 256) in
    (λ i. bit_xor (get_or table (masked i) 0) (remainder / 256))
    ∙ (λ i. bit_xor (read i) (sym high i))
    ∙ xor_comm (after_bits 8 (x % 256)) (x / 256)
    ∙ sym (bits_split 8 (x / 256) (x % 256) low)
    ∙ ap (after_bits 8) (shr_split x 8)
  where
    none : byte < 256 → byte / 256 ≡ 0
    none h = omega (arith, h)

pub bits_step : (bit start : ℕ) → bit < 8 → after_bits (8 - bit) start ≡ after_bits (8 - (bit + 1)) (after_bit start)
unfolding after_bits
bits_step bit start h = ap (λ (n : ℕ). after_bits n start) more
  where
    more : 8 - bit ≡ suc (8 - (bit + 1))
    more = omega (arith, h)

pub no_bits : (bit start : ℕ) → 8 ≤ bit → after_bits (8 - bit) start ≡ start
unfolding after_bits
no_bits bit start h = ap (λ (n : ℕ). after_bits n start) none
  where
    none : 8 - bit ≡ 0
    none = omega (arith, h)

-- ---- byte 7 of a class file of version 53

set_parts : (i v : ℕ) (bytes : List ℕ) → i < length bytes → slice_set bytes i v ≡ take i bytes ++ v ∷ drop (suc i) bytes
set_parts i v [] h = absurd (omega (arith, h))
set_parts zero v (b ∷ bytes) h = refl
set_parts (suc i) v (b ∷ bytes) h = ap (λ (l : List ℕ). b ∷ l) (set_parts i v bytes (omega (arith, h)))

pub in_parts : (bytes : List ℕ) (v front version : ℕ) → 8 ≤ length bytes → front ≡ fold after_byte 0 (take 7 bytes) → version ≡ fold after_byte front (v ∷ [])
    → fold after_byte version (drop 8 bytes) ≡ fold after_byte 0 (slice_set bytes 7 v)
in_parts bytes v front version long first second =
    ap (λ (k : ℕ). fold after_byte k (drop 8 bytes)) (second ∙ ap (λ (k : ℕ). after_byte k v) first)
    ∙ sym (fold-append after_byte 0 (take 7 bytes) (v ∷ drop 8 bytes))
    ∙ ap (fold after_byte 0) (sym (set_parts 7 v bytes (omega (arith, long))))

long_enough : (a : ℕ) (b : Bool) → (nat_le 8 a && b) ≡ true → 8 ≤ a
long_enough a b e = grind (arith, nat_tests)

pub version_53 : (bytes : List ℕ) (test : Bool) (front version last : ℕ) → test ≡ true → test ≡ (nat_le 8 (length bytes) && (nat_eq (slice_index bytes 6) 0 && nat_eq (slice_index bytes 7) 0x35))
    → front ≡ fold after_byte 0 (take 7 bytes) → version ≡ fold after_byte front (0x34 ∷ []) → last ≡ fold after_byte version (take (length bytes - 8) (drop 8 bytes)) → last ≡ class_id bytes
version_53 bytes test front version last found is first second third =
    third ∙ ap (fold after_byte version) (take_all (length bytes - 8) (drop 8 bytes) (omega (arith, length-drop 8 bytes)))
    ∙ in_parts bytes 0x34 front version (long_enough (length bytes) _ (sym is ∙ found)) first second
    ∙ ap remainder_of (sym (cond-true (nat_le 8 (length bytes) && (nat_eq (slice_index bytes 6) 0 && nat_eq (slice_index bytes 7) 0x35)) (slice_set bytes 7 0x34) bytes (sym is ∙ found)))
