-- Truth values that are held eight to a byte.
use Rattle.std.proofs.Common.{◌≡◌, ℕ, zero, suc, ◌+◌, ◌*◌, ◌/◌, ◌%◌, ◌^◌, ◌<◌, ◌≤◌, ◌==◌, ◌||◌, Bool, true, false, not, List, [], ◌∷◌, ◌++◌, length, take, drop, get_or, slice_index, slice_index_or, if◌then◌else◌, refl, sym, ◌∙◌, ap, arith, max, bit_or}
use Rattle.std.specs.List.{list_any}
use Rattle.std.specs.Int.Bits.{or_step}
use Rattle.std.proofs.Math.Nat.{pow-suc}
use Rattle.std.proofs.Math.ListN.{set}
use Rattle.std.proofs.Math.Seq.{take-suc}
use Rattle.std.proofs.lemmas.List.{take_all, take_at, take-append-le, drop-append-le, nil_from_length, length-take, length-drop}
use Rattle.std.proofs.lemmas.List.FromFn.{get_or-map-range_with_len}
use Rattle.std.proofs.lemmas.Bool.{ne_eqb}
use Rattle.jc_bytes.specs.ByteLists.{AreBytes}
use Rattle.jc_exec.specs.Packed.{bit, unpack, low_first, pack, packed, joined_bytes}
use Rattle.jc_exec.specs.Union.{either_bits}
use Rattle.jc_exec.proofs.BitsLaws.{unpack_more, unpack_none, unpack_within, unpack_byte, length_unpack}
use Rattle.jc_exec.proofs.MergingLaws.{length_either}
use Rattle.jc_exec.proofs.WritingLaws.{packed_is_packed}

-- ---- the number of some bits of a byte

low_push : (xs : List Bool) (x : Bool) → low_first (xs ++ x ∷ []) ≡ low_first xs + (if x then 2 ^ length xs else 0)
low_push [] true = refl
low_push [] false = refl
low_push (y ∷ ys) true = let more = low_push ys true in let p = pow-suc 2 (length ys) in omega (arith, more, p)
low_push (y ∷ ys) false = let more = low_push ys false in omega (arith, more)

low_mod : (b r : ℕ) → r < 8 → b % 2 ^ (r + 1) ≡ b % 2 ^ r + 2 ^ r * ((b / 2 ^ r) % 2)
low_mod b zero lt = omega arith
low_mod b (suc zero) lt = omega arith
low_mod b (suc (suc zero)) lt = omega arith
low_mod b (suc (suc (suc zero))) lt = omega arith
low_mod b (suc (suc (suc (suc zero)))) lt = omega arith
low_mod b (suc (suc (suc (suc (suc zero))))) lt = omega arith
low_mod b (suc (suc (suc (suc (suc (suc zero)))))) lt = omega arith
low_mod b (suc (suc (suc (suc (suc (suc (suc zero))))))) lt = omega arith
low_mod b (suc (suc (suc (suc (suc (suc (suc (suc r)))))))) lt = absurd (omega (arith, lt))

one_or_none : (n p : ℕ) → (if n % 2 == 1 then p else 0) ≡ p * (n % 2)
one_or_none n p = by (n % 2) (omega arith)
  where
    by : (m : ℕ) → m < 2 → (if m == 1 then p else 0) ≡ p * m
    by zero lt = omega arith
    by (suc zero) lt = omega arith
    by (suc (suc m)) lt = absurd (omega (arith, lt))

bit_of_one : (b r : ℕ) → r < 8 → bit (b ∷ []) r ≡ ((b / 2 ^ r) % 2 == 1)
bit_of_one b r lt =
    let here : r / 8 ≡ 0 = omega (arith, lt) in
    let same : r % 8 ≡ r = omega (arith, lt) in
    ap (λ (k : ℕ). (slice_index (b ∷ []) k / 2 ^ (r % 8)) % 2 == 1) here ∙ ap (λ (k : ℕ). (b / 2 ^ k) % 2 == 1) same

pub low_unpack : (b r : ℕ) → r ≤ 8 → low_first (unpack r (b ∷ [])) ≡ b % 2 ^ r
low_unpack b zero le = ap low_first (sym (unpack_none (b ∷ []))) ∙ omega arith
low_unpack b (suc r) le =
    let lt : r < 8 = omega (arith, le) in
    let one : suc r ≡ r + 1 = omega arith in
    let own = b ∷ [] in
    ap (λ (k : ℕ). low_first (unpack k own)) one
    ∙ ap low_first (unpack_more own r)
    ∙ low_push (unpack r own) (bit own r)
    ∙ (λ i. low_unpack b r (omega (arith, lt)) i + (if bit_of_one b r lt i then 2 ^ length_unpack r own i else 0))
    ∙ ap (λ (n : ℕ). b % 2 ^ r + n) (one_or_none (b / 2 ^ r) (2 ^ r))
    ∙ sym (low_mod b r lt)
    ∙ ap (λ (k : ℕ). b % 2 ^ k) (sym one)

-- ---- bytes behind others

pack_behind : (m : ℕ) (xs ys : List Bool) → length xs ≡ 8 * m → pack (m + 1) (xs ++ ys) ≡ pack m xs ++ low_first (take 8 ys) ∷ []
pack_behind zero xs ys long = ap (λ (l : List Bool). pack 1 (l ++ ys)) (nil_from_length xs (omega (arith, long)))
pack_behind (suc m) xs ys long =
    let le : 8 ≤ length xs = omega (arith, long) in
    let one : suc m + 1 ≡ suc (m + 1) = omega arith in
    ap (λ (k : ℕ). pack k (xs ++ ys)) one
    ∙ (λ i. low_first (take-append-le 8 xs ys le i) ∷ pack (m + 1) (drop-append-le 8 xs ys le i))
    ∙ ap (λ (l : List ℕ). low_first (take 8 xs) ∷ l) (pack_behind m (drop 8 xs) ys (omega (arith, length-drop 8 xs, long)))

pub byte_at : (bytes : List ℕ) (k : ℕ) → AreBytes bytes → k < length bytes → slice_index bytes k < 256
byte_at [] k are lt = absurd (omega (arith, lt))
byte_at (b ∷ bytes) zero are lt = are.0
byte_at (b ∷ bytes) (suc k) are lt = byte_at bytes k are.1 (omega (arith, lt))

whole_bytes : (m : ℕ) (bytes : List ℕ) → AreBytes bytes → m ≤ length bytes → pack m (unpack (8 * m) bytes) ≡ take m bytes
whole_bytes zero bytes are le = refl
whole_bytes (suc m) bytes are le =
    let one : suc m ≡ m + 1 = omega arith in
    let own = slice_index bytes m ∷ [] in
    let small = byte_at bytes m are (omega (arith, le)) in
    let low : low_first (unpack 8 own) ≡ slice_index bytes m = low_unpack (slice_index bytes m) 8 (omega arith) ∙ omega (arith, small) in
    ap (λ (k : ℕ). pack k (unpack (8 * k) bytes)) one
    ∙ ap (pack (m + 1)) (sym (unpack_byte bytes m))
    ∙ pack_behind m (unpack (8 * m) bytes) (unpack 8 own) (length_unpack (8 * m) bytes)
    ∙ ap (λ (l : List Bool). pack m (unpack (8 * m) bytes) ++ low_first l ∷ []) (take_all 8 (unpack 8 own) (omega (arith, length_unpack 8 own)))
    ∙ (λ i. whole_bytes m bytes are (omega (arith, le)) i ++ low i ∷ [])
    ∙ sym (take-suc bytes m 0 (omega (arith, le)))

-- bits that were unpacked and packed again, where they fill their bytes
pub packed_whole : (n : ℕ) (bytes : List ℕ) → AreBytes bytes → length bytes ≡ (n + 7) / 8 → length bytes ≤ n / 8 → packed (unpack n bytes) ≡ take (n / 8) bytes
packed_whole n bytes are size whole =
    let m = n / 8 in
    let eight : n ≡ 8 * m = omega (arith, size, whole) in
    let count : (length (unpack n bytes) + 7) / 8 ≡ m = omega (arith, length_unpack n bytes, eight) in
    ap (λ (k : ℕ). pack k (unpack n bytes)) count
    ∙ ap (λ (k : ℕ). pack m (unpack k bytes)) eight
    ∙ whole_bytes m bytes are (omega (arith, size, whole))

-- and where the last byte has others too
pub packed_part : (n : ℕ) (bytes : List ℕ) → AreBytes bytes → length bytes ≡ (n + 7) / 8 → n / 8 < length bytes
    → packed (unpack n bytes) ≡ take (n / 8) bytes ++ (slice_index bytes (n / 8) % 2 ^ (n % 8)) ∷ []
packed_part n bytes are size more =
    let m = n / 8 in
    let r = n % 8 in
    let own = slice_index bytes m ∷ [] in
    let eight : n ≡ 8 * m + r = omega arith in
    let count : (length (unpack n bytes) + 7) / 8 ≡ m + 1 = omega (arith, length_unpack n bytes, size, more) in
    let small : r ≤ 8 = omega arith in
    ap (λ (k : ℕ). pack k (unpack n bytes)) count
    ∙ ap (λ (k : ℕ). pack (m + 1) (unpack k bytes)) eight
    ∙ ap (pack (m + 1)) (unpack_within bytes m r small)
    ∙ pack_behind m (unpack (8 * m) bytes) (unpack r own) (length_unpack (8 * m) bytes)
    ∙ ap (λ (l : List Bool). pack m (unpack (8 * m) bytes) ++ low_first l ∷ []) (take_all 8 (unpack r own) (omega (arith, length_unpack r own, small)))
    ∙ (λ i. whole_bytes m bytes are (omega (arith, more)) i ++ low_unpack (slice_index bytes m) r small i ∷ [])

-- ---- packed bits are read again

pub unpack_packed : (bits : List Bool) → unpack (length bits) (packed bits) ≡ bits
unpack_packed bits = (packed_is_packed bits).unpacked

pub bit_there : (n i : ℕ) (bytes : List ℕ) → i < n → slice_index_or (unpack n bytes) i false ≡ bit bytes i
unfolding unpack
bit_there n i bytes lt = get_or-map-range_with_len (bit bytes) 0 n i i false lt (omega arith)

pub any_default : (xs : List ℕ) (k d e : ℕ) → k < length xs → get_or xs k d ≡ get_or xs k e
any_default [] k d e lt = absurd (omega (arith, lt))
any_default (x ∷ xs) zero d e lt = refl
any_default (x ∷ xs) (suc k) d e lt = any_default xs k d e (omega (arith, lt))

none_behind : (bits : List Bool) (i : ℕ) → length bits ≤ i → get_or bits i false ≡ false
none_behind [] i le = refl
none_behind (b ∷ bits) zero le = absurd (omega (arith, le))
none_behind (b ∷ bits) (suc i) le = none_behind bits i (omega (arith, le))

pub bit_behind : (n i : ℕ) (bytes : List ℕ) → n ≤ i → slice_index_or (unpack n bytes) i false ≡ false
bit_behind n i bytes le = none_behind (unpack n bytes) i (omega (arith, length_unpack n bytes, le))

-- ---- the bits of two lists

or_bits : (x y : Bool) (m n : ℕ) → bit_or ((if x then 1 else 0) + 2 * m) ((if y then 1 else 0) + 2 * n) ≡ (if x || y then 1 else 0) + 2 * bit_or m n
or_bits x y m n =
    let a = (if x then 1 else 0) + 2 * m in
    let b = (if y then 1 else 0) + 2 * n in
    or_step a b ∙ (λ i. bit_or (half x m i) (half y n i) * 2 + max (low x m i) (low y n i)) ∙ both x y
  where
    half : (x : Bool) (m : ℕ) → ((if x then 1 else 0) + 2 * m) / 2 ≡ m
    half true m = omega arith
    half false m = omega arith

    low : (x : Bool) (m : ℕ) → ((if x then 1 else 0) + 2 * m) % 2 ≡ (if x then 1 else 0)
    low true m = omega arith
    low false m = omega arith

    both : (x y : Bool) → bit_or m n * 2 + max (if x then 1 else 0) (if y then 1 else 0) ≡ (if x || y then 1 else 0) + 2 * bit_or m n
    both true true = omega arith
    both true false = omega arith
    both false true = omega arith
    both false false = omega arith

low_either : (xs ys : List Bool) → length xs ≡ length ys → low_first (either_bits xs ys) ≡ bit_or (low_first xs) (low_first ys)
low_either [] [] long = refl
low_either [] (y ∷ ys) long = absurd (omega (arith, long))
low_either (x ∷ xs) [] long = absurd (omega (arith, long))
low_either (x ∷ xs) (y ∷ ys) long =
    ap (λ (n : ℕ). (if x || y then 1 else 0) + 2 * n) (low_either xs ys (omega (arith, long)))
    ∙ sym (or_bits x y (low_first xs) (low_first ys))

take_either : (n : ℕ) (xs ys : List Bool) → length xs ≡ length ys → take n (either_bits xs ys) ≡ either_bits (take n xs) (take n ys)
take_either zero xs ys long = refl
take_either (suc n) [] ys long = refl
take_either (suc n) (x ∷ xs) [] long = absurd (omega (arith, long))
take_either (suc n) (x ∷ xs) (y ∷ ys) long = ap (λ (l : List Bool). (x || y) ∷ l) (take_either n xs ys (omega (arith, long)))

drop_either : (n : ℕ) (xs ys : List Bool) → length xs ≡ length ys → drop n (either_bits xs ys) ≡ either_bits (drop n xs) (drop n ys)
drop_either zero xs ys long = refl
drop_either (suc n) [] ys long = refl
drop_either (suc n) (x ∷ xs) [] long = absurd (omega (arith, long))
drop_either (suc n) (x ∷ xs) (y ∷ ys) long = drop_either n xs ys (omega (arith, long))

pack_either : (n : ℕ) (xs ys : List Bool) → length xs ≡ length ys → pack n (either_bits xs ys) ≡ joined_bytes (pack n xs) (pack n ys)
pack_either zero xs ys long = refl
pack_either (suc n) xs ys long =
    let fronts : length (take 8 xs) ≡ length (take 8 ys) = omega (arith, length-take 8 xs, length-take 8 ys, long) in
    let backs : length (drop 8 xs) ≡ length (drop 8 ys) = omega (arith, length-drop 8 xs, length-drop 8 ys, long) in
    (λ i. low_first (take_either 8 xs ys long i) ∷ pack n (drop_either 8 xs ys long i))
    ∙ (λ i. low_either (take 8 xs) (take 8 ys) fronts i ∷ pack_either n (drop 8 xs) (drop 8 ys) backs i)

-- the bytes of both
pub packed_either : (xs ys : List Bool) → length xs ≡ length ys → packed (either_bits xs ys) ≡ joined_bytes (packed xs) (packed ys)
packed_either xs ys long =
    ap (λ (n : ℕ). pack ((n + 7) / 8) (either_bits xs ys)) (length_either xs ys long)
    ∙ pack_either ((length xs + 7) / 8) xs ys long
    ∙ ap (λ (n : ℕ). joined_bytes (packed xs) (pack ((n + 7) / 8) ys)) long

pub joined_none : (xs : List ℕ) → xs ≡ joined_bytes xs []
joined_none [] = refl
joined_none (x ∷ xs) = refl

join_more : (xs ys : List ℕ) (k : ℕ) → k < length xs → length xs ≡ length ys
    → set (joined_bytes xs (take k ys)) k (bit_or (slice_index (joined_bytes xs (take k ys)) k) (slice_index ys k)) ≡ joined_bytes xs (take (suc k) ys)
join_more [] ys k lt long = absurd (omega (arith, lt))
join_more (x ∷ xs) [] k lt long = absurd (omega (arith, long))
join_more (x ∷ xs) (y ∷ ys) zero lt long = ap (λ (l : List ℕ). bit_or x y ∷ l) (joined_none xs)
join_more (x ∷ xs) (y ∷ ys) (suc k) lt long = ap (λ (l : List ℕ). bit_or x y ∷ l) (join_more xs ys k (omega (arith, lt)) (omega (arith, long)))

-- a byte more
pub joined_more : (xs ys zs : List ℕ) (k : ℕ) → zs ≡ joined_bytes xs (take k ys) → k < length xs → length xs ≡ length ys
    → set zs k (bit_or (slice_index zs k) (slice_index ys k)) ≡ joined_bytes xs (take (k + 1) ys)
joined_more xs ys zs k is lt long =
    let one : suc k ≡ k + 1 = omega arith in
    ap (λ (l : List ℕ). set l k (bit_or (slice_index l k) (slice_index ys k))) is ∙ join_more xs ys k lt long ∙ ap (λ (j : ℕ). joined_bytes xs (take j ys)) one

-- ---- whether a bit is set

low_any : (bits : List Bool) → not (low_first bits == 0) ≡ list_any (λ b. b) bits
low_any [] = refl
low_any (true ∷ bits) = some (2 * low_first bits)
  where
    some : (n : ℕ) → not (1 + n == 0) ≡ true
    some n = ap not (ne_eqb (1 + n) 0 (λ none. omega (arith, none)))
low_any (false ∷ bits) = twice (low_first bits) ∙ low_any bits
  where
    twice : (n : ℕ) → not (0 + 2 * n == 0) ≡ not (n == 0)
    twice zero = refl
    twice (suc n) = ap not (ne_eqb (0 + 2 * suc n) 0 (λ none. omega (arith, none)) ∙ sym (ne_eqb (suc n) 0 (λ none. omega (arith, none))))

any_split : (n : ℕ) (bits : List Bool) → list_any (λ b. b) bits ≡ (list_any (λ b. b) (take n bits) || list_any (λ b. b) (drop n bits))
any_split zero bits = refl
any_split (suc n) [] = refl
any_split (suc n) (true ∷ bits) = refl
any_split (suc n) (false ∷ bits) = any_split n bits

any_pack : (n : ℕ) (bits : List Bool) → length bits ≤ 8 * n → list_any (λ b. not (b == 0)) (pack n bits) ≡ list_any (λ b. b) bits
any_pack zero bits le = ap (list_any (λ (b : Bool). b)) (sym (nil_from_length bits (omega (arith, le))))
any_pack (suc n) bits le =
    (λ i. low_any (take 8 bits) i || any_pack n (drop 8 bits) (omega (arith, length-drop 8 bits, le)) i)
    ∙ sym (any_split 8 bits)

pub any_packed : (bits : List Bool) → list_any (λ b. not (b == 0)) (packed bits) ≡ list_any (λ b. b) bits
any_packed bits = any_pack ((length bits + 7) / 8) bits (omega arith)

-- ---- what a list of truth values holds

pub bytes_size : (n : ℕ) (bytes : List ℕ) → bytes ≡ packed (unpack n bytes) → length bytes ≡ (n + 7) / 8
bytes_size n bytes own = ap length own ∙ (packed_is_packed (unpack n bytes)).size ∙ ap (λ (k : ℕ). (k + 7) / 8) (length_unpack n bytes)

-- bytes that were made of bits
pub made_own : (n : ℕ) (bits : List Bool) (bytes : List ℕ) → bytes ≡ packed bits → n ≡ length bits → bytes ≡ packed (unpack n bytes)
made_own n bits bytes is long = is ∙ ap packed (sym (unpack_packed bits) ∙ (λ i. unpack (sym long i) (sym is i)))

pub made_seen : (n : ℕ) (bits : List Bool) (bytes : List ℕ) → bytes ≡ packed bits → n ≡ length bits → unpack n bytes ≡ bits
made_seen n bits bytes is long = (λ i. unpack (long i) (is i)) ∙ unpack_packed bits

-- the bytes that were joined
pub joined_are : (xs ys zs : List ℕ) (a b : List Bool) → xs ≡ packed a → ys ≡ packed b → length a ≡ length b → zs ≡ joined_bytes xs ys → zs ≡ packed (either_bits a b)
joined_are xs ys zs a b x_is y_is long is = is ∙ (λ i. joined_bytes (x_is i) (y_is i)) ∙ sym (packed_either a b long)

-- what is written back over all bytes
pub written_back : (n : ℕ) (xs ys : List ℕ) → n ≡ length ys → length xs ≡ length ys → take n (xs ++ drop (length xs) ys) ≡ xs
written_back n xs ys count long =
    ap (λ (k : ℕ). take k (xs ++ drop (length xs) ys)) (count ∙ sym long) ∙ take_at xs (drop (length xs) ys) (length xs) refl
