-- What is written is execution data of the sessions by the time of their dump and the records that have a hit.
use Rattle.std.proofs.Common.{◌≡◌, inl, inr, ℕ, zero, suc, ◌+◌, ◌-◌, ◌*◌, ◌/◌, ◌%◌, ◌^◌, ◌<◌, ◌≤◌, ◌==◌, Bool, true, false, cond, List, [], ◌∷◌, ◌++◌, length, map, take, drop, filter, get_or, slice_index, ℤ, FitsSigned, w64, refl, sym, ◌∙◌, ap, arith, append_assoc}
use Rattle.std.specs.Int.{cast_signed, cast_unsigned}
use Rattle.std.proofs.Math.Facts.{Fits-of_z}
use Rattle.std.proofs.lemmas.Int.{to_z-of_z}
use Rattle.std.specs.List.{AllByRecursion, range_with_len, flat_map}
use Rattle.std.proofs.Math.Nat.{pow-suc, pow-succ', zero-div, div-div-eq-div-mul}
use Rattle.std.proofs.lemmas.Bool.{cases_lt, le-ltb, lt-ltb}
use Rattle.std.proofs.lemmas.List.{get_or-take, get_or-drop}
use Rattle.byteorder.specs.Numbers.{length-bytes_high_first, big_number-reads_back}
use Rattle.jc_bytes.specs.Decoder.{IsBig}
use Rattle.jc_bytes.specs.Modified.{IsModified}
use Rattle.jc_exec.specs.declared.hits.ClassHits.{ClassHits}
use Rattle.jc_exec.specs.declared.session.Session.{Session}
use Rattle.jc_exec.specs.Format.{Block, header, session, class, header_text, bit, unpack, IsPacked, IsCount, IsTime, IsSessionBlock, IsClassBlock, AreBlocks, Blocks}
use Rattle.jc_exec.specs.Store.{Store, IsSmall, IsWritable, IsWritableClass}
use Rattle.jc_exec.specs.Union.{IsUnion}
use Rattle.jc_exec.specs.Refusing.{blocks_of, OneOfEachId}
use Rattle.jc_exec.specs.Writing.{low_first, pack, packed, id_text, size_text, shortest, count_text, time_text, class_text, session_text, by_dump, is_hit, exec_text, FitsFormat, written}
use Rattle.jc_exec.proofs.UnionLaws.{all_filter}
use Rattle.jc_exec.proofs.SessionLaws.{all_by_dump}
use Rattle.jc_exec.proofs.StoringLaws.{own_union, one_filter}

-- ---- numbers

pub id_is_big : (id : ℕ) → id < 2 ^ 64 → IsBig 8 (id_text id) id
unfolding id_text
id_is_big id small = record { size = length-bytes_high_first 8 id; value = big_number-reads_back 8 id [] small }

pub size_is_big : (n : ℕ) → n < 65536 → IsBig 2 (size_text n) n
unfolding size_text
size_is_big n small = record { size = length-bytes_high_first 2 n; value = big_number-reads_back 2 n [] small }

longer : (b high n : ℕ) (text : List ℕ) → 128 ≤ b → n + 128 ≡ b + 128 * high → IsCount text high → IsCount (b ∷ text) n
longer b high n [] big value none = absurd none
longer b high n (c ∷ text) big value count = (big, high, value, count)

shortest_is_count : (k n : ℕ) → n < 128 ^ (k + 1) → IsCount (shortest k n) n × (length (shortest k n) ≤ k + 1)
shortest_is_count zero n fits = ((omega (arith, fits), refl), omega arith)
shortest_is_count (suc k) n fits = elim (cases_lt n 128) [
  | inl below ↦ rw (lt-ltb n 128 below) ((below, refl), omega arith)
  | inr long ↦
      let power : 128 ^ (suc k + 1) ≡ 128 ^ (k + 1) * 128 = (let same : suc k + 1 ≡ suc (k + 1) = omega arith in ap (λ (j : ℕ). 128 ^ j) same ∙ pow-suc 128 (k + 1)) in
      let rest = shortest_is_count k (n / 128) (omega (arith, fits, power)) in
      rw (le-ltb n 128 long) (longer (n % 128 + 128) (n / 128) n (shortest k (n / 128)) (omega arith) (omega arith) rest.0, omega (arith, rest.1))
]

pub count_is_count : (n : ℕ) → n < 65536 → IsCount (count_text n) n × (length (count_text n) ≤ 5)
unfolding count_text
count_is_count n small = shortest_is_count 4 n (omega (arith, small))

-- ---- bits

-- bit i of a number is a bit of the list that it was made of
low_bit : (bits : List Bool) (i : ℕ) → ((low_first bits / 2 ^ i) % 2 == 1) ≡ get_or bits i false
low_bit [] i = ap (λ (n : ℕ). n % 2 == 1) (zero-div (2 ^ i))
low_bit (true ∷ bs) zero = let odd : ((1 + 2 * low_first bs) / 1) % 2 ≡ 1 = omega arith in rw odd refl
low_bit (false ∷ bs) zero = let even : ((0 + 2 * low_first bs) / 1) % 2 ≡ 0 = omega arith in rw even refl
low_bit (b ∷ bs) (suc i) =
    let n = low_first (b ∷ bs) in
    let shifted : n / 2 ^ suc i ≡ n / 2 / 2 ^ i = ap (λ (m : ℕ). n / m) (pow-succ' 2 i) ∙ sym (div-div-eq-div-mul n 2 (2 ^ i)) in
    ap (λ (m : ℕ). m % 2 == 1) (shifted ∙ ap (λ (m : ℕ). m / 2 ^ i) (half b (low_first bs))) ∙ low_bit bs i
  where
    half : (b : Bool) (n : ℕ) → (cond b 1 0 + 2 * n) / 2 ≡ n
    half true n = omega arith
    half false n = omega arith

length_pack : (n : ℕ) (bits : List Bool) → length (pack n bits) ≡ n
length_pack zero bits = refl
length_pack (suc n) bits = ap suc (length_pack n (drop 8 bits))

bit_behind : (b : ℕ) (bytes : List ℕ) (k j : ℕ) → k ≡ 8 + j → bit (b ∷ bytes) k ≡ bit bytes j
bit_behind b bytes k j e =
    let byte : k / 8 ≡ suc (j / 8) = omega (arith, e) in
    let same : k % 8 ≡ j % 8 = omega (arith, e) in
    ap (λ (m : ℕ). (slice_index (b ∷ bytes) m / 2 ^ (k % 8)) % 2 == 1) byte
    ∙ ap (λ (m : ℕ). (slice_index bytes (j / 8) / 2 ^ m) % 2 == 1) same

bit_first : (b : ℕ) (bytes : List ℕ) (k : ℕ) → k < 8 → bit (b ∷ bytes) k ≡ ((b / 2 ^ k) % 2 == 1)
bit_first b bytes k lt =
    let byte : k / 8 ≡ 0 = omega (arith, lt) in
    let same : k % 8 ≡ k = omega (arith, lt) in
    ap (λ (m : ℕ). (slice_index (b ∷ bytes) m / 2 ^ (k % 8)) % 2 == 1) byte
    ∙ ap (λ (m : ℕ). (b / 2 ^ m) % 2 == 1) same

bit_packed : (n : ℕ) (bits : List Bool) (k : ℕ) → k < 8 * n → bit (pack n bits) k ≡ get_or bits k false
bit_packed zero bits k lt = absurd (omega (arith, lt))
bit_packed (suc n) bits k lt = elim (cases_lt k 8) [
  | inl front ↦ bit_first (low_first (take 8 bits)) (pack n (drop 8 bits)) k front ∙ low_bit (take 8 bits) k ∙ get_or-take 8 bits k false front
  | inr back ↦
      let j = k - 8 in
      let is : k ≡ 8 + j = omega (arith, back) in
      bit_behind (low_first (take 8 bits)) (pack n (drop 8 bits)) k j is
      ∙ bit_packed n (drop 8 bits) j (omega (arith, lt, back))
      ∙ get_or-drop 8 bits j false
      ∙ ap (λ (m : ℕ). get_or bits m false) (sym is)
]

same_bits : (f : ℕ → Bool) (a : ℕ) (xs : List Bool) → ((k : ℕ) → k < length xs → f (a + k) ≡ get_or xs k false) → map f (range_with_len a (length xs)) ≡ xs
same_bits f a [] same = refl
same_bits f a (x ∷ xs) same =
    let here : a + 0 ≡ a = omega arith in
    λ i. (ap f (sym here) ∙ same 0 (omega arith)) i ∷ same_bits f (a + 1) xs (λ k lt. let next : (a + 1) + k ≡ a + suc k = omega arith in ap f next ∙ same (suc k) (omega (arith, lt))) i

pub packed_is_packed : (bits : List Bool) → IsPacked (packed bits) bits
unfolding unpack
packed_is_packed bits = record {
  size = length_pack ((length bits + 7) / 8) bits;
  unpacked = same_bits (bit (packed bits)) 0 bits (λ k lt. let start : 0 + k ≡ k = omega arith in ap (bit (packed bits)) start ∙ bit_packed ((length bits + 7) / 8) bits k (omega (arith, lt)));
}

-- ---- records

pub class_text_is_block : (c : ClassHits) → IsSmall c → IsModified c.name → IsClassBlock (class_text c) c
class_text_is_block c small text =
    let count = count_is_count (length c.bits) small.bits in (
      record { id = id_text c.id; size = size_text (length c.name); name = c.name; count = count_text (length c.bits); bits = packed c.bits },
      refl,
      record {
        id = id_is_big c.id small.id;
        size = size_is_big (length c.name) small.name;
        name = refl;
        text = text;
        count = count.0;
        few = count.1;
        small = omega (arith, small.bits);
        bits = packed_is_packed c.bits;
      },
    )

-- ---- sessions

time_is_time : (t : ℤ) → FitsSigned w64 t → IsTime (time_text t) t
time_is_time t fits =
    let big = id_is_big (cast_unsigned w64 t) (Fits-of_z fits).fits in
    record { size = big.size; value = ap (cast_signed w64) big.value ∙ to_z-of_z w64 t fits }

pub session_text_is_block : (s : Session) → IsWritable s → IsSessionBlock (session_text s) s
session_text_is_block s w = (
  record { size = size_text (length s.id); id = s.id; start = time_text s.start; dump = time_text s.dump },
  refl,
  record { size = size_is_big (length s.id) w.size; id = refl; text = w.text; start = time_is_time s.start w.start; dump = time_is_time s.dump w.dump },
)

-- ---- the whole text

classes_are_blocks : (cs : List ClassHits) → AllByRecursion IsWritableClass cs → AreBlocks (flat_map class_text cs) (map class cs)
classes_are_blocks [] all = refl
classes_are_blocks (c ∷ cs) all = (class_text c, flat_map class_text cs, refl, class_text_is_block c all.0.0 all.0.1, classes_are_blocks cs all.1)

sessions_are_blocks : (ss : List Session) (text : List ℕ) (bs : List Block) → AllByRecursion IsWritable ss → AreBlocks text bs
    → AreBlocks (flat_map session_text ss ++ text) (map session ss ++ bs)
sessions_are_blocks [] text bs all rest = rest
sessions_are_blocks (s ∷ ss) text bs all rest =
    (session_text s, flat_map session_text ss ++ text, append_assoc (session_text s) (flat_map session_text ss) text, session_text_is_block s all.0, sessions_are_blocks ss text bs all.1 rest)

pub written_blocks : (store : Store) → FitsFormat store → Blocks (exec_text store) (header ∷ blocks_of (written store))
written_blocks store fits = record {
  begins = tt;
  whole = (
    header_text,
    flat_map session_text (by_dump store.sessions) ++ flat_map class_text (filter is_hit store.classes),
    refl,
    refl,
    sessions_are_blocks (by_dump store.sessions) (flat_map class_text (filter is_hit store.classes)) (map class (filter is_hit store.classes))
        (all_by_dump IsWritable store.sessions fits.sessions)
        (classes_are_blocks (filter is_hit store.classes) (all_filter IsWritableClass is_hit store.classes fits.classes)),
  );
}

pub written_union : (store : Store) → OneOfEachId store.classes → IsUnion (header ∷ blocks_of (written store)) (written store)
written_union store one =
    let own = own_union (written store) (one_filter is_hit store.classes one) in
    record { sessions = own.sessions; ids = own.ids; merged = own.merged }
