-- Truth values as bits, eight to a byte.
use Rattle.std.specs.Prelude.{ℕ, zero, suc, ◌+◌, ◌*◌, ◌/◌, ◌%◌, ◌^◌, ◌==◌, Bool, List, [], ◌∷◌, length, map, take, drop, slice_index, bit_or, if◌then◌else◌}
use Rattle.std.specs.List.{range_with_len}

-- bit k of the bytes, the lowest bit of each byte first
abbrev pub bit : List ℕ → ℕ → Bool
bit bytes k = (slice_index bytes (k / 8) / 2 ^ (k % 8)) % 2 == 1

-- the first n bits
unfoldable pub unpack : ℕ → List ℕ → List Bool
unpack n bytes = map (bit bytes) (range_with_len 0 n)

-- the number whose bits these are, the lowest first
abbrev pub low_first : List Bool → ℕ
low_first [] = 0
low_first (b ∷ bs) = (if b then 1 else 0) + 2 * low_first bs

-- n bytes, of eight bits each
abbrev pub pack : ℕ → List Bool → List ℕ
pack zero bits = []
pack (suc n) bits = low_first (take 8 bits) ∷ pack n (drop 8 bits)

-- as many bytes as the bits fill, the last one padded with 0
abbrev pub packed : List Bool → List ℕ
packed bits = pack ((length bits + 7) / 8) bits

-- byte by byte, the bits that are set in one of the two
abbrev pub joined_bytes : List ℕ → List ℕ → List ℕ
joined_bytes [] ys = []
joined_bytes (x ∷ xs) [] = x ∷ xs
joined_bytes (x ∷ xs) (y ∷ ys) = bit_or x y ∷ joined_bytes xs ys
