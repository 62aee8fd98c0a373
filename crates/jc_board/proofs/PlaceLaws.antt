-- Two probes have two places.
use Rattle.std.proofs.Common.{◌≡◌, ◌⊎◌, ℕ, zero, suc, ◌+◌, ◌*◌, ◌/◌, ◌%◌, ◌^◌, ◌<◌, ◌≤◌, List, [], ◌∷◌, length, ap, refl, inl, inr, ⊎_elim, ◌∙◌, arith, div-add-mod'}
use Rattle.std.proofs.Math.Nat.{one-mul, mod-eq_of_lt}
use Rattle.std.proofs.lemmas.Nat.{pow_below}
use Rattle.std.specs.Prelude.{slice_index}
use Rattle.jc_programs.specs.Probes.{words_for, InRange}
use Rattle.jc_board.specs.Places.{room_for, words_of, first_word, word_at}

within_class : (n i : ℕ) → i < n → i / 64 < words_for n
within_class n i h = omega (arith, div-add-mod' i 64, div-add-mod' (n + 63) 64)

-- the words of class c lie in front of those of the classes behind it
pub word_below : (counts : List ℕ) (c i : ℕ) → InRange counts c i → word_at counts c i < words_of counts
word_below [] c i h = absurd (omega (arith, h.0))
word_below (n ∷ ns) zero i h = omega (arith, within_class n i h.1)
word_below (n ∷ ns) (suc c) i h = omega (arith, word_below ns c i (omega (arith, h.0), h.1))

-- two probes of one word are of one class
pub same_word : (counts : List ℕ) (c i d j : ℕ) → InRange counts c i → InRange counts d j → word_at counts c i ≡ word_at counts d j → (c ≡ d) × (i / 64 ≡ j / 64)
same_word [] c i d j h k w = absurd (omega (arith, h.0))
same_word (n ∷ ns) zero i zero j h k w = (refl, omega (arith, w))
same_word (n ∷ ns) zero i (suc d) j h k w = absurd (omega (arith, w, within_class n i h.1))
same_word (n ∷ ns) (suc c) i zero j h k w = absurd (omega (arith, w, within_class n j k.1))
same_word (n ∷ ns) (suc c) i (suc d) j h k w =
    let e = same_word ns c i d j (omega (arith, h.0), h.1) (omega (arith, k.0), k.1) (omega (arith, w)) in
    (ap suc e.0, e.1)

pub same_place : (counts : List ℕ) (c i d j : ℕ) → InRange counts c i → InRange counts d j → word_at counts c i ≡ word_at counts d j → i % 64 ≡ j % 64 → (c ≡ d) × (i ≡ j)
same_place counts c i d j h k w b =
    let e = same_word counts c i d j h k w in
    (e.0, omega (arith, e.1, b, div-add-mod' i 64, div-add-mod' j 64))

pub mask_is : (k : ℕ) → k < 64 → 1 * 2 ^ k % 18446744073709551616 ≡ 2 ^ k
mask_is k h = ap (λ n. n % 18446744073709551616) (one-mul (2 ^ k)) ∙ mod-eq_of_lt (pow_below k 64 h)

next_word : (counts : List ℕ) (c : ℕ) → c < length counts → first_word counts (suc c) ≡ first_word counts c + room_for (slice_index counts c)
next_word [] c h = absurd (omega (arith, h))
next_word (n ∷ []) zero h = omega arith
next_word (n ∷ m ∷ ns) zero h = omega arith
next_word (n ∷ ns) (suc c) h = omega (arith, next_word ns c (omega (arith, h)))

pub first_word_more : (counts : List ℕ) (c : ℕ) → c < length counts → first_word counts (c + 1) ≡ first_word counts c + room_for (slice_index counts c)
first_word_more counts c h = ap (first_word counts) (omega arith) ∙ next_word counts c h

pub first_word_first : (counts : List ℕ) → first_word counts 0 ≡ 0
first_word_first [] = refl
first_word_first (n ∷ ns) = refl

pub first_word_last : (counts : List ℕ) → first_word counts (length counts) ≡ words_of counts
first_word_last [] = refl
first_word_last (n ∷ ns) = omega (arith, first_word_last ns)

pub class_below : (counts : List ℕ) (c : ℕ) → c < length counts → first_word counts c + room_for (slice_index counts c) ≤ words_of counts
class_below [] c h = absurd (omega (arith, h))
class_below (n ∷ ns) zero h = omega arith
class_below (n ∷ ns) (suc c) h = omega (arith, class_below ns c (omega (arith, h)))

-- all words of a class lie in front of those of a class behind it
pub class_in_front : (counts : List ℕ) (c d : ℕ) → c < d → d < length counts → first_word counts c + room_for (slice_index counts c) ≤ first_word counts d
class_in_front [] c d lt h = absurd (omega (arith, h))
class_in_front (n ∷ ns) c zero lt h = absurd (omega (arith, lt))
class_in_front (n ∷ ns) zero (suc d) lt h = omega arith
class_in_front (n ∷ ns) (suc c) (suc d) lt h = omega (arith, class_in_front ns c d (omega (arith, lt)) (omega (arith, h)))

-- the words of a class lie in front of those of a class behind it
pub word_in_front : (counts : List ℕ) (c i d : ℕ) → InRange counts c i → c < d → d ≤ length counts → word_at counts c i < first_word counts d
word_in_front [] c i d h lt le = absurd (omega (arith, h.0))
word_in_front (n ∷ ns) c i zero h lt le = absurd (omega (arith, lt))
word_in_front (n ∷ ns) zero i (suc d) h lt le = omega (arith, within_class n i h.1)
word_in_front (n ∷ ns) (suc c) i (suc d) h lt le = omega (arith, word_in_front ns c i d (omega (arith, h.0), h.1) (omega (arith, lt)) (omega (arith, le)))

-- no probe lies in the words of a class that are behind those of its probes
pub none_between : (counts : List ℕ) (class c i : ℕ) → class < length counts → InRange counts c i
    → (word_at counts c i < first_word counts class + words_for (slice_index counts class))
    ⊎ (first_word counts class + room_for (slice_index counts class) ≤ word_at counts c i)
none_between [] class c i h r = absurd (omega (arith, h))
none_between (n ∷ ns) zero zero i h r = inl (omega (arith, within_class n i r.1))
none_between (n ∷ ns) zero (suc c) i h r = inr (omega arith)
none_between (n ∷ ns) (suc class) zero i h r = inl (omega (arith, within_class n i r.1))
none_between (n ∷ ns) (suc class) (suc c) i h r = ⊎_elim
    (λ low. inl (omega (arith, low)))
    (λ high. inr (omega (arith, high)))
    (none_between ns class c i (omega (arith, h)) (omega (arith, r.0), r.1))

pub first_word_le : (counts : List ℕ) (c : ℕ) → first_word counts c ≤ words_of counts
first_word_le [] c = omega arith
first_word_le (n ∷ ns) zero = omega arith
first_word_le (n ∷ ns) (suc c) = omega (arith, first_word_le ns c)
