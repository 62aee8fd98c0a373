-- Sets of probes that are known to be hit: the empty one, and one probe more.
use Rattle.std.proofs.Common.{◌≡◌, ℕ, zero, suc, ◌%◌, ◌^◌, ◌≤◌, List, [], ◌∷◌, ◌++◌, length, replicate, get_or, set, ap, sym, refl, inl, inr, ⊎_elim, ◌∙◌, subst, arith}
use Rattle.std.specs.Prelude.{Contains, slice_index, bit_or, ◌==◌, true, false}
use Rattle.std.specs.List.{list_any}
use Rattle.std.proofs.lemmas.Bool.{false≢true, and_parts, and_from, or_cases, or_left, or_right, eqb-true, eq-eqb}
use Rattle.std.proofs.lemmas.List.Folds.{list_any-append}
use Rattle.std.specs.Int.{bit_at}
use Rattle.std.proofs.lemmas.Nat.Bits.{bit_at-zero}
use Rattle.jc_programs.specs.Probes.{InRange}
use Rattle.jc_board.specs.Places.{words_of, word_at}
use Rattle.jc_board.specs.Rule.{IsSet}
use Rattle.jc_board.specs.Known.{KnownSeen, Knows, IsEmpty, Adds, is_of, Remembers}
use Rattle.jc_board.proofs.BitLaws.{with_bit, bit_here, bit_more, bit_less}

-- no bit is set in words that are 0
pub empty : (counts : List ℕ) (known : KnownSeen) → known.counts ≡ counts → ((k : ℕ) → slice_index known.words k ≡ 0) → IsEmpty counts known
empty counts known same zeros = record {
  same_counts = same;
  none = λ c i h.
      let none : ⊥ = omega (arith, sym (ap (λ n. bit_at n (i % 64)) (zeros (word_at known.counts c i))) ∙ h.is_set, bit_at-zero (i % 64)) in
      none;
}

zero_words : (n k : ℕ) → slice_index (replicate n 0) k ≡ 0
zero_words zero k = refl
zero_words (suc n) zero = refl
zero_words (suc n) (suc k) = zero_words n k

-- all words are cleared
pub emptied : (counts words : List ℕ) (n : ℕ) → words ≡ replicate n 0 → IsEmpty counts (record { counts = counts; words = words })
emptied counts words n zeros =
    empty counts (record { counts = counts; words = words }) refl (λ k. ap (λ (l : List ℕ). slice_index l k) zeros ∙ zero_words n k)

-- the bit of one probe is set
pub added : (counts words after : List ℕ) (word c i : ℕ) → words_of counts ≤ length words → InRange counts c i → word ≡ word_at counts c i
    → after ≡ set words word (bit_or (get_or words word 0) (2 ^ (i % 64)))
    → Adds c i (record { counts = counts; words = words }) (record { counts = counts; words = after })
added counts words after word c i enough range at is =
    let marked : List ℕ = with_bit counts words enough c i range in
    let same : after ≡ marked = is ∙ ap (λ n. set words n (bit_or (get_or words n 0) (2 ^ (i % 64)))) at in
    record {
      same_counts = refl;
      knows = λ d j. (
        λ h. ⊎_elim
            (λ old. inl (record { in_range = h.in_range; is_set = old }))
            (λ new. inr new)
            (bit_less counts words enough c i range d j h.in_range (subst (λ (l : List ℕ). IsSet counts l d j) same h.is_set)),
        λ h. ⊎_elim
            (λ old. record {
              in_range = old.in_range;
              is_set = subst (λ (l : List ℕ). IsSet counts l d j) (sym same) (bit_more counts words enough c i range d j old.in_range old.is_set);
            })
            (λ e. subst (λ (x : ℕ × ℕ). Knows (record { counts = counts; words = after }) x.0 x.1) (λ n. (sym e.0 n, sym e.1 n)) (record {
              in_range = range;
              is_set = subst (λ (l : List ℕ). IsSet counts l c i) (sym same) (bit_here counts words enough c i range);
            }))
            h,
      );
    }

-- none of the empty set needs to be hit
pub remembers_empty : (counts : List ℕ) (hits : List (ℕ × ℕ)) (known : KnownSeen) → IsEmpty counts known → Remembers counts hits known
remembers_empty counts hits known k = record { same_counts = k.same_counts; are_hits = λ c i h. absurd (k.none c i h) }

-- what is among the hits is in their list
among_is : (hits : List (ℕ × ℕ)) (c i : ℕ) → list_any (is_of c i) hits ≡ true → Contains hits (c, i)
among_is [] c i h = absurd (false≢true h)
among_is (x ∷ xs) c i h = ⊎_elim
    (λ first.
    let same = and_parts (x.0 == c) (x.1 == i) first in
    (0, omega arith, λ n. (eqb-true x.0 c same.0 n, eqb-true x.1 i same.1 n)))
    (λ rest. let there = among_is xs c i rest in (suc there.0, omega (arith, there.1), there.2))
    (or_cases (is_of c i x) (list_any (is_of c i) xs) h)

-- a probe that is in the set was hit
pub known_hit : (counts : List ℕ) (hits : List (ℕ × ℕ)) (known : KnownSeen) (class id : ℕ) → Remembers counts hits known → Knows known class id
    → Contains hits (class, id)
known_hit counts hits known class id k h = among_is hits class id (k.are_hits class id h)

-- a probe is hit, and added to the set
pub remembers_hit : (counts : List ℕ) (hits after : List (ℕ × ℕ)) (known new : KnownSeen) (class id : ℕ) → Remembers counts hits known
    → Adds class id known new → after ≡ hits ++ (class, id) ∷ [] → Remembers counts after new
remembers_hit counts hits after known new class id k adds is = record {
  same_counts = adds.same_counts ∙ k.same_counts;
  are_hits = λ c i h. ap (list_any (is_of c i)) is ∙ (list_any-append (is_of c i) hits ((class, id) ∷ []) ∙ ⊎_elim
      (λ old. or_left (list_any (is_of c i) hits) (list_any (is_of c i) ((class, id) ∷ [])) (k.are_hits c i old))
      (λ e. or_right (list_any (is_of c i) hits) (list_any (is_of c i) ((class, id) ∷ []))
      (or_left (is_of c i (class, id)) false (and_from (class == c) (id == i) (eq-eqb class c (sym e.0)) (eq-eqb id i (sym e.1)))))
      ((adds.knows c i).0 h));
}
