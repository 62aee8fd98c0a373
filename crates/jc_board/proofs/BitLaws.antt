-- One bit more in the words of a board.
use Rattle.std.proofs.Common.{◌≡◌, ◌⊎◌, ℕ, ◌%◌, ◌^◌, ◌<◌, ◌≤◌, List, length, get_or, set, sym, ap, inl, inr, ◌∙◌, arith}
use Rattle.std.proofs.lemmas.List.{get_or-set_same, get_or-set_other}
use Rattle.std.specs.Prelude.{bit_or}
use Rattle.std.specs.Int.{bit_at}
use Rattle.std.proofs.lemmas.Nat.Bits.{bit_at_or, bit_at-pow_same, bit_at-pow_other, bit_at-lt}
use native.Mathlib.Decide.{ℕ_discrete}
use Rattle.jc_programs.specs.Probes.{InRange}
use Rattle.jc_board.specs.Places.{words_of, word_at}
use Rattle.jc_board.specs.Rule.{IsSet}
use Rattle.jc_board.proofs.PlaceLaws.{word_below, same_place}

-- the words with the bit of one probe set
module _ (counts words : List ℕ) (enough : words_of counts ≤ length words) (c i : ℕ) (range : InRange counts c i) where
  abbrev pub with_bit : List ℕ
  with_bit = set words (word_at counts c i) (bit_or (get_or words (word_at counts c i) 0) (2 ^ (i % 64)))

  pub bit_here : IsSet counts with_bit c i
  bit_here =
      let w = word_at counts c i in
      let lt : w < length words = omega (arith, enough, word_below counts c i range) in
      let x = bit_or (get_or words w 0) (2 ^ (i % 64)) in
      ap (λ n. bit_at n (i % 64)) (get_or-set_same words w x 0 lt) ∙ bit_at_or (get_or words w 0) (2 ^ (i % 64)) (i % 64)
      ∙ omega (arith, bit_at-pow_same (i % 64), bit_at-lt (get_or words w 0) (i % 64))

  pub bit_more : (d j : ℕ) → InRange counts d j → IsSet counts words d j → IsSet counts with_bit d j
  bit_more d j r s =
      let w = word_at counts c i in
      let lt : w < length words = omega (arith, enough, word_below counts c i range) in
      let x = bit_or (get_or words w 0) (2 ^ (i % 64)) in
      elim (ℕ_discrete (word_at counts d j) w) as (λ _. IsSet counts (set words w x) d j) [
        | yes e ↦ ap (λ n. bit_at (get_or (set words w x) n 0) (j % 64)) e ∙ ap (λ n. bit_at n (j % 64)) (get_or-set_same words w x 0 lt) ∙ bit_at_or (get_or words w 0) (2 ^ (i % 64)) (j % 64)
            ∙ omega (arith, ap (λ n. bit_at (get_or words n 0) (j % 64)) e, s, bit_at-lt (2 ^ (i % 64)) (j % 64))
        | no ne ↦ ap (λ n. bit_at n (j % 64)) (get_or-set_other words w (word_at counts d j) x 0 ne) ∙ s
      ]

  pub bit_less : (d j : ℕ) → InRange counts d j → IsSet counts with_bit d j → IsSet counts words d j ⊎ ((d ≡ c) × (j ≡ i))
  bit_less d j r s =
      let w = word_at counts c i in
      let lt : w < length words = omega (arith, enough, word_below counts c i range) in
      let x = bit_or (get_or words w 0) (2 ^ (i % 64)) in
      elim (ℕ_discrete (word_at counts d j) w) as (λ _. IsSet counts words d j ⊎ ((d ≡ c) × (j ≡ i))) [
        | yes e ↦ elim (ℕ_discrete (j % 64) (i % 64)) as (λ _. IsSet counts words d j ⊎ ((d ≡ c) × (j ≡ i))) [
          | yes same ↦ inr (same_place counts d j c i r range e same)
          | no apart ↦ inl (omega (
            arith,
            ap (λ n. bit_at (get_or words n 0) (j % 64)) e,
            ap (λ n. bit_at (get_or (set words w x) n 0) (j % 64)) e,
            s,
            ap (λ n. bit_at n (j % 64)) (get_or-set_same words w x 0 lt),
            bit_at_or (get_or words w 0) (2 ^ (i % 64)) (j % 64),
            bit_at-pow_other (i % 64) (j % 64) apart,
          ))
        ]
        | no ne ↦ inl (ap (λ n. bit_at n (j % 64)) (sym (get_or-set_other words w (word_at counts d j) x 0 ne)) ∙ s)
      ]
