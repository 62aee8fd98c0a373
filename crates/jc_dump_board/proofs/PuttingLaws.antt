-- One bit more of a word is put into a set of hits.
use Rattle.std.proofs.Common.{◌≡◌, ◌≢◌, ◌⊎◌, ℕ, ◌+◌, ◌%◌, ◌<◌, ◌≤◌, List, [], Bool, length, get_or, sym, ap, inl, inr, ⊎_elim, ◌∙◌, subst, arith}
use Rattle.std.specs.Prelude.{◌↔◌}
use Rattle.std.specs.Int.{bit_at}
use Rattle.std.proofs.lemmas.List.{length-map}
use native.Mathlib.Decide.{ℕ_discrete}
use Rattle.jc_programs.specs.Probes.{counts_of, IsHit}
use Rattle.jc_board.proofs.HitSetLaws.{length_at, with_set, counts_of-with_set, set_hit, set_more, set_less}

-- the bit of the probe, among the first so many of a word that begins with probe `first` of the class
abbrev pub IsBit : (bits class first below c i : ℕ) → Type 0
IsBit bits class first below c i = (c ≡ class) × (first ≤ i) × (i < first + below) × (bit_at bits (i % 64) ≡ 1)

abbrev pub Puts : (bits class first below : ℕ) (was now : List (List Bool)) → Type 0
Puts bits class first below was now = (counts_of now ≡ counts_of was) × ((c i : ℕ) → IsHit now c i ↔ (IsHit was c i ⊎ IsBit bits class first below c i))

pub puts_none : (bits class first : ℕ) (was : List (List Bool)) → Puts bits class first 0 was was
puts_none bits class first was = (λ _. counts_of was, λ c i. ((λ h. inl h), (λ h. ⊎_elim (λ x. x) (λ t. let low = t.1 in let high = t.2 in absurd (omega (arith, low, high))) h)))

module _ (bits class first below : ℕ) (was into now : List (List Bool)) (k : Puts bits class first below was into) where
  more : (c i : ℕ) → IsBit bits class first below c i → IsBit bits class first (below + 1) c i
  more c i t = let high = t.2 in (t.0, t.1, omega (arith, high), t.3)

  pub puts_unset : now ≡ into → (bit_at bits ((first + below) % 64) ≡ 1 → ⊥) → Puts bits class first (below + 1) was now
  puts_unset same not = subst (Puts bits class first (below + 1) was) (sym same) (
    k.0,
    λ c i. (
      (λ h. ⊎_elim (λ x. inl x) (λ t. inr (more c i t)) ((k.1 c i).0 h)),
      (λ h. (k.1 c i).1 (⊎_elim (λ x. inl x) (λ t. let high = t.2 in
          let ne : i ≢ first + below = λ e. not (subst (λ j. bit_at bits (j % 64) ≡ 1) e t.3) in
          inr (t.0, t.1, omega (arith, high, ne), t.3)) h)),
    ),
  )

  pub puts_set : now ≡ with_set into class (first + below) → bit_at bits ((first + below) % 64) ≡ 1 → class < length into
      → first + below < length (get_or into class []) → Puts bits class first (below + 1) was now
  puts_set new it in_class in_row =
      let id = first + below in
      subst (Puts bits class first (below + 1) was) (sym new) (
        counts_of-with_set into class id ∙ k.0,
        λ c i. (
          (λ h. ⊎_elim
              (λ old. ⊎_elim (λ x. inl x) (λ t. inr (more c i t)) ((k.1 c i).0 old))
              (λ e. let at = e.1 in inr (e.0, omega (arith, at), omega (arith, at), subst (λ j. bit_at bits (j % 64) ≡ 1) (sym e.1) it))
              (set_less into class id in_class in_row c i h)),
          (λ h. ⊎_elim
              (λ x. set_more into class id in_class in_row c i ((k.1 c i).1 (inl x)))
              (λ t. let high = t.2 in elim (ℕ_discrete i id) as (λ _. IsHit (with_set into class id) c i) [
                | yes e ↦ subst (λ (x : ℕ × ℕ). IsHit (with_set into class id) x.0 x.1) (λ n. (sym t.0 n, sym e n)) (set_hit into class id in_class in_row)
                | no ne ↦ set_more into class id in_class in_row c i ((k.1 c i).1 (inr (t.0, t.1, omega (arith, high, ne), t.3)))
              ])
              h),
        ),
      )

-- the class of a set that has these counts
pub row_is : (counts : List ℕ) (into : List (List Bool)) (class : ℕ) → counts_of into ≡ counts → class < length counts → (class < length into) × (length (get_or into class []) ≡ get_or counts class 0)
row_is counts into class same lt = (omega (arith, ap length same, length-map into length, lt), length_at into class ∙ ap (λ (l : List ℕ). get_or l class 0) same)
