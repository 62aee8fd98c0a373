-- Offsets of instructions that begin one behind the other.
use Rattle.std.proofs.Common.{◌⊎◌, inl, inr, ℕ, zero, suc, ◌+◌, ◌<◌, ◌≤◌, List, [], ◌∷◌, length, get_or, ap, arith}
use Rattle.std.specs.Prelude.{slice_index}
use Rattle.std.proofs.lemmas.Bool.{cases_lt}
use Rattle.std.proofs.lemmas.List.{get_or_past}
use Rattle.jc_methods.specs.declared.insn.Insn.{Insn}
use Rattle.jc_methods.specs.Widened.{WideSet}
use Rattle.jc_insn.specs.Sizes.{size_of, StartFrom, StartAt}
use Rattle.jc_insn.proofs.SizeSumsLaws.{above_first, below_last, count_starts, first_start, some_size}

module _ (wide : WideSet) where
  -- offsets don't fall
  from_first : (n at : ℕ) (code : List Insn) (starts : List ℕ) → StartFrom wide n at code starts → (j : ℕ) → j ≤ length code
      → slice_index starts 0 ≤ slice_index starts j
  from_first n at code starts s j within =
      let first = first_start wide n at code starts s in
      let long = count_starts wide n at code starts s in
      let above = above_first wide n at code starts s j (omega (arith, long, within)) in
      omega (arith, first, above)

  grow_from : (n at : ℕ) (code : List Insn) (starts : List ℕ) → StartFrom wide n at code starts → (i j : ℕ) → i ≤ j → j ≤ length code
      → slice_index starts i ≤ slice_index starts j
  grow_from n at [] starts s zero j le within = from_first n at [] starts s j within
  grow_from n at [] starts s (suc i) j le within = absurd (omega (arith, le, within))
  grow_from n at (insn ∷ code) starts s zero j le within = from_first n at (insn ∷ code) starts s j within
  grow_from n at (insn ∷ code) starts s (suc i) zero le within = absurd (omega (arith, le))
  grow_from n at (insn ∷ code) starts (later, is, more) (suc i) (suc j) le within =
      let low = ap (λ (l : List ℕ). get_or l (suc i) 0) is in
      let high = ap (λ (l : List ℕ). get_or l (suc j) 0) is in
      let rest = grow_from (suc n) (at + size_of at (wide n) insn) code later more i j (omega (arith, le)) (omega (arith, within)) in
      omega (arith, low, high, rest)

  pub starts_grow : (code : List Insn) (starts : List ℕ) → StartAt wide code starts → (i j : ℕ) → i ≤ j → j ≤ length code
      → slice_index starts i ≤ slice_index starts j
  starts_grow code starts s i j le within = grow_from 0 0 code starts s i j le within

  -- none of them is above that of the end
  pub most_start : (code : List Insn) (starts : List ℕ) → StartAt wide code starts → (k : ℕ)
      → slice_index starts k ≤ slice_index starts (length code)
  most_start code starts s k = by (cases_lt k (length starts))
    where
      by : (k < length starts) ⊎ (length starts ≤ k) → slice_index starts k ≤ slice_index starts (length code)
      by (inl below) = below_last wide 0 0 code starts s k below
      by (inr past) = let none = get_or_past starts k 0 past in omega (arith, none)

  -- code with an instruction has a byte
  pub some_bytes : (code : List Insn) (starts : List ℕ) → StartAt wide code starts → 1 ≤ length code → 0 < slice_index starts (length code)
  some_bytes [] starts s some = absurd (omega (arith, some))
  some_bytes (insn ∷ code) starts (later, is, more) some =
      let next = 0 + size_of 0 (wide 0) insn in
      let end = ap (λ (l : List ℕ). get_or l (suc (length code)) 0) is in
      let long = count_starts wide 1 next code later more in
      let above = above_first wide 1 next code later more (length code) (omega (arith, long)) in
      let size = some_size 0 (wide 0) insn in
      omega (arith, end, above, size)
