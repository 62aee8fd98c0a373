-- The first place below a bound, for more facts.
use Rattle.std.proofs.Common.{◌≡◌, ◌⊎◌, inl, inr, ⊎_elim, ℕ, ◌<◌, subst, sym, arith}
use Rattle.std.proofs.lemmas.Bool.{cases_lt}
use Rattle.jc_kinds.specs.First.{IsFirstOrBound}

-- nothing holds anywhere
pub none_first : {F : ℕ → Type 0} (bound : ℕ) → ((i : ℕ) → F i → ⊥) → IsFirstOrBound F bound bound
none_first bound none = record { within = omega arith; free = λ i lt f. none i f; found = λ lt. absurd (omega (arith, lt)) }

-- something else that holds at the same places
pub instead_first : {F G : ℕ → Type 0} (bound result : ℕ) → ((i : ℕ) → i < bound → F i → G i) → ((i : ℕ) → i < bound → G i → F i) → IsFirstOrBound F bound result → IsFirstOrBound G bound result
instead_first bound result to back first = record {
  within = first.within;
  free = λ i lt g. first.free i lt (back i (omega (arith, lt, first.within)) g);
  found = λ lt. to result lt (first.found lt);
}

-- the first place of either
pub either_first : {F G : ℕ → Type 0} (bound middle result : ℕ) → IsFirstOrBound F bound middle → IsFirstOrBound G middle result → IsFirstOrBound (λ i. F i ⊎ G i) bound result
either_first {F} {G} bound middle result one other = record {
  within = omega (arith, one.within, other.within);
  free = λ i lt h. ⊎_elim (λ f. one.free i (omega (arith, lt, other.within)) f) (λ g. other.free i lt g) h;
  found = λ lt. ⊎_elim
      (λ less. inr (other.found less))
      (λ le. let same : result ≡ middle = omega (arith, le, other.within) in inl (subst F (sym same) (one.found (omega (arith, lt, same)))))
      (cases_lt result middle);
}
