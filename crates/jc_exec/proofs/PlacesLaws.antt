-- Where class ids stand in the index of their places.
use Rattle.std.proofs.Common.{inl, inr, ◌≡◌, ◌≢◌, ◌⊎◌, ℕ, ◌+◌, ◌<◌, ◌^◌, List, [], ◌∷◌, ◌++◌, length, slice_index, sym, ◌∙◌, subst, arith, length-append}
use Rattle.std.specs.BTreeMap.{BTreeMap}
use Rattle.std.proofs.Math.ListN.{get_or-append}
use Rattle.std.proofs.lemmas.Bool.{cases_eq}
use Rattle.std.proofs.lemmas.List.{get_or_push}
use Rattle.jc_exec.specs.Places.{window, Reaches, ReachesAll, AreApart, AreIndexed}

-- the ids still are, whatever was laid for an id that is none of them
pub still_reached : (ids slots later : List ℕ) (others more : BTreeMap ℕ ℕ) (id : ℕ) → ((place : ℕ) → place < length ids → slice_index ids place ≢ id)
    → ReachesAll slots others ids (length ids) → ((other at : ℕ) → other ≢ id → Reaches slots others other at → Reaches later more other at)
    → ReachesAll later more ids (length ids)
still_reached ids slots later others more id absent all rest = λ k lt. rest (slice_index ids k) k (absent k lt) (all k lt)

pub indexed_push : (ids slots : List ℕ) (others : BTreeMap ℕ ℕ) (id : ℕ) → window < length slots → length ids + 1 < 2 ^ 32
    → ((place : ℕ) → place < length ids → slice_index ids place ≢ id) → AreApart ids → ReachesAll slots others ids (length ids) → Reaches slots others id (length ids)
    → AreIndexed (ids ++ id ∷ []) slots others
indexed_push ids slots others id room few absent apart all own = record {
  room = λ some. room;
  reaches = λ k lt. at k (omega (arith, lt, long)) (cases_eq k (length ids));
  apart = λ i j il jl same. twice i j (omega (arith, il, long)) (omega (arith, jl, long)) (cases_eq i (length ids)) (cases_eq j (length ids)) same;
  few = omega (arith, few, long);
}
  where
    long : length (ids ++ id ∷ []) ≡ length ids + 1
    long = length-append ids (id ∷ [])

    old : (k : ℕ) → k < length ids → slice_index (ids ++ id ∷ []) k ≡ slice_index ids k
    old k lt = get_or-append ids (id ∷ []) 0 k lt

    last : (k : ℕ) → k ≡ length ids → slice_index (ids ++ id ∷ []) k ≡ id
    last k is = get_or_push ids id 0 k (sym is)

    at : (k : ℕ) → k < length ids + 1 → (k ≡ length ids) ⊎ (k ≢ length ids) → Reaches slots others (slice_index (ids ++ id ∷ []) k) k
    at k lt (inl is) = subst (λ (x : ℕ). Reaches slots others x k) (sym (last k is)) (subst (λ (n : ℕ). Reaches slots others id n) (sym is) own)
    at k lt (inr other) = let below : k < length ids = omega (arith, lt, other) in subst (λ (x : ℕ). Reaches slots others x k) (sym (old k below)) (all k below)

    twice : (i j : ℕ) → i < length ids + 1 → j < length ids + 1 → (i ≡ length ids) ⊎ (i ≢ length ids) → (j ≡ length ids) ⊎ (j ≢ length ids)
        → slice_index (ids ++ id ∷ []) i ≡ slice_index (ids ++ id ∷ []) j → i ≡ j
    twice i j il jl (inl a) (inl b) same = a ∙ sym b
    twice i j il jl (inl a) (inr b) same =
        let below : j < length ids = omega (arith, jl, b) in absurd (absent j below (sym (old j below) ∙ sym same ∙ last i a))
    twice i j il jl (inr a) (inl b) same =
        let below : i < length ids = omega (arith, il, a) in absurd (absent i below (sym (old i below) ∙ same ∙ last j b))
    twice i j il jl (inr a) (inr b) same =
        let ib : i < length ids = omega (arith, il, a) in
        let jb : j < length ids = omega (arith, jl, b) in
        apart i j ib jb (sym (old i ib) ∙ same ∙ old j jb)
