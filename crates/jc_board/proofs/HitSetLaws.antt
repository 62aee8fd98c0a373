-- One hit more in a set of hits.
use Rattle.std.proofs.Common.{◌≡◌, ◌⊎◌, ℕ, zero, suc, ◌<◌, List, [], ◌∷◌, Bool, true, false, length, get_or, set, sym, ap, refl, inl, inr, ◌∙◌, subst, length-set}
use Rattle.std.proofs.Math.ListN.{get_or-map}
use Rattle.std.proofs.lemmas.Bool.{false≢true}
use Rattle.std.proofs.lemmas.List.{get_or-set_same, get_or-set_other, set-get_or, map-set, length-replicate}
use Rattle.std.specs.Prelude.{replicate}
use native.Mathlib.Decide.{ℕ_discrete}
use mathlib.Core.Option.{some, some-injective, some-ne-none}
use lib.ListN.{get_elem?}
use Rattle.jc_programs.specs.Probes.{no_hits, counts_of, IsHit}

-- how many probes a class has
pub length_at : (hits : List (List Bool)) (c : ℕ) → length (get_or hits c []) ≡ get_or (counts_of hits) c 0
length_at hits c = sym (get_or-map length hits c [])

-- the hits with one more
abbrev pub with_set : List (List Bool) → ℕ → ℕ → List (List Bool)
with_set hits c i = set hits c (set (get_or hits c []) i true)

module _ (hits : List (List Bool)) (c i : ℕ) where
  pub counts_of-with_set : counts_of (with_set hits c i) ≡ counts_of hits
  counts_of-with_set = map-set length hits c (set (get_or hits c []) i true) ∙ ap (set (counts_of hits) c) (length-set (get_or hits c []) i true ∙ length_at hits c) ∙ set-get_or (counts_of hits) c 0

  module _ (in_class : c < length hits) (in_row : i < length (get_or hits c [])) where
    pub set_hit : IsHit (with_set hits c i) c i
    set_hit = ap (λ (r : List Bool). get_or r i false) (get_or-set_same hits c (set (get_or hits c []) i true) [] in_class) ∙ get_or-set_same (get_or hits c []) i true false in_row

    pub set_more : (d j : ℕ) → IsHit hits d j → IsHit (with_set hits c i) d j
    set_more d j h = elim (ℕ_discrete d c) as (λ _. IsHit (with_set hits c i) d j) [
      | no ne ↦ ap (λ (r : List Bool). get_or r j false) (get_or-set_other hits c d (set (get_or hits c []) i true) [] ne) ∙ h
      | yes e ↦ elim (ℕ_discrete j i) as (λ _. IsHit (with_set hits c i) d j) [
        | yes same ↦ subst (λ (x : ℕ × ℕ). IsHit (with_set hits c i) x.0 x.1) (λ n. (sym e n, sym same n)) set_hit
        | no apart ↦ ap (λ n. get_or (get_or (with_set hits c i) n []) j false) e ∙ ap (λ (r : List Bool). get_or r j false) (get_or-set_same hits c (set (get_or hits c []) i true) [] in_class)
            ∙ get_or-set_other (get_or hits c []) i j true false apart ∙ ap (λ n. get_or (get_or hits n []) j false) (sym e) ∙ h
      ]
    ]

    pub set_less : (d j : ℕ) → IsHit (with_set hits c i) d j → IsHit hits d j ⊎ ((d ≡ c) × (j ≡ i))
    set_less d j h = elim (ℕ_discrete d c) as (λ _. IsHit hits d j ⊎ ((d ≡ c) × (j ≡ i))) [
      | no ne ↦ inl (sym (ap (λ (r : List Bool). get_or r j false) (get_or-set_other hits c d (set (get_or hits c []) i true) [] ne)) ∙ h)
      | yes e ↦ elim (ℕ_discrete j i) as (λ _. IsHit hits d j ⊎ ((d ≡ c) × (j ≡ i))) [
        | yes same ↦ inr (e, same)
        | no apart ↦ inl (sym (ap (λ n. get_or (get_or (with_set hits c i) n []) j false) e
            ∙ ap (λ (r : List Bool). get_or r j false) (get_or-set_same hits c (set (get_or hits c []) i true) [] in_class)
            ∙ get_or-set_other (get_or hits c []) i j true false apart ∙ ap (λ n. get_or (get_or hits n []) j false) (sym e)) ∙ h)
      ]
    ]

-- no probe of a class without hits is hit
no_hit_row : (n j : ℕ) → get_or (replicate n false) j false ≡ true → ⊥
no_hit_row zero j h = false≢true h
no_hit_row (suc n) zero h = false≢true h
no_hit_row (suc n) (suc j) h = no_hit_row n j h

pub no_hit : (counts : List ℕ) (d j : ℕ) → IsHit (no_hits counts) d j → ⊥
no_hit [] d j h = false≢true h
no_hit (n ∷ ns) zero j h = no_hit_row n j h
no_hit (n ∷ ns) (suc d) j h = no_hit ns d j h

pub counts_of-no_hits : (counts : List ℕ) → counts_of (no_hits counts) ≡ counts
counts_of-no_hits [] = refl
counts_of-no_hits (n ∷ ns) = λ k. length-replicate n false k ∷ counts_of-no_hits ns k

-- what stands at a place, whatever is read behind the end
pub read : {A : Type 0} (l : List A) (i : ℕ) (a d : A) → get_elem? l i ≡ some a → get_or l i d ≡ a
read [] i a d e = absurd (some-ne-none a (sym e))
read (x ∷ xs) zero a d e = some-injective x a e
read (x ∷ xs) (suc i) a d e = read xs i a d e
