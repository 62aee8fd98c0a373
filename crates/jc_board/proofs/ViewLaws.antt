-- Which hits views have, when one of them changes.
use Rattle.std.proofs.Common.{◌≡◌, ◌⊎◌, ℕ, zero, suc, ◌<◌, List, [], ◌∷◌, length, set, sym, ap, refl, inl, inr, ⊎_elim, ◌∙◌, subst, arith}
use Rattle.std.specs.Prelude.{Contains}
use Rattle.std.proofs.lemmas.List.Elements.{Contains-append_left, Contains-append_right, Contains-append_cases}
use mathlib.Core.Option.{some, some-injective, some-ne-none}
use native.Mathlib.Decide.{ℕ_discrete}
use lib.ListN.{get_elem?}
use Rattle.atomic_table.proofs.Lists.{at_set, set_here, set_else}
use Rattle.jc_board.specs.declared.seat.View.{View}
use Rattle.jc_board.specs.Views.{with_hit}
use Rattle.jc_board.specs.Rule.{AnyHas}

-- an empty list contains nothing
pub nothing : {A : Type 0} (x : A) → Contains [] x → ⊥
nothing x h = omega (arith, h.1)

pub at_length : {A : Type 0} (l : List A) (i : ℕ) (a : A) → get_elem? l i ≡ some a → i < length l
at_length [] i a e = absurd (some-ne-none a (sym e))
at_length (x ∷ xs) zero a e = omega arith
at_length (x ∷ xs) (suc i) a e = omega (arith, at_length xs i a e)

-- one view has one hit more
module _ (views : List View) (id c i : ℕ) (v : View) (there : get_elem? views id ≡ some v) where
  pub has_gained : AnyHas (set views id (with_hit v c i)) c i
  has_gained = (id, with_hit v c i, set_here views id (with_hit v c i) (at_length views id v there), Contains-append_right v.hits ((c, i) ∷ []) (c, i) (0, omega arith, refl))

  pub has_more : (d j : ℕ) → AnyHas views d j → AnyHas (set views id (with_hit v c i)) d j
  has_more d j l = elim (ℕ_discrete l.0 id) as (λ _. AnyHas (set views id (with_hit v c i)) d j) [
    | yes e ↦ (
      id,
      with_hit v c i,
      set_here views id (with_hit v c i) (at_length views id v there),
      Contains-append_left v.hits ((c, i) ∷ []) (d, j) (subst (λ (u : View). Contains u.hits (d, j)) (some-injective _ _ (sym l.2 ∙ ap (get_elem? views) e ∙ there)) l.3),
    )
    | no ne ↦ (l.0, l.1, set_else views id l.0 (with_hit v c i) ne ∙ l.2, l.3)
  ]

  pub has_less : (d j : ℕ) → AnyHas (set views id (with_hit v c i)) d j → AnyHas views d j ⊎ ((d ≡ c) × (j ≡ i))
  has_less d j l = ⊎_elim
      (λ t. ⊎_elim
      (λ old. inl (id, v, there, old))
      (λ new. inr (only new))
      (Contains-append_cases v.hits ((c, i) ∷ []) (d, j) (subst (λ (u : View). Contains u.hits (d, j)) (sym t.1) l.3)))
      (λ t. inl (l.0, l.1, t.1, l.3))
      (at_set views id l.0 (with_hit v c i) l.1 l.2)
    where
      only : Contains {X = ℕ × ℕ} ((c, i) ∷ []) (d, j) → (d ≡ c) × (j ≡ i)
      only (zero, lt, e) = (ap (λ (x : ℕ × ℕ). x.0) (sym e), ap (λ (x : ℕ × ℕ). x.1) (sym e))
      only (suc k, lt, e) = absurd (omega (arith, lt))
