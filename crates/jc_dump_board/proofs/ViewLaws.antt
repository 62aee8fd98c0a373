-- What is in some list of views, when one of them changes.
use Rattle.std.proofs.Common.{◌≡◌, ◌⊎◌, ℕ, List, [], ◌∷◌, ◌++◌, set, sym, ap, inl, inr, ⊎_elim, ◌∙◌, subst, arith}
use Rattle.std.specs.Prelude.{Contains}
use Rattle.std.proofs.lemmas.List.Elements.{Contains-append_left, Contains-append_right, Contains-append_cases}
use mathlib.Core.Option.{some, some-injective}
use native.Mathlib.Decide.{ℕ_discrete}
use lib.ListN.{get_elem?}
use Rattle.atomic_table.proofs.Lists.{at_set, set_here, set_else, at_longer, at_snoc}
use Rattle.jc_board.proofs.ViewLaws.{nothing, at_length}
use Rattle.jc_board.specs.Views.{whole}
use Rattle.jc_dump_board.specs.declared.seat.View.{View}
use Rattle.jc_dump_board.specs.Rule.{AnyHas, sum_of_parts}
use Rattle.jc_dump_board.proofs.PartLaws.{parts_le}

-- two views at one place are one view
pub same_view : (views : List View) (id k : ℕ) (v u : View) → k ≡ id → get_elem? views id ≡ some v → get_elem? views k ≡ some u → u ≡ v
same_view views id k v u e there yonder = some-injective _ _ (sym yonder ∙ ap (get_elem? views) e ∙ there)

-- one view changes
module _ (list : View → List (ℕ × ℕ)) (views : List View) (id : ℕ) (v w : View) (there : get_elem? views id ≡ some v) where
  pub any_mine : (d j : ℕ) → Contains (list w) (d, j) → AnyHas list (set views id w) d j
  any_mine d j h = (id, w, set_here views id w (at_length views id v there), h)

  pub any_more : ((d j : ℕ) → Contains (list v) (d, j) → Contains (list w) (d, j)) → (d j : ℕ) → AnyHas list views d j → AnyHas list (set views id w) d j
  any_more grows d j l = elim (ℕ_discrete l.0 id) as (λ _. AnyHas list (set views id w) d j) [
    | yes e ↦ any_mine d j (grows d j (subst (λ (u : View). Contains (list u) (d, j)) (same_view views id l.0 v l.1 e there l.2) l.3))
    | no ne ↦ (l.0, l.1, set_else views id l.0 w ne ∙ l.2, l.3)
  ]

  pub any_less : (d j : ℕ) → AnyHas list (set views id w) d j → Contains (list w) (d, j) ⊎ AnyHas list views d j
  any_less d j l = ⊎_elim
      (λ t. inl (subst (λ (u : View). Contains (list u) (d, j)) (sym t.1) l.3))
      (λ t. inr (l.0, l.1, t.1, l.3))
      (at_set views id l.0 w l.1 l.2)

-- one view changes and keeps its list
pub any_still : (list : View → List (ℕ × ℕ)) (views : List View) (id : ℕ) (v w : View) → get_elem? views id ≡ some v → list w ≡ list v → (d j : ℕ)
    → AnyHas list (set views id w) d j → AnyHas list views d j
any_still list views id v w there same d j l = ⊎_elim
    (λ mine. (id, v, there, subst (λ (xs : List (ℕ × ℕ)). Contains xs (d, j)) same mine))
    (λ old. old)
    (any_less list views id v w there d j l)

-- a view is cut in two
module _ (list : View → List (ℕ × ℕ)) (views : List View) (id : ℕ) (v left right : View) (there : get_elem? views id ≡ some v) (kept : list left ≡ list v) (none : list right ≡ []) where
  pub split_has : (d j : ℕ) → AnyHas list views d j → AnyHas list (set views id left ++ right ∷ []) d j
  split_has d j l =
      let t = any_more list views id v left there (λ d' j' h. subst (λ (xs : List (ℕ × ℕ)). Contains xs (d', j')) (sym kept) h) d j l in
      (t.0, t.1, at_longer (set views id left) (right ∷ []) t.0 t.1 t.2, t.3)

  pub had_split : (d j : ℕ) → AnyHas list (set views id left ++ right ∷ []) d j → AnyHas list views d j
  had_split d j l = ⊎_elim
      (λ was. any_still list views id v left there kept d j (l.0, l.1, was, l.3))
      (λ is. absurd (nothing (d, j) (subst (λ (xs : List (ℕ × ℕ)). Contains xs (d, j)) none (subst (λ (u : View). Contains (list u) (d, j)) (sym is) l.3))))
      (at_snoc (set views id left) right l.1 l.0 l.2)

-- a view takes in another, which is spent
module _ (list : View → List (ℕ × ℕ)) (views : List View) (id other : ℕ) (v w both spent : View) (there : get_elem? views id ≡ some v) (apart : ¬ (other ≡ id))
    (yonder : get_elem? (set views id both) other ≡ some w) (united : list both ≡ list v ++ list w) (none : list spent ≡ []) where
  pub join_has : (d j : ℕ) → AnyHas list views d j → AnyHas list (set (set views id both) other spent) d j
  join_has d j l =
      let half = set views id both in
      let there' : get_elem? views other ≡ some w = sym (set_else views id other both apart) ∙ yonder in
      let here : get_elem? (set half other spent) id ≡ some both = set_else half other id spent (λ e. apart (sym e)) ∙ set_here views id both (at_length views id v there) in
      let mine : Contains (list v ++ list w) (d, j) → AnyHas list (set half other spent) d j = λ h. (id, both, here, subst (λ (xs : List (ℕ × ℕ)). Contains xs (d, j)) (sym united) h) in
      elim (ℕ_discrete l.0 id) as (λ _. AnyHas list (set half other spent) d j) [
        | yes e ↦ mine (Contains-append_left (list v) (list w) (d, j) (subst (λ (u : View). Contains (list u) (d, j)) (same_view views id l.0 v l.1 e there l.2) l.3))
        | no ne ↦ elim (ℕ_discrete l.0 other) as (λ _. AnyHas list (set half other spent) d j) [
          | yes e ↦ mine (Contains-append_right (list v) (list w) (d, j) (subst (λ (u : View). Contains (list u) (d, j)) (same_view views other l.0 w l.1 e there' l.2) l.3))
          | no ne' ↦ (l.0, l.1, set_else half other l.0 spent ne' ∙ set_else views id l.0 both ne ∙ l.2, l.3)
        ]
      ]

  pub had_join : (d j : ℕ) → AnyHas list (set (set views id both) other spent) d j → AnyHas list views d j
  had_join d j l =
      let half = set views id both in
      let there' : get_elem? views other ≡ some w = sym (set_else views id other both apart) ∙ yonder in
      ⊎_elim
      (λ t. absurd (nothing (d, j) (subst (λ (xs : List (ℕ × ℕ)). Contains xs (d, j)) none (subst (λ (u : View). Contains (list u) (d, j)) (sym t.1) l.3))))
      (λ was. ⊎_elim
      (λ t. ⊎_elim (λ mine. (id, v, there, mine)) (λ theirs. (other, w, there', theirs))
      (Contains-append_cases (list v) (list w) (d, j) (subst (λ (xs : List (ℕ × ℕ)). Contains xs (d, j)) united (subst (λ (u : View). Contains (list u) (d, j)) (sym t.1) l.3))))
      (λ t. (l.0, l.1, t.1, l.3))
      (at_set views id l.0 both l.1 was.1))
      (at_set half other l.0 spent l.1 l.2)

-- a view with the whole part is the only one that has something in a list that is empty where there is no part
pub only_mine : (list : View → List (ℕ × ℕ)) (views : List View) (id : ℕ) (v : View) → get_elem? views id ≡ some v → sum_of_parts views ≡ whole → v.part ≡ whole
    → ((j : ℕ) (u : View) → get_elem? views j ≡ some u → u.part ≡ 0 → list u ≡ []) → (d i : ℕ) → AnyHas list views d i → Contains (list v) (d, i)
only_mine list views id v there sum all empty d i l = elim (ℕ_discrete l.0 id) as (λ _. Contains (list v) (d, i)) [
  | yes e ↦ subst (λ (u : View). Contains (list u) (d, i)) (same_view views id l.0 v l.1 e there l.2) l.3
  | no ne ↦ absurd (let none : l.1.part ≡ 0 = omega (arith, parts_le views id l.0 v l.1 ne there l.2, all, sum) in
      nothing (d, i) (subst (λ (xs : List (ℕ × ℕ)). Contains xs (d, i)) (empty l.0 l.1 l.2 none) l.3))
]
