-- A part that is given to a new seat, and a seat that takes in another, keep the rule of the board.
use Rattle.std.proofs.Common.{◌≡◌, ℕ, ◌+◌, ◌<◌, List, [], ◌∷◌, ◌++◌, set, sym, ap, refl, inl, inr, ⊎_elim, ◌∙◌, arith, true, false}
use Rattle.std.proofs.lemmas.Bool.{false≢true}
use mathlib.Core.Option.{some}
use lib.ListN.{get_elem?}
use Rattle.atomic_table.proofs.Lists.{at_set, at_snoc}
use Rattle.jc_dump_board.specs.declared.seat.View.{View}
use Rattle.jc_dump_board.specs.Rule.{AnyHas, IsKept, sum_of_parts}
use Rattle.jc_dump_board.specs.Views.{new_view, without_part, joined}
use Rattle.jc_dump_board.proofs.PartLaws.{sum_of_parts-append, sum_of_parts-set, parts_le}
use Rattle.jc_dump_board.proofs.ViewLaws.{split_has, had_split, join_has, had_join}

-- the same is in the list of some view
abbrev Same : (View → List (ℕ × ℕ)) → (views now : List View) → Type 0
Same list views now = ((d j : ℕ) → AnyHas list views d j → AnyHas list now d j) × ((d j : ℕ) → AnyHas list now d j → AnyHas list views d j)

-- other views that have the same lists and the same parts
same_lists : (counts words : List ℕ) (views now : List View) → IsKept counts words views
    → Same (λ u. u.hits) views now → Same (λ u. u.taken) views now → Same (λ u. u.pending) views now → Same (λ u. u.settled) views now
    → ((j : ℕ) (v : View) → get_elem? now j ≡ some v → v.part ≡ 0 → (v.hits ≡ []) × (v.taken ≡ []) × (v.settled ≡ []))
    → sum_of_parts now ≡ sum_of_parts views
    → ((j : ℕ) (v : View) → get_elem? now j ≡ some v → v.alone ≡ true → ⊥)
    → IsKept counts words now
same_lists counts words views now k hits taken pending settled spent all none = record {
  enough = k.enough;
  in_range = λ d j l. k.in_range d j (hits.1 d j l);
  pending_in_range = λ d j l. k.pending_in_range d j (pending.1 d j l);
  set_is_hit = λ d j r s. hits.0 d j (k.set_is_hit d j r s);
  taken_is_hit = λ d j l. hits.0 d j (k.taken_is_hit d j (taken.1 d j l));
  hit_is_set_or_taken = λ d j l. ⊎_elim (λ s. inl s) (λ t. inr (taken.0 d j t)) (k.hit_is_set_or_taken d j (hits.1 d j l));
  settled_is_taken = λ d j l. taken.0 d j (k.settled_is_taken d j (settled.1 d j l));
  spent = spent;
  all_parts = omega (arith, all, k.all_parts);
  alone = λ j v e is. absurd (none j v e is);
}

-- a part is given to a new seat
pub split_keeps : (counts words : List ℕ) (views : List View) (id part : ℕ) (v : View) → 0 < part → part < v.part → IsKept counts words views → get_elem? views id ≡ some v
    → IsKept counts words (set views id (without_part part v) ++ new_view part ∷ [])
split_keeps counts words views id part v more less k there =
    let left = without_part part v in
    let right = new_view part in
    let cut = set views id left in
    same_lists counts words views (cut ++ right ∷ []) k
    (split_has (λ u. u.hits) views id v left right there refl refl, had_split (λ u. u.hits) views id v left right there refl refl)
    (split_has (λ u. u.taken) views id v left right there refl refl, had_split (λ u. u.taken) views id v left right there refl refl)
    (split_has (λ u. u.pending) views id v left right there refl refl, had_split (λ u. u.pending) views id v left right there refl refl)
    (split_has (λ u. u.settled) views id v left right there refl refl, had_split (λ u. u.settled) views id v left right there refl refl)
    (λ j u e none. ⊎_elim
    (λ was. ⊎_elim
    (λ t. absurd (omega (arith, less, ap (λ (w : View). w.part) t.1, none)))
    (λ t. k.spent j u t.1 none)
    (at_set views id j left u was))
    (λ is. absurd (omega (arith, more, ap (λ (w : View). w.part) is, none)))
    (at_snoc cut right u j e))
    (omega (arith, sum_of_parts-append cut (right ∷ []), sum_of_parts-set views id v left there, less))
    (λ j u e is. ⊎_elim
    (λ was. ⊎_elim
    (λ t. false≢true (ap (λ (w : View). w.alone) t.1 ∙ is))
    (λ t. omega (arith, more, less, parts_le views id j v u t.0 there t.1, (k.alone j u t.1 is).all, k.all_parts))
    (at_set views id j left u was))
    (λ new. false≢true (ap (λ (w : View). w.alone) new ∙ is))
    (at_snoc cut right u j e))

-- a seat is taken in
pub join_keeps : (counts words : List ℕ) (views : List View) (id other : ℕ) (v w : View) → 0 < v.part → IsKept counts words views
    → get_elem? views id ≡ some v → ¬ (other ≡ id) → get_elem? (set views id (joined v w)) other ≡ some w
    → IsKept counts words (set (set views id (joined v w)) other (new_view 0))
join_keeps counts words views id other v w part k there apart yonder =
    let both = joined v w in
    let half = set views id both in
    let spent = new_view 0 in
    same_lists counts words views (set half other spent) k
    (join_has (λ u. u.hits) views id other v w both spent there apart yonder refl refl, had_join (λ u. u.hits) views id other v w both spent there apart yonder refl refl)
    (join_has (λ u. u.taken) views id other v w both spent there apart yonder refl refl, had_join (λ u. u.taken) views id other v w both spent there apart yonder refl refl)
    (join_has (λ u. u.pending) views id other v w both spent there apart yonder refl refl, had_join (λ u. u.pending) views id other v w both spent there apart yonder refl refl)
    (join_has (λ u. u.settled) views id other v w both spent there apart yonder refl refl, had_join (λ u. u.settled) views id other v w both spent there apart yonder refl refl)
    (λ j u e none. ⊎_elim
    (λ t. (ap (λ (x : View). x.hits) (sym t.1), ap (λ (x : View). x.taken) (sym t.1), ap (λ (x : View). x.settled) (sym t.1)))
    (λ was. ⊎_elim
    (λ t. absurd (omega (arith, part, ap (λ (x : View). x.part) t.1, none)))
    (λ t. k.spent j u t.1 none)
    (at_set views id j both u was.1))
    (at_set half other j spent u e))
    (omega (arith, sum_of_parts-set half other w spent yonder, sum_of_parts-set views id v both there))
    (λ j u e is. ⊎_elim
    (λ t. false≢true (ap (λ (x : View). x.alone) t.1 ∙ is))
    (λ was. ⊎_elim
    (λ t. false≢true (ap (λ (x : View). x.alone) t.1 ∙ is))
    (λ t. omega (arith, part, parts_le views id j v u t.0 there t.1, (k.alone j u t.1 is).all, k.all_parts))
    (at_set views id j both u was.1))
    (at_set half other j spent u e))
