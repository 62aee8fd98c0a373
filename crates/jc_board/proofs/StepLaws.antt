-- Each step of a seat keeps the rule of the board.
use Rattle.std.proofs.Common.{◌≡◌, ◌⊎◌, ℕ, ◌%◌, ◌^◌, ◌<◌, List, [], ◌∷◌, ◌++◌, length, get_or, set, sym, ap, refl, inl, ⊎_elim, ◌∙◌, subst, arith, length-set}
use Rattle.std.proofs.lemmas.List.{set-get_or}
use Rattle.std.specs.Prelude.{bit_or, Contains}
use Rattle.std.specs.Int.{bit_at}
use Rattle.std.proofs.lemmas.List.Elements.{Contains-append_left, Contains-append_right, Contains-append_cases}
use mathlib.Core.Option.{some, some-injective}
use native.Mathlib.Decide.{ℕ_discrete}
use lib.ListN.{get_elem?}
use Rattle.atomic_table.specs.Table.{State, Me, Act, keeps, Allows, Valid, carried_after}
use Rattle.atomic_table.proofs.Lists.{at_set, set_here, set_else, set_again, at_longer, at_snoc}
use Rattle.jc_board.specs.declared.seat.View.{View}
use Rattle.jc_programs.specs.Probes.{InRange}
use Rattle.jc_board.specs.Places.{word_at}
use Rattle.jc_board.specs.Views.{whole, view, with_hit, joined, without_part, Peeks}
use Rattle.jc_board.specs.Rule.{IsProbe, IsSet, AnyHas, sum_of_parts, IsKept}
use Rattle.jc_board.proofs.BitLaws.{with_bit, bit_here, bit_more, bit_less}
use Rattle.jc_board.proofs.ViewLaws.{nothing, at_length, has_gained, has_more, has_less}
use Rattle.jc_board.proofs.PartLaws.{sum_of_parts-append, sum_of_parts-set, parts_le}

-- the words and one view change as a hit changes them
gains : (counts words after : List ℕ) (views : List View) (id c i : ℕ) (v : View) → IsKept counts words views → get_elem? views id ≡ some v → 0 < v.part → IsProbe counts c i
    → length after ≡ length words → IsSet counts after c i
    → ((d j : ℕ) → InRange counts d j → IsSet counts words d j → IsSet counts after d j)
    → ((d j : ℕ) → InRange counts d j → IsSet counts after d j → IsSet counts words d j ⊎ ((d ≡ c) × (j ≡ i)))
    → IsKept counts after (set views id (with_hit v c i))
gains counts words after views id c i v k there part range len here more less = record {
  enough = omega (arith, k.enough, len);
  in_range = λ d j l. ⊎_elim (λ old. k.in_range d j old) (λ e. subst (λ (x : ℕ × ℕ). IsProbe counts x.0 x.1) (λ n. (sym e.0 n, sym e.1 n)) range) (has_less views id c i v there d j l);
  set_only_hit = λ d j r s. ⊎_elim
      (λ old. has_more views id c i v there d j (k.set_only_hit d j r old))
      (λ e. subst (λ (x : ℕ × ℕ). AnyHas (set views id (with_hit v c i)) x.0 x.1) (λ n. (sym e.0 n, sym e.1 n)) (has_gained views id c i v there))
      (less d j r s);
  hit_is_set = λ d j l. ⊎_elim
      (λ old. more d j (k.in_range d j old).0 (k.hit_is_set d j old))
      (λ e. subst (λ (x : ℕ × ℕ). IsSet counts after x.0 x.1) (λ n. (sym e.0 n, sym e.1 n)) here)
      (has_less views id c i v there d j l);
  spent = λ j u e none. ⊎_elim
      (λ t. absurd (omega (arith, part, ap (λ (w : View). w.part) t.1, none)))
      (λ t. k.spent j u t.1 none)
      (at_set views id j (with_hit v c i) u e);
  all_parts = omega (arith, sum_of_parts-set views id v (with_hit v c i) there, k.all_parts);
}

-- with the bit of a probe set, and its hit in a view
kept_with_hit : (counts words : List ℕ) (views : List View) (id c i : ℕ) (v : View) → IsKept counts words views → get_elem? views id ≡ some v → 0 < v.part → IsProbe counts c i
    → IsKept counts (set words (word_at counts c i) (bit_or (get_or words (word_at counts c i) 0) (2 ^ (i % 64)))) (set views id (with_hit v c i))
kept_with_hit counts words views id c i v k there part range =
    let m = with_bit counts words k.enough c i range.0 in
    gains counts words m views id c i v k there part range
    (length-set words (word_at counts c i) (bit_or (get_or words (word_at counts c i) 0) (2 ^ (i % 64))))
    (bit_here counts words k.enough c i range.0) (bit_more counts words k.enough c i range.0) (bit_less counts words k.enough c i range.0)

-- a view with the whole part is the only one that has hits
pub alone : (counts words : List ℕ) (views : List View) (id c i : ℕ) (v : View) → IsKept counts words views → get_elem? views id ≡ some v → v.part ≡ whole → AnyHas views c i → Contains v.hits (c, i)
alone counts words views id c i v k there part l = elim (ℕ_discrete l.0 id) as (λ _. Contains v.hits (c, i)) [
  | yes e ↦ subst (λ (u : View). Contains u.hits (c, i)) (some-injective _ _ (sym l.2 ∙ ap (get_elem? views) e ∙ there)) l.3
  | no ne ↦ absurd (
      let none : l.1.part ≡ 0 = omega (arith, parts_le views id l.0 v l.1 ne there l.2, part, k.all_parts) in
      let some_one = l.3 in
      omega (arith, some_one.1, ap (λ (xs : List (ℕ × ℕ)). length xs) (k.spent l.0 l.1 l.2 none))
      )
]

module _ {S : Type 0} where
  -- a hit
  pub hit_keeps : (counts : List ℕ) (slots id : ℕ) (me : Me S View) (c i word mask : ℕ) → 0 < me.0.part → IsProbe counts c i → word ≡ word_at counts c i → mask ≡ 2 ^ (i % 64)
      → Allows (λ (s : State S View). IsKept counts s.words s.views) slots id me word (λ n. bit_or n mask) (λ n after. after ≡ (with_hit me.0 c i, me.1))
  hit_keeps counts slots id me c i word mask part range at is s k homes there small = (
    with_hit me.0 c i,
    keeps,
    tt,
    subst (λ (x : ℕ × ℕ). IsKept counts (set s.words x.0 (bit_or (get_or s.words x.0 0) x.1)) (set s.views id (with_hit me.0 c i)))
        (λ n. (sym at n, sym is n)) (kept_with_hit counts s.words s.views id c i me.0 k there part range),
    refl,
  )

  -- a look at a probe
  pub peek_keeps : (counts : List ℕ) (slots id : ℕ) (me : Me S View) (c i word : ℕ) → 0 < me.0.part → IsProbe counts c i → word ≡ word_at counts c i
      → Allows (λ (s : State S View). IsKept counts s.words s.views) slots id me word (λ n. n) (Peeks c i me)
  peek_keeps counts slots id me c i word part range at s k homes there small =
      let same = set-get_or s.words word 0 in
      let known : bit_at (get_or s.words word 0) (i % 64) ≡ 1 → IsSet counts s.words c i = λ e. ap (λ n. bit_at (get_or s.words n 0) (i % 64)) (sym at) ∙ e in
      let back : IsSet counts s.words c i → bit_at (get_or s.words word 0) (i % 64) ≡ 1 = λ e. ap (λ n. bit_at (get_or s.words n 0) (i % 64)) at ∙ e in
      let had : Contains me.0.hits (c, i) → bit_at (get_or s.words word 0) (i % 64) ≡ 1 = λ h. back (k.hit_is_set c i (id, me.0, there, h)) in
      let mine : me.0.part ≡ whole → bit_at (get_or s.words word 0) (i % 64) ≡ 1 → Contains me.0.hits (c, i) =
      λ p e. alone counts s.words s.views id c i me.0 k there p (k.set_only_hit c i range.0 (known e)) in
      elim (ℕ_discrete (bit_at (get_or s.words word 0) (i % 64)) 1) as
      (λ _. (w : View) × (a : Act S) × Valid s.homes me.1 a × IsKept counts (set s.words word (get_or s.words word 0)) (set s.views id w)
      × Peeks c i me (get_or s.words word 0) (w, carried_after me.1 a)) [
        | yes e ↦ (
          with_hit me.0 c i,
          keeps,
          tt,
          subst (λ (ws : List ℕ). IsKept counts ws (set s.views id (with_hit me.0 c i))) (sym same)
              (gains counts s.words s.words s.views id c i me.0 k there part range refl (known e) (λ d j r t. t) (λ d j r t. inl t)),
          record { set = λ _. refl; unset = λ ne. absurd (ne e); had = had; alone = mine },
        )
        | no ne ↦ (
          me.0,
          keeps,
          tt,
          subst (λ (x : List ℕ × List View). IsKept counts x.0 x.1) (λ n. (sym same n, sym (set_again s.views id me.0 there) n)) k,
          record { set = λ e. absurd (ne e); unset = λ _. refl; had = had; alone = mine },
        )
      ]

-- other views that have the same hits and the same parts
same_hits : (counts words : List ℕ) (views now : List View) → IsKept counts words views
    → ((d j : ℕ) → AnyHas views d j → AnyHas now d j)
    → ((d j : ℕ) → AnyHas now d j → AnyHas views d j)
    → ((j : ℕ) (v : View) → get_elem? now j ≡ some v → v.part ≡ 0 → v.hits ≡ [])
    → sum_of_parts now ≡ sum_of_parts views
    → IsKept counts words now
same_hits counts words views now k to from idle all = record {
  enough = k.enough;
  in_range = λ d j l. k.in_range d j (from d j l);
  set_only_hit = λ d j r s. to d j (k.set_only_hit d j r s);
  hit_is_set = λ d j l. k.hit_is_set d j (from d j l);
  spent = idle;
  all_parts = omega (arith, all, k.all_parts);
}

-- a part is given to a new seat
pub split_keeps : (counts words : List ℕ) (views : List View) (id part : ℕ) (v : View) → 0 < part → part < v.part → IsKept counts words views → get_elem? views id ≡ some v
    → IsKept counts words (set views id (without_part part v) ++ view [] part ∷ [])
split_keeps counts words views id part v more less k there =
    let left = without_part part v in
    let cut = set views id left in
    same_hits counts words views (cut ++ view [] part ∷ []) k
    (λ d j l. elim (ℕ_discrete l.0 id) as (λ _. AnyHas (cut ++ view [] part ∷ []) d j) [
      | yes e ↦ (
        id,
        left,
        at_longer cut (view [] part ∷ []) id left (set_here views id left (at_length views id v there)),
        subst (λ (u : View). Contains u.hits (d, j)) (some-injective _ _ (sym l.2 ∙ ap (get_elem? views) e ∙ there)) l.3,
      )
      | no ne ↦ (l.0, l.1, at_longer cut (view [] part ∷ []) l.0 l.1 (set_else views id l.0 left ne ∙ l.2), l.3)
    ])
    (λ d j l. ⊎_elim
    (λ was. ⊎_elim
    (λ t. (id, v, there, subst (λ (u : View). Contains u.hits (d, j)) (sym t.1) l.3))
    (λ t. (l.0, l.1, t.1, l.3))
    (at_set views id l.0 left l.1 was))
    (λ is. absurd (nothing (d, j) (subst (λ (u : View). Contains u.hits (d, j)) (sym is) l.3)))
    (at_snoc cut (view [] part) l.1 l.0 l.2))
    (λ j u e none. ⊎_elim
    (λ was. ⊎_elim
    (λ t. absurd (omega (arith, less, ap (λ (w : View). w.part) t.1, none)))
    (λ t. k.spent j u t.1 none)
    (at_set views id j left u was))
    (λ is. absurd (omega (arith, more, ap (λ (w : View). w.part) is, none)))
    (at_snoc cut (view [] part) u j e))
    (omega (arith, sum_of_parts-append cut (view [] part ∷ []), sum_of_parts-set views id v left there, less))

-- a seat is taken in
pub join_keeps : (counts words : List ℕ) (views : List View) (id other : ℕ) (v w : View) → 0 < v.part → IsKept counts words views
    → get_elem? views id ≡ some v → ¬ (other ≡ id) → get_elem? (set views id (joined v w)) other ≡ some w
    → IsKept counts words (set (set views id (joined v w)) other (view [] 0))
join_keeps counts words views id other v w part k there apart yonder =
    let both = joined v w in
    let half = set views id both in
    let now = set half other (view [] 0) in
    let there' : get_elem? views other ≡ some w = sym (set_else views id other both apart) ∙ yonder in
    let here : get_elem? now id ≡ some both = set_else half other id (view [] 0) (λ e. apart (sym e)) ∙ set_here views id both (at_length views id v there) in
    same_hits counts words views now k
    (λ d j l. elim (ℕ_discrete l.0 id) as (λ _. AnyHas now d j) [
      | yes e ↦ (id, both, here, Contains-append_left v.hits w.hits (d, j) (subst (λ (u : View). Contains u.hits (d, j)) (some-injective _ _ (sym l.2 ∙ ap (get_elem? views) e ∙ there)) l.3))
      | no ne ↦ elim (ℕ_discrete l.0 other) as (λ _. AnyHas now d j) [
        | yes e ↦ (id, both, here, Contains-append_right v.hits w.hits (d, j) (subst (λ (u : View). Contains u.hits (d, j)) (some-injective _ _ (sym l.2 ∙ ap (get_elem? views) e ∙ there')) l.3))
        | no ne' ↦ (l.0, l.1, set_else half other l.0 (view [] 0) ne' ∙ set_else views id l.0 both ne ∙ l.2, l.3)
      ]
    ])
    (λ d j l. ⊎_elim
    (λ t. absurd (nothing (d, j) (subst (λ (u : View). Contains u.hits (d, j)) (sym t.1) l.3)))
    (λ was. ⊎_elim
    (λ t. ⊎_elim
    (λ mine. (id, v, there, mine))
    (λ theirs. (other, w, there', theirs))
    (Contains-append_cases v.hits w.hits (d, j) (subst (λ (u : View). Contains u.hits (d, j)) (sym t.1) l.3)))
    (λ t. (l.0, l.1, t.1, l.3))
    (at_set views id l.0 both l.1 was.1))
    (at_set half other l.0 (view [] 0) l.1 l.2))
    (λ j u e none. ⊎_elim
    (λ t. ap (λ (x : View). x.hits) (sym t.1))
    (λ was. ⊎_elim
    (λ t. absurd (omega (arith, part, ap (λ (x : View). x.part) t.1, none)))
    (λ t. k.spent j u t.1 none)
    (at_set views id j both u was.1))
    (at_set half other j (view [] 0) u e))
    (omega (arith, sum_of_parts-set half other w (view [] 0) yonder, sum_of_parts-set views id v both there))
