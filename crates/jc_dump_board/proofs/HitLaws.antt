-- A hit keeps the rule of the board.
use Rattle.std.proofs.Common.{◌≡◌, ◌⊎◌, ℕ, ◌%◌, ◌^◌, ◌<◌, List, [], ◌∷◌, ◌++◌, length, get_or, set, sym, ap, refl, inl, inr, ⊎_elim, ◌∙◌, subst, arith, length-set}
use Rattle.std.specs.Prelude.{bit_or, Contains}
use Rattle.std.proofs.lemmas.List.Elements.{Contains-append_left, Contains-append_right, Contains-append_cases}
use mathlib.Core.Option.{some}
use lib.ListN.{get_elem?}
use Rattle.atomic_table.specs.Table.{State, Me, keeps, Allows}
use Rattle.atomic_table.proofs.Lists.{at_set}
use Rattle.jc_board.specs.Places.{word_at}
use Rattle.jc_board.specs.Rule.{IsProbe, IsSet}
use Rattle.jc_board.proofs.BitLaws.{with_bit, bit_here, bit_more, bit_less}
use Rattle.jc_dump_board.specs.declared.seat.View.{View}
use Rattle.jc_dump_board.specs.Rule.{AnyHas, IsAlone, IsKept}
use Rattle.jc_dump_board.specs.Views.{with_hit}
use Rattle.jc_dump_board.proofs.ListLaws.{only, itself}
use Rattle.jc_dump_board.proofs.PartLaws.{sum_of_parts-set, parts_le}
use Rattle.jc_dump_board.proofs.ViewLaws.{any_mine, any_more, any_less, any_still}

-- what stands in a list with one probe more
more_cases : (l : List (ℕ × ℕ)) (c i d j : ℕ) → Contains (l ++ (c, i) ∷ []) (d, j) → Contains l (d, j) ⊎ ((d ≡ c) × (j ≡ i))
more_cases l c i d j h = ⊎_elim (λ old. inl old) (λ new. let e = only (c, i) (d, j) new in inr (ap (λ (x : ℕ × ℕ). x.0) e, ap (λ (x : ℕ × ℕ). x.1) e)) (Contains-append_cases l ((c, i) ∷ []) (d, j) h)

module _ (counts words : List ℕ) (views : List View) (id c i : ℕ) (v : View) (k : IsKept counts words views)
    (there : get_elem? views id ≡ some v) (part : 0 < v.part) (probe : IsProbe counts c i) where
  abbrev after : List ℕ
  after = with_bit counts words k.enough c i probe.0

  abbrev now : List View
  now = set views id (with_hit v c i)

  -- what has the probe has each equal one
  at_probe : (P : ℕ → ℕ → Type 0) (d j : ℕ) → P c i → (d ≡ c) × (j ≡ i) → P d j
  at_probe P d j p e = subst (λ (x : ℕ × ℕ). P x.0 x.1) (λ n. (sym e.0 n, sym e.1 n)) p

  new_hit : AnyHas (λ u. u.hits) now c i
  new_hit = any_mine (λ u. u.hits) views id v (with_hit v c i) there c i (Contains-append_right v.hits ((c, i) ∷ []) (c, i) (itself {A = ℕ × ℕ} (c, i)))

  hits_still : (d j : ℕ) → AnyHas (λ u. u.hits) views d j → AnyHas (λ u. u.hits) now d j
  hits_still = any_more (λ u. u.hits) views id v (with_hit v c i) there (λ d j h. Contains-append_left v.hits ((c, i) ∷ []) (d, j) h)

  hits_cases : (d j : ℕ) → AnyHas (λ u. u.hits) now d j → AnyHas (λ u. u.hits) views d j ⊎ ((d ≡ c) × (j ≡ i))
  hits_cases d j l = ⊎_elim
      (λ mine. ⊎_elim (λ old. inl (id, v, there, old)) (λ e. inr e) (more_cases v.hits c i d j mine))
      (λ old. inl old)
      (any_less (λ u. u.hits) views id v (with_hit v c i) there d j l)

  taken_still : (d j : ℕ) → AnyHas (λ u. u.taken) views d j → AnyHas (λ u. u.taken) now d j
  taken_still = any_more (λ u. u.taken) views id v (with_hit v c i) there (λ d j h. h)

  alone_still : (u : View) → u ≡ with_hit v c i → IsAlone counts words v → IsAlone counts after u
  alone_still u is mine = subst (IsAlone counts after) (sym is) (record {
    all = mine.all;
    set_is_pending = λ d j r s. ⊎_elim
        (λ old. Contains-append_left v.pending ((c, i) ∷ []) (d, j) (mine.set_is_pending d j r old))
        (at_probe (λ d' j'. Contains {X = ℕ × ℕ} (v.pending ++ (c, i) ∷ []) (d', j')) d j (Contains-append_right v.pending ((c, i) ∷ []) (c, i) (itself {A = ℕ × ℕ} (c, i))))
        (bit_less counts words k.enough c i probe.0 d j r s);
    pending_is_set = λ d j h. ⊎_elim
        (λ old. bit_more counts words k.enough c i probe.0 d j (k.pending_in_range d j (id, v, there, old)).0 (mine.pending_is_set d j old))
        (at_probe (IsSet counts after) d j (bit_here counts words k.enough c i probe.0))
        (more_cases v.pending c i d j h);
  })

  pub kept_with_hit : IsKept counts after now
  kept_with_hit = record {
    enough = omega (arith, k.enough, length-set words (word_at counts c i) (bit_or (get_or words (word_at counts c i) 0) (2 ^ (i % 64))));
    in_range = λ d j l. ⊎_elim (k.in_range d j) (at_probe (IsProbe counts) d j probe) (hits_cases d j l);
    pending_in_range = λ d j l. ⊎_elim
        (λ mine. ⊎_elim (λ old. k.pending_in_range d j (id, v, there, old)) (at_probe (IsProbe counts) d j probe) (more_cases v.pending c i d j mine))
        (k.pending_in_range d j)
        (any_less (λ u. u.pending) views id v (with_hit v c i) there d j l);
    set_is_hit = λ d j r s. ⊎_elim
        (λ old. hits_still d j (k.set_is_hit d j r old))
        (at_probe (AnyHas (λ u. u.hits) now) d j new_hit)
        (bit_less counts words k.enough c i probe.0 d j r s);
    taken_is_hit = λ d j l. hits_still d j (k.taken_is_hit d j (any_still (λ u. u.taken) views id v (with_hit v c i) there refl d j l));
    hit_is_set_or_taken = λ d j l. ⊎_elim
        (λ old. ⊎_elim
        (λ s. inl (bit_more counts words k.enough c i probe.0 d j (k.in_range d j old).0 s))
        (λ t. inr (taken_still d j t))
        (k.hit_is_set_or_taken d j old))
        (λ e. inl (at_probe (IsSet counts after) d j (bit_here counts words k.enough c i probe.0) e))
        (hits_cases d j l);
    settled_is_taken = λ d j l. taken_still d j (k.settled_is_taken d j (any_still (λ u. u.settled) views id v (with_hit v c i) there refl d j l));
    spent = λ j u e none. ⊎_elim
        (λ t. absurd (omega (arith, part, ap (λ (w : View). w.part) t.1, none)))
        (λ t. k.spent j u t.1 none)
        (at_set views id j (with_hit v c i) u e);
    all_parts = omega (arith, sum_of_parts-set views id v (with_hit v c i) there, k.all_parts);
    alone = λ j u e is. ⊎_elim
        (λ t. alone_still u (sym t.1) (k.alone id v there (ap (λ (w : View). w.alone) t.1 ∙ is)))
        (λ t. absurd (omega (arith, part, parts_le views id j v u t.0 there t.1, (k.alone j u t.1 is).all, k.all_parts)))
        (at_set views id j (with_hit v c i) u e);
  }

module _ {S : Type 0} where
  pub hit_keeps : (counts : List ℕ) (slots id : ℕ) (me : Me S View) (c i word mask : ℕ) → 0 < me.0.part → IsProbe counts c i → word ≡ word_at counts c i → mask ≡ 2 ^ (i % 64)
      → Allows (λ (s : State S View). IsKept counts s.words s.views) slots id me word (λ n. bit_or n mask) (λ n after. after ≡ (with_hit me.0 c i, me.1))
  hit_keeps counts slots id me c i word mask part probe at is s k homes there small = (
    with_hit me.0 c i,
    keeps,
    tt,
    subst (λ (x : ℕ × ℕ). IsKept counts (set s.words x.0 (bit_or (get_or s.words x.0 0) x.1)) (set s.views id (with_hit me.0 c i)))
        (λ n. (sym at n, sym is n)) (kept_with_hit counts s.words s.views id c i me.0 k there part probe),
    refl,
  )
