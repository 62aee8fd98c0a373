-- Taking the hits of a word keeps the rule of the board.
use Rattle.std.proofs.Common.{◌≡◌, ◌⊎◌, ℕ, ◌+◌, ◌%◌, ◌<◌, List, ◌++◌, length, get_or, set, sym, ap, refl, inl, inr, ⊎_elim, ◌∙◌, subst, arith, length-set}
use Rattle.std.specs.Prelude.{Contains}
use Rattle.std.specs.Int.{bit_at}
use Rattle.std.proofs.lemmas.List.Elements.{Contains-append_left, Contains-append_right, Contains-append_cases}
use Rattle.std.proofs.lemmas.Nat.Bits.{bit_at-zero}
use Rattle.std.proofs.lemmas.List.{get_or-set_same, get_or-set_other}
use native.Mathlib.Decide.{ℕ_discrete}
use mathlib.Core.Option.{some}
use lib.ListN.{get_elem?}
use Rattle.atomic_table.specs.Table.{State, Me, keeps, Allows}
use Rattle.atomic_table.proofs.Lists.{at_set, set_here}
use Rattle.jc_programs.specs.Probes.{InRange}
use Rattle.jc_board.specs.Places.{word_at}
use Rattle.jc_board.specs.Rule.{IsProbe, IsSet}
use Rattle.jc_board.proofs.PlaceLaws.{word_below}
use Rattle.jc_board.proofs.ViewLaws.{at_length}
use Rattle.jc_dump_board.specs.declared.seat.View.{View}
use Rattle.jc_dump_board.specs.Rule.{AnyHas, IsAlone, IsKept}
use Rattle.jc_dump_board.specs.Taking.{IsIn, Stands, TakesWord}
use Rattle.jc_dump_board.proofs.ListLaws.{keep, kept_is, is_kept, is_in, is_out, found, found_is, is_found}
use Rattle.jc_dump_board.proofs.PartLaws.{sum_of_parts-set, parts_le}
use Rattle.jc_dump_board.proofs.ViewLaws.{any_mine, any_more, any_less, any_still, only_mine}

-- the view of a seat that took the word, in which n stood
abbrev pub after_taking : (counts : List ℕ) (word n : ℕ) → View → View
after_taking counts word n v = record {
  hits = v.hits;
  taken = v.taken ++ found counts word n;
  pending = keep (λ (x : ℕ × ℕ). IsIn counts word x.0 x.1 → ⊥) (is_out counts word) v.pending;
  settled = v.settled ++ keep (λ (x : ℕ × ℕ). IsIn counts word x.0 x.1) (is_in counts word) v.hits;
  part = v.part;
  alone = v.alone;
}

module _ (counts words : List ℕ) (views : List View) (id word : ℕ) (v : View) (k : IsKept counts words views) (there : get_elem? views id ≡ some v) (part : 0 < v.part) where
  abbrev n : ℕ
  n = get_or words word 0

  abbrev after : List ℕ
  after = set words word 0

  abbrev me : View
  me = after_taking counts word n v

  abbrev now : List View
  now = set views id (after_taking counts word n v)

  -- in the word, a bit of n
  stands_is_set : (d i : ℕ) → Stands counts word n d i → IsSet counts words d i
  stands_is_set d i h = ap (λ m. bit_at (get_or words m 0) (i % 64)) h.0.1 ∙ h.1

  set_stands : (d i : ℕ) → IsIn counts word d i → IsSet counts words d i → Stands counts word n d i
  set_stands d i h s = (h, ap (λ m. bit_at (get_or words m 0) (i % 64)) (sym h.1) ∙ s)

  -- elsewhere as before
  still : (d i : ℕ) → IsProbe counts d i → (IsIn counts word d i → ⊥) → IsSet counts words d i → IsSet counts after d i
  still d i r out s = ap (λ m. bit_at m (i % 64)) (get_or-set_other words word (word_at counts d i) 0 0 (λ e. out (r, e))) ∙ s

  was : (d i : ℕ) → InRange counts d i → IsSet counts after d i → (IsIn counts word d i → ⊥) × IsSet counts words d i
  was d i r s = elim (ℕ_discrete (word_at counts d i) word) as (λ _. (IsIn counts word d i → ⊥) × IsSet counts words d i) [
    | yes e ↦
        let in_words : word < length words = omega (arith, k.enough, word_below counts d i r, e) in
        absurd (omega (arith, sym (ap (λ m. bit_at (get_or after m 0) (i % 64)) e) ∙ s, ap (λ m. bit_at m (i % 64)) (get_or-set_same words word 0 0 in_words), bit_at-zero (i % 64)))
    | no ne ↦ ((λ h. ne h.1), sym (ap (λ m. bit_at m (i % 64)) (get_or-set_other words word (word_at counts d i) 0 0 ne)) ∙ s)
  ]

  pub new_taken : (d i : ℕ) → Stands counts word n d i → Contains (after_taking counts word n v).taken (d, i)
  new_taken d i h = Contains-append_right v.taken (found counts word n) (d, i) (is_found counts word n d i h)

  taken_cases : (d i : ℕ) → Contains (after_taking counts word n v).taken (d, i) → Contains v.taken (d, i) ⊎ Stands counts word n d i
  taken_cases d i h = ⊎_elim (λ old. inl old) (λ new. inr (found_is counts word n d i new)) (Contains-append_cases v.taken (found counts word n) (d, i) h)

  hits_same : (d i : ℕ) → AnyHas (λ u. u.hits) now d i → AnyHas (λ u. u.hits) views d i
  hits_same = any_still (λ u. u.hits) views id v (after_taking counts word n v) there refl

  hits_still : (d i : ℕ) → AnyHas (λ u. u.hits) views d i → AnyHas (λ u. u.hits) now d i
  hits_still = any_more (λ u. u.hits) views id v (after_taking counts word n v) there (λ d i h. h)

  taken_still : (d i : ℕ) → AnyHas (λ u. u.taken) views d i → AnyHas (λ u. u.taken) now d i
  taken_still = any_more (λ u. u.taken) views id v (after_taking counts word n v) there (λ d i h. Contains-append_left v.taken (found counts word n) (d, i) h)

  pending_was : (d i : ℕ) → Contains (after_taking counts word n v).pending (d, i) → (IsIn counts word d i → ⊥) × Contains v.pending (d, i)
  pending_was d i h = kept_is (λ (x : ℕ × ℕ). IsIn counts word x.0 x.1 → ⊥) (is_out counts word) v.pending (d, i) h

  settled_cases : (d i : ℕ) → Contains (after_taking counts word n v).settled (d, i) → Contains v.settled (d, i) ⊎ (IsIn counts word d i × Contains v.hits (d, i))
  settled_cases d i h = ⊎_elim
      (λ old. inl old)
      (λ new. inr (kept_is (λ (x : ℕ × ℕ). IsIn counts word x.0 x.1) (is_in counts word) v.hits (d, i) new))
      (Contains-append_cases v.settled (keep (λ (x : ℕ × ℕ). IsIn counts word x.0 x.1) (is_in counts word) v.hits) (d, i) h)

  -- what was a hit is still set or taken
  hit_now : (d i : ℕ) → AnyHas (λ u. u.hits) views d i → IsSet counts after d i ⊎ AnyHas (λ u. u.taken) now d i
  hit_now d i l = ⊎_elim
      (λ s. elim (is_in counts word (d, i)) as (λ _. IsSet counts after d i ⊎ AnyHas (λ u. u.taken) now d i) [
        | yes h ↦ inr (any_mine (λ u. u.taken) views id v (after_taking counts word n v) there d i (new_taken d i (set_stands d i h s)))
        | no out ↦ inl (still d i (k.in_range d i l) out s)
      ])
      (λ t. inr (taken_still d i t))
      (k.hit_is_set_or_taken d i l)

  alone_still : IsAlone counts words v → IsAlone counts after (after_taking counts word n v)
  alone_still mine = record {
    all = mine.all;
    set_is_pending = λ d i r s. let w = was d i r s in is_kept (λ (x : ℕ × ℕ). IsIn counts word x.0 x.1 → ⊥) (is_out counts word) v.pending (d, i) w.0 (mine.set_is_pending d i r w.1);
    pending_is_set = λ d i h. let w = pending_was d i h in still d i (k.pending_in_range d i (id, v, there, w.1)) w.0 (mine.pending_is_set d i w.1);
  }

  pub kept_taking : IsKept counts after now
  kept_taking = record {
    enough = omega (arith, k.enough, length-set words word 0);
    in_range = λ d i l. k.in_range d i (hits_same d i l);
    pending_in_range = λ d i l. ⊎_elim
        (λ mine. k.pending_in_range d i (id, v, there, (pending_was d i mine).1))
        (k.pending_in_range d i)
        (any_less (λ u. u.pending) views id v (after_taking counts word n v) there d i l);
    set_is_hit = λ d i r s. hits_still d i (k.set_is_hit d i r (was d i r s).1);
    taken_is_hit = λ d i l. hits_still d i (⊎_elim
        (λ mine. ⊎_elim (λ old. k.taken_is_hit d i (id, v, there, old)) (λ new. k.set_is_hit d i new.0.0.0 (stands_is_set d i new)) (taken_cases d i mine))
        (k.taken_is_hit d i)
        (any_less (λ u. u.taken) views id v (after_taking counts word n v) there d i l));
    hit_is_set_or_taken = λ d i l. hit_now d i (hits_same d i l);
    settled_is_taken = λ d i l. ⊎_elim
        (λ mine. ⊎_elim
        (λ old. taken_still d i (k.settled_is_taken d i (id, v, there, old)))
        (λ new. ⊎_elim (λ s. absurd ((was d i new.0.0.0 s).0 new.0)) (λ done. done) (hit_now d i (id, v, there, new.1)))
        (settled_cases d i mine))
        (λ old. taken_still d i (k.settled_is_taken d i old))
        (any_less (λ u. u.settled) views id v (after_taking counts word n v) there d i l);
    spent = λ j u e none. ⊎_elim
        (λ t. absurd (omega (arith, part, ap (λ (x : View). x.part) t.1, none)))
        (λ t. k.spent j u t.1 none)
        (at_set views id j (after_taking counts word n v) u e);
    all_parts = omega (arith, sum_of_parts-set views id v (after_taking counts word n v) there, k.all_parts);
    alone = λ j u e is. ⊎_elim
        (λ t. subst (IsAlone counts after) t.1 (alone_still (k.alone id v there (ap (λ (x : View). x.alone) t.1 ∙ is))))
        (λ t. absurd (omega (arith, part, parts_le views id j v u t.0 there t.1, (k.alone j u t.1 is).all, k.all_parts)))
        (at_set views id j (after_taking counts word n v) u e);
  }

  pub tells_taking : {S : Type 0} (carried : List (ℕ × S)) → TakesWord counts word (v, carried) n (after_taking counts word n v, carried)
  tells_taking carried =
      let w = after_taking counts word n v in
      let kept = kept_taking in
      let here : get_elem? now id ≡ some w = set_here views id w (at_length views id v there) in
      record {
        slots = refl;
        same_hits = refl;
        same_part = refl;
        same_alone = refl;
        taken = (found counts word n, refl, λ d i. (found_is counts word n d i, is_found counts word n d i));
        pending = λ d i. (
          (λ h. let t = pending_was d i h in (t.1, t.0)),
          (λ t. is_kept (λ (x : ℕ × ℕ). IsIn counts word x.0 x.1 → ⊥) (is_out counts word) v.pending (d, i) t.1 t.0),
        );
        settled = λ d i. (
          (λ h. ⊎_elim (λ old. inl old) (λ new. inr (new.1, new.0)) (settled_cases d i h)),
          (λ h. ⊎_elim
              (λ old. Contains-append_left v.settled (keep (λ (x : ℕ × ℕ). IsIn counts word x.0 x.1) (is_in counts word) v.hits) (d, i) old)
              (λ t. Contains-append_right v.settled (keep (λ (x : ℕ × ℕ). IsIn counts word x.0 x.1) (is_in counts word) v.hits) (d, i)
              (is_kept (λ (x : ℕ × ℕ). IsIn counts word x.0 x.1) (is_in counts word) v.hits (d, i) t.1 t.0))
              h),
        );
        in_range = λ d i h. ⊎_elim (λ x. k.in_range d i (id, v, there, x)) (λ x. k.pending_in_range d i (id, v, there, x)) h;
        settled_is_taken = λ all d i h. only_mine (λ u. u.taken) now id w here kept.all_parts all (λ j u e z. (kept.spent j u e z).1) d i (kept.settled_is_taken d i (id, w, here, h));
        taken_is_hit = λ all d i h. only_mine (λ u. u.hits) now id w here kept.all_parts all (λ j u e z. (kept.spent j u e z).0) d i (kept.taken_is_hit d i (id, w, here, h));
        stood_alone = λ is d i h. (
          (λ b. (k.alone id v there is).set_is_pending d i h.0.0 (stands_is_set d i (h, b))),
          (λ p. (set_stands d i h ((k.alone id v there is).pending_is_set d i p)).1),
        );
      }

module _ {S : Type 0} where
  pub swap_keeps : (counts : List ℕ) (slots id : ℕ) (me : Me S View) (word : ℕ) → 0 < me.0.part
      → Allows (λ (s : State S View). IsKept counts s.words s.views) slots id me word (λ _. 0) (TakesWord counts word me)
  swap_keeps counts slots id me word part s k homes there small = (
    after_taking counts word (get_or s.words word 0) me.0,
    keeps,
    tt,
    kept_taking counts s.words s.views id word me.0 k there part,
    tells_taking counts s.words s.views id word me.0 k there part me.1,
  )
