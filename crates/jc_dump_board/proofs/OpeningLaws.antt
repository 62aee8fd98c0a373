-- A board of which nothing is hit yet keeps its rule.
use Rattle.std.proofs.Common.{◌≡◌, ℕ, zero, suc, ◌%◌, ◌≤◌, List, [], ◌∷◌, length, sym, ap, refl, ◌∙◌, subst, arith}
use Rattle.std.specs.Prelude.{Contains, slice_index}
use Rattle.std.specs.Int.{bit_at}
use Rattle.std.proofs.lemmas.Nat.Bits.{bit_at-zero}
use mathlib.Core.Option.{some, some-injective, some-ne-none}
use lib.ListN.{get_elem?}
use Rattle.jc_board.specs.Places.{words_of, word_at}
use Rattle.jc_board.specs.Rule.{IsSet}
use Rattle.jc_board.proofs.ViewLaws.{nothing}
use Rattle.jc_dump_board.specs.declared.seat.View.{View}
use Rattle.jc_dump_board.specs.Rule.{AnyHas, IsAlone, IsKept}
use Rattle.jc_dump_board.specs.Views.{only_view}

at_one : (x v : View) (k : ℕ) → get_elem? (x ∷ []) k ≡ some v → x ≡ v
at_one x v zero e = some-injective x v e
at_one x v (suc k) e = absurd (some-ne-none v (sym e))

nobody : (list : View → List (ℕ × ℕ)) → list only_view ≡ [] → (c i : ℕ) → AnyHas list (only_view ∷ []) c i → ⊥
nobody list none c i l = nothing {A = ℕ × ℕ} (c, i) (subst (λ (xs : List (ℕ × ℕ)). Contains xs (c, i)) none (subst (λ (u : View). Contains (list u) (c, i)) (sym (at_one only_view l.1 l.0 l.2)) l.3))

module _ (counts words : List ℕ) (zeros : (k : ℕ) → slice_index words k ≡ 0) where
  unset : (c i : ℕ) → IsSet counts words c i → ⊥
  unset c i s = omega (arith, sym (ap (λ n. bit_at n (i % 64)) (zeros (word_at counts c i))) ∙ s, bit_at-zero (i % 64))

  pub opening_keeps : words_of counts ≤ length words → IsKept counts words (only_view ∷ [])
  opening_keeps enough = record {
    enough = enough;
    in_range = λ c i l. absurd (nobody (λ u. u.hits) refl c i l);
    pending_in_range = λ c i l. absurd (nobody (λ u. u.pending) refl c i l);
    set_is_hit = λ c i r s. absurd (unset c i s);
    taken_is_hit = λ c i l. absurd (nobody (λ u. u.taken) refl c i l);
    hit_is_set_or_taken = λ c i l. absurd (nobody (λ u. u.hits) refl c i l);
    settled_is_taken = λ c i l. absurd (nobody (λ u. u.settled) refl c i l);
    spent = λ k v e none. absurd (omega (arith, ap (λ (u : View). u.part) (at_one only_view v k e), none));
    all_parts = refl;
    alone = λ k v e is. subst (IsAlone counts words) (at_one only_view v k e) (record {
      all = refl;
      set_is_pending = λ c i r s. absurd (unset c i s);
      pending_is_set = λ c i h. absurd (nothing {A = ℕ × ℕ} (c, i) h);
    });
  }
