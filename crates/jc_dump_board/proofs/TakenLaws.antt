-- The hits of one word more are taken.
use Rattle.std.proofs.Common.{◌≡◌, ◌⊎◌, ℕ, ◌+◌, ◌*◌, ◌%◌, ◌^◌, ◌<◌, ◌≤◌, List, [], ◌++◌, Bool, length, true, sym, ap, refl, inl, inr, ⊎_elim, ◌∙◌, subst, arith, append-nil, append_assoc, div-add-mod'}
use Rattle.std.specs.Prelude.{Contains, ◌↔◌, slice_index}
use Rattle.std.specs.Int.{bit_at}
use Rattle.std.proofs.lemmas.List.Elements.{Contains-append_left, Contains-append_right, Contains-append_cases}
use native.Mathlib.Decide.{dec_lt, ℕ_discrete}
use Rattle.atomic_table.specs.Table.{Me}
use Rattle.jc_programs.specs.Probes.{counts_of, IsHit}
use Rattle.jc_board.specs.Places.{words_of, first_word, word_at}
use Rattle.jc_board.specs.Rule.{IsProbe}
use Rattle.jc_board.specs.Views.{whole}
use Rattle.jc_board.proofs.PlaceLaws.{same_word, word_below}
use Rattle.jc_board.proofs.ViewLaws.{nothing}
use Rattle.jc_dump_board.specs.declared.seat.View.{View}
use Rattle.jc_dump_board.specs.Taking.{IsIn, Stands, TakesWord, Taken}
use Rattle.jc_dump_board.proofs.ListLaws.{no_element}

-- nothing is taken yet
pub taken_none : (counts : List ℕ) (v : View) (into : List (List Bool)) → Taken counts 0 v v into into
taken_none counts v into = record {
  same_hits = refl;
  same_part = refl;
  same_alone = refl;
  same_counts = refl;
  gained = ([], sym (append-nil v.taken), λ c i. ((λ h. inl h), (λ h. ⊎_elim (λ x. x) (λ x. absurd (nothing {A = ℕ × ℕ} (c, i) x)) h)));
  pending = λ c i. ((λ h. (h, omega arith)), (λ t. t.0));
  settled = λ c i. ((λ h. inl h), (λ h. ⊎_elim (λ x. x) (λ t. let lt = t.1 in absurd (omega (arith, lt))) h));
  in_range = λ lt. absurd (omega (arith, lt));
  settled_is_taken = λ lt. absurd (omega (arith, lt));
  taken_is_hit = λ lt. absurd (omega (arith, lt));
  alone = λ is c i. ((λ h. inl h), (λ h. ⊎_elim (λ x. x) (λ t. let lt = t.1 in absurd (omega (arith, lt))) h));
}

module _ {S : Type 0} (counts : List ℕ) (word : ℕ) (was : View) (now : Me S View) (n : ℕ) (after : Me S View) (into_was into put : List (List Bool))
    (k : Taken counts word was now.0 into_was into) (takes : TakesWord counts word now n after) (counts_put : counts_of put ≡ counts_of into)
    (puts : (c i : ℕ) → IsHit put c i ↔ (IsHit into c i ⊎ Stands counts word n c i)) where
  probe : (c i : ℕ) → Contains was.hits (c, i) ⊎ Contains was.pending (c, i) → Contains now.0.pending (c, i) ⊎ (Contains was.hits (c, i) ⊎ (word_at counts c i < word)) → IsProbe counts c i
  probe c i h more = ⊎_elim
      (λ p. takes.in_range c i (inr p))
      (λ rest. ⊎_elim
      (λ x. takes.in_range c i (inl (subst (λ (l : List (ℕ × ℕ)). Contains l (c, i)) (sym k.same_hits) x)))
      (λ lt. k.in_range (omega (arith, lt)) c i h)
      rest)
      more

  -- a pending hit of the word is one of its probes
  mine_pending : (c i : ℕ) → Contains was.pending (c, i) → word_at counts c i ≡ word → IsIn counts word c i × Contains now.0.pending (c, i)
  mine_pending c i h e =
      let there = (k.pending c i).1 (h, omega (arith, e)) in
      ((takes.in_range c i (inr there), e), there)

  alone_more : was.alone ≡ true → (c i : ℕ) → IsHit put c i ↔ (IsHit into_was c i ⊎ (Contains was.pending (c, i) × (word_at counts c i < word + 1)))
  alone_more is c i = (
    λ h. ⊎_elim
        (λ old. ⊎_elim (λ x. inl x) (λ t. let lt = t.1 in inr (t.0, omega (arith, lt))) ((k.alone is c i).0 old))
        (λ new. let e = new.0.1 in inr (((k.pending c i).0 ((takes.stood_alone (k.same_alone ∙ is) c i new.0).0 new.1)).0, omega (arith, e)))
        ((puts c i).0 h),
    λ h. ⊎_elim
        (λ x. (puts c i).1 (inl ((k.alone is c i).1 (inl x))))
        (λ t. let lt = t.1 in elim (ℕ_discrete (word_at counts c i) word) as (λ _. IsHit put c i) [
          | yes e ↦ let m = mine_pending c i t.0 e in (puts c i).1 (inr (m.0, (takes.stood_alone (k.same_alone ∙ is) c i m.0).1 m.1))
          | no ne ↦ (puts c i).1 (inl ((k.alone is c i).1 (inr (t.0, omega (arith, lt, ne)))))
        ])
        h,
  )

  gained_more : (found : List (ℕ × ℕ)) × (after.0.taken ≡ was.taken ++ found) × ((c i : ℕ) → IsHit put c i ↔ (IsHit into_was c i ⊎ Contains found (c, i)))
  gained_more =
      let old = k.gained.0 in
      let new = takes.taken.0 in (
        old ++ new,
        takes.taken.1 ∙ ap (λ (l : List (ℕ × ℕ)). l ++ new) k.gained.1 ∙ append_assoc was.taken old new,
        λ c i. (
          λ h. ⊎_elim
              (λ x. ⊎_elim (λ y. inl y) (λ y. inr (Contains-append_left old new (c, i) y)) ((k.gained.2 c i).0 x))
              (λ x. inr (Contains-append_right old new (c, i) ((takes.taken.2 c i).1 x)))
              ((puts c i).0 h),
          λ h. (puts c i).1 (⊎_elim
              (λ x. inl ((k.gained.2 c i).1 (inl x)))
              (λ x. ⊎_elim (λ y. inl ((k.gained.2 c i).1 (inr y))) (λ y. inr ((takes.taken.2 c i).0 y)) (Contains-append_cases old new (c, i) x))
              h),
        ),
      )

  pending_more : (c i : ℕ) → Contains after.0.pending (c, i) ↔ (Contains was.pending (c, i) × (word + 1 ≤ word_at counts c i))
  pending_more c i = (
    λ h. let t = (takes.pending c i).0 h in let old = (k.pending c i).0 t.0 in let le = old.1 in
        elim (ℕ_discrete (word_at counts c i) word) as (λ _. Contains was.pending (c, i) × (word + 1 ≤ word_at counts c i)) [
          | yes e ↦ absurd (t.1 (mine_pending c i old.0 e).0)
          | no ne ↦ (old.0, omega (arith, le, ne))
        ],
    λ t. let le = t.1 in (takes.pending c i).1 ((k.pending c i).1 (t.0, omega (arith, le)), λ x. let e = x.1 in omega (arith, le, e)),
  )

  settled_more : (c i : ℕ) → Contains after.0.settled (c, i) ↔ (Contains was.settled (c, i) ⊎ (Contains was.hits (c, i) × (word_at counts c i < word + 1)))
  settled_more c i =
      let hits_now = λ (h : Contains was.hits (c, i)). subst (λ (l : List (ℕ × ℕ)). Contains l (c, i)) (sym k.same_hits) h in
      let hits_was = λ (h : Contains now.0.hits (c, i)). subst (λ (l : List (ℕ × ℕ)). Contains l (c, i)) k.same_hits h in (
        λ h. ⊎_elim
            (λ x. ⊎_elim (λ y. inl y) (λ t. let lt = t.1 in inr (t.0, omega (arith, lt))) ((k.settled c i).0 x))
            (λ t. let e = t.1.1 in inr (hits_was t.0, omega (arith, e)))
            ((takes.settled c i).0 h),
        λ h. (takes.settled c i).1 (⊎_elim
            (λ x. inl ((k.settled c i).1 (inl x)))
            (λ t. let lt = t.1 in elim (ℕ_discrete (word_at counts c i) word) as (λ _. Contains now.0.settled (c, i) ⊎ (Contains now.0.hits (c, i) × IsIn counts word c i)) [
              | yes e ↦ inr (hits_now t.0, (takes.in_range c i (inl (hits_now t.0)), e))
              | no ne ↦ inl ((k.settled c i).1 (inr (t.0, omega (arith, lt, ne))))
            ])
            h),
      )

  pub taken_more : Taken counts (word + 1) was after.0 into_was put
  taken_more = record {
    same_hits = takes.same_hits ∙ k.same_hits;
    same_part = takes.same_part ∙ k.same_part;
    same_alone = takes.same_alone ∙ k.same_alone;
    same_counts = counts_put ∙ k.same_counts;
    gained = gained_more;
    pending = pending_more;
    settled = settled_more;
    in_range = λ lt c i h. ⊎_elim
        (λ x. probe c i h (inr (inl x)))
        (λ x. elim (dec_lt (word_at counts c i) word) as (λ _. IsProbe counts c i) [
          | yes below ↦ probe c i h (inr (inr below))
          | no above ↦ probe c i h (inl ((k.pending c i).1 (x, omega (arith, above))))
        ])
        h;
    settled_is_taken = λ lt all. takes.settled_is_taken (k.same_part ∙ all);
    taken_is_hit = λ lt all. takes.taken_is_hit (k.same_part ∙ all);
    alone = alone_more;
  }

-- which probes lie in a word of a class
pub in_word : (counts : List ℕ) (class nth : ℕ) → class < length counts → class < 2 ^ 32 → nth * 64 < slice_index counts class → (c i : ℕ)
    → IsIn counts (first_word counts class + nth) c i ↔ ((c ≡ class) × (nth * 64 ≤ i) × (i < nth * 64 + 64) × (i < slice_index counts class))
in_word counts class nth in_class small in_row c i = (
  λ h.
      let same = same_word counts c i class (nth * 64) h.0.0 (in_class, in_row) (omega (arith, h.1, div-add-mod' (nth * 64) 64)) in (
        same.0,
        omega (arith, same.1, div-add-mod' (nth * 64) 64, div-add-mod' i 64),
        omega (arith, same.1, div-add-mod' (nth * 64) 64, div-add-mod' i 64),
        subst (λ d. i < slice_index counts d) same.0 h.0.0.1,
      ),
  λ t.
      let low = t.1 in let high = t.2 in
      subst (λ d. IsIn counts (first_word counts class + nth) d i) (sym t.0) (((in_class, t.3), small), omega (arith, low, high, div-add-mod' i 64)),
)

-- the hits of all words are taken
module _ (counts : List ℕ) (end : ℕ) (was now : View) (into_was into : List (List Bool)) (some : 0 < end) (within : (c i : ℕ) → IsProbe counts c i → word_at counts c i < end)
    (k : Taken counts end was now into_was into) where
  pub all_pending : now.pending ≡ []
  all_pending = no_element now.pending (λ x h. let t = (k.pending x.0 x.1).0 h in let le = t.1 in omega (arith, le, within x.0 x.1 (k.in_range some x.0 x.1 (inr t.0))))

  pub all_settled : (c i : ℕ) → Contains now.settled (c, i) ↔ (Contains was.settled (c, i) ⊎ Contains was.hits (c, i))
  all_settled c i = (
    λ h. ⊎_elim (λ x. inl x) (λ t. inr t.0) ((k.settled c i).0 h),
    λ h. (k.settled c i).1 (⊎_elim (λ x. inl x) (λ x. inr (x, within c i (k.in_range some c i (inl x)))) h),
  )

  pub all_whole : was.part ≡ whole → (c i : ℕ) → Contains now.taken (c, i) ↔ Contains now.hits (c, i)
  all_whole part c i = (
    k.taken_is_hit some part c i,
    λ h. k.settled_is_taken some part c i ((all_settled c i).1 (inr (subst (λ (l : List (ℕ × ℕ)). Contains l (c, i)) k.same_hits h))),
  )

  pub all_alone : was.alone ≡ true → (c i : ℕ) → IsHit into c i ↔ (IsHit into_was c i ⊎ Contains was.pending (c, i))
  all_alone is c i = (
    λ h. ⊎_elim (λ x. inl x) (λ t. inr t.0) ((k.alone is c i).0 h),
    λ h. (k.alone is c i).1 (⊎_elim (λ x. inl x) (λ x. inr (x, within c i (k.in_range some c i (inr x)))) h),
  )

-- what is put of a word of a class is what stands in that word
pub class_puts : (counts : List ℕ) (class nth start count bits : ℕ) → class < length counts → class < 2 ^ 32 → slice_index counts class ≡ count → start ≡ first_word counts class → nth * 64 < count
    → (into put : List (List Bool))
    → ((c i : ℕ) → IsHit put c i ↔ (IsHit into c i ⊎ ((c ≡ class) × (nth * 64 ≤ i) × (i < nth * 64 + 64) × (i < count) × (bit_at bits (i % 64) ≡ 1))))
    → (c i : ℕ) → IsHit put c i ↔ (IsHit into c i ⊎ Stands counts (start + nth) bits c i)
class_puts counts class nth start count bits in_class small row at in_row into put puts c i =
    let word = in_word counts class nth in_class small (omega (arith, row, in_row)) c i in (
      λ h. ⊎_elim
          (λ x. inl x)
          (λ t. inr (subst (λ w. IsIn counts (w + nth) c i) (sym at) (word.1 (t.0, t.1, t.2, subst (λ m. i < m) (sym row) t.3)), t.4))
          ((puts c i).0 h),
      λ h. (puts c i).1 (⊎_elim
          (λ x. inl x)
          (λ t. let w = word.0 (subst (λ w. IsIn counts (w + nth) c i) at t.0) in inr (w.0, w.1, w.2, subst (λ m. i < m) row w.3, t.1))
          h),
    )

-- each probe lies in front of the end
pub probe_within : (counts items : List ℕ) (end words : ℕ) → counts ≡ items → words_of items ≤ words → end ≡ words → (c i : ℕ) → IsProbe counts c i → word_at counts c i < end
probe_within counts items end words same enough all c i p = omega (arith, word_below counts c i p.0, ap words_of same, enough, all)
