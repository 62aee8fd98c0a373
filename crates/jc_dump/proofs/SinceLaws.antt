-- A hit more, and none yet.
use Rattle.std.proofs.Common.{◌≡◌, ◌⊎◌, ℕ, List, [], ◌∷◌, ◌++◌, drop, length, sym, ap, refl, inl, inr, ⊎_elim, ◌∙◌, subst, append-nil, append_assoc}
use Rattle.std.specs.Prelude.{Contains, ◌↔◌}
use Rattle.std.proofs.lemmas.List.Elements.{Contains-append_left, Contains-append_right, Contains-append_cases}
use Rattle.jc_dump_board.specs.Seen.{DumpSeatSeen}
use Rattle.jc_dump.specs.Since.{PendingAreHits, hit_since, HitsSince}

drop_all : {A : Type 0} (l : List A) → drop (length l) l ≡ []
drop_all [] = refl
drop_all (x ∷ xs) = drop_all xs

drop_front : {A : Type 0} (l m : List A) → drop (length l) (l ++ m) ≡ m
drop_front [] m = refl
drop_front (x ∷ xs) m = drop_front xs m

-- none yet
pub since_now : (was seat : DumpSeatSeen) → seat ≡ was → HitsSince was seat
since_now was seat is = subst (λ (w : DumpSeatSeen). HitsSince w seat) is (record {
  same_table = refl;
  same_taken = refl;
  same_settled = refl;
  same_part = refl;
  same_alone = refl;
  hits = sym (ap (λ (l : List (ℕ × ℕ)). seat.hits ++ l) (drop_all seat.hits) ∙ append-nil seat.hits);
  pending = sym (ap (λ (l : List (ℕ × ℕ)). seat.pending ++ l) (drop_all seat.hits) ∙ append-nil seat.pending);
})

-- the same pair stands behind both lists
pub since_hit : (was before after : DumpSeatSeen) (c i : ℕ) → HitsSince was before → after.table ≡ before.table → after.taken ≡ before.taken
    → after.settled ≡ before.settled → after.part ≡ before.part → after.alone ≡ before.alone → after.hits ≡ before.hits ++ (c, i) ∷ []
    → after.pending ≡ before.pending ++ (c, i) ∷ [] → HitsSince was after
since_hit was before after c i k table taken settled part alone hits pending =
    let since = hit_since was before in
    let new : List (ℕ × ℕ) = (c, i) ∷ [] in
    let all : after.hits ≡ was.hits ++ (since ++ new) = hits ∙ ap (λ (l : List (ℕ × ℕ)). l ++ new) k.hits ∙ append_assoc was.hits since new in
    let rest : hit_since was after ≡ since ++ new = ap (drop (length was.hits)) all ∙ drop_front was.hits (since ++ new) in
    record {
      same_table = table ∙ k.same_table;
      same_taken = taken ∙ k.same_taken;
      same_settled = settled ∙ k.same_settled;
      same_part = part ∙ k.same_part;
      same_alone = alone ∙ k.same_alone;
      hits = all ∙ ap (λ (l : List (ℕ × ℕ)). was.hits ++ l) (sym rest);
      pending = pending ∙ ap (λ (l : List (ℕ × ℕ)). l ++ new) k.pending ∙ append_assoc was.pending since new
          ∙ ap (λ (l : List (ℕ × ℕ)). was.pending ++ l) (sym rest);
    }

-- what the seat has hit is what it had, and what is pending
pub since_hits : (was now : DumpSeatSeen) → PendingAreHits was → HitsSince was now
    → (c i : ℕ) → Contains now.hits (c, i) ↔ (Contains was.hits (c, i) ⊎ Contains now.pending (c, i))
since_hits was now pending k c i =
    let since = hit_since was now in (
      λ h. ⊎_elim
          (λ x. inl x)
          (λ x. inr (subst (λ (l : List (ℕ × ℕ)). Contains l (c, i)) (sym k.pending) (Contains-append_right was.pending since (c, i) x)))
          (Contains-append_cases was.hits since (c, i) (subst (λ (l : List (ℕ × ℕ)). Contains l (c, i)) k.hits h)),
      λ h. subst (λ (l : List (ℕ × ℕ)). Contains l (c, i)) (sym k.hits) (⊎_elim
          (λ x. Contains-append_left was.hits since (c, i) x)
          (λ x. ⊎_elim
          (λ old. Contains-append_left was.hits since (c, i) (pending c i old))
          (λ new. Contains-append_right was.hits since (c, i) new)
          (Contains-append_cases was.pending since (c, i) (subst (λ (l : List (ℕ × ℕ)). Contains l (c, i)) k.pending x)))
          h),
    )
