-- A dump is taken into a set that holds no hit.
use Rattle.std.proofs.Common.{◌≡◌, ◌⊎◌, ℕ, List, [], ◌++◌, Bool, true, inr, ⊎_elim, subst}
use Rattle.std.specs.Prelude.{Contains, ◌↔◌}
use Rattle.jc_programs.specs.Probes.{counts_of, no_hits, IsHit}
use Rattle.jc_board.proofs.HitSetLaws.{no_hit}
use Rattle.jc_dump_board.specs.Seen.{DumpSeatSeen}
use Rattle.jc_dump.specs.HasRun.{Takes}

module _ (all : List ℕ) (was dump : List (List Bool)) (none : was ≡ no_hits all) (class id : ℕ) where
  -- what it has was put there
  only_these : {P : Type 0} → (IsHit dump class id ↔ (IsHit was class id ⊎ P)) → IsHit dump class id ↔ P
  only_these h = (
    λ x. ⊎_elim (λ old. absurd (no_hit all class id (subst (λ (s : List (List Bool)). IsHit s class id) none old))) (λ new. new) (h.0 x),
    λ p. h.1 (inr p),
  )

pub takes : (counts : List ℕ) (before after : DumpSeatSeen) (was dump : List (List Bool)) (all : List ℕ) → was ≡ no_hits all → all ≡ counts
    → after.hits ≡ before.hits → after.alone ≡ before.alone → counts_of dump ≡ counts
    → (found : List (ℕ × ℕ)) × (after.taken ≡ before.taken ++ found) × ((c i : ℕ) → IsHit dump c i ↔ (IsHit was c i ⊎ Contains found (c, i)))
    → after.pending ≡ []
    → ((c i : ℕ) → Contains after.settled (c, i) ↔ (Contains before.settled (c, i) ⊎ Contains before.hits (c, i)))
    → (before.alone ≡ true → (c i : ℕ) → IsHit dump c i ↔ (IsHit was c i ⊎ Contains before.pending (c, i)))
    → Takes counts before after dump
takes counts before after was dump all none same hits alone its_counts gained pending settled only = record {
  same_hits = hits;
  same_alone = alone;
  same_counts = its_counts;
  gained = (gained.0, gained.1, λ c i. only_these all was dump none c i (gained.2 c i));
  pending = pending;
  settled = settled;
  only = λ a c i. only_these all was dump none c i (only a c i);
}
