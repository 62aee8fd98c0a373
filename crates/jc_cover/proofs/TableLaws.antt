-- Tables of sources and of marks, on the way to a whole.
use Rattle.std.proofs.Common.{◌≡◌, ℕ, zero, suc, ◌+◌, ◌<◌, Bool, true, false, List, [], ◌∷◌, length, get_or, set, drop, Option, Some, None, refl, sym, ap, ◌∙◌}
use Rattle.std.specs.List.{list_any}
use Rattle.std.proofs.lemmas.List.{length-set}
use Rattle.jc_bytes.proofs.AppendingLaws.{drop_is}
use Rattle.jc_cover.specs.Marking.{with_source, unless_marked, at_source, mark_back, mark_if}
use Rattle.jc_cover.specs.Planned.{free_place, with_branches, with_insns, is_hit_branch, mark_insns}
use Rattle.jc_cover.specs.declared.planned.PlannedBranch.{PlannedBranch}

-- what is left to do gives the whole, and the table keeps its size
pub record Putting {X : Type 0} (left : List X → List X) (whole : List X) (size : ℕ) (table : List X) : Type 0 where
  pub gives : left table ≡ whole
  pub sized : length table ≡ size

-- ---- sources

source_size : (place : Option ℕ) (at : ℕ) (table : List (Option ℕ)) → length (with_source place at table) ≡ length table
source_size None at table = refl
source_size (Some to) at table = length-set table to (Some at)

branches_size : (at : ℕ) (xs : List PlannedBranch) (table : List (Option ℕ)) → length (with_branches at xs table) ≡ length table
branches_size at [] table = refl
branches_size at (x ∷ xs) table = branches_size at xs (with_source (free_place x) at table) ∙ source_size (free_place x) at table

-- one instruction more
pub insn_put : (insns : List (List PlannedBranch)) (k : ℕ) (xs : List PlannedBranch) (whole table next : List (Option ℕ)) (size : ℕ) → k < length insns → xs ≡ get_or insns k xs
    → next ≡ with_branches k xs table → Putting (with_insns k (drop k insns)) whole size table → Putting (with_insns (k + 1) (drop (k + 1) insns)) whole size next
insn_put insns k xs whole table next size lt is e p = record {
  gives = ap (with_insns (k + 1) (drop (k + 1) insns)) e ∙ sym (ap (λ l. with_insns k l table) (drop_is insns k xs lt is)) ∙ p.gives;
  sized = ap length e ∙ branches_size k xs table ∙ p.sized;
}

-- ---- marks

back_size : (from : List (Option ℕ)) (n i : ℕ) (marks : List Bool) → length (mark_back from n i marks) ≡ length marks
back_size from zero i marks = refl
back_size from (suc n) i marks = by (λ k m. back_size from n k m) (get_or marks i true)
  where
    by_source : ((k : ℕ) (m : List Bool) → length (mark_back from n k m) ≡ length m) → (o : Option ℕ) → length (at_source o (mark_back from n) (set marks i true)) ≡ length marks
    by_source again None = length-set marks i true
    by_source again (Some k) = again k (set marks i true) ∙ length-set marks i true

    by : ((k : ℕ) (m : List Bool) → length (mark_back from n k m) ≡ length m) → (m : Bool)
        → length (unless_marked m (λ old. at_source (get_or from i None) (mark_back from n) (set old i true)) marks) ≡ length marks
    by again true = refl
    by again false = by_source again (get_or from i None)

mark_size : (from : List (Option ℕ)) (n i : ℕ) (t : Bool) (marks : List Bool) → length (mark_if t (mark_back from n i) marks) ≡ length marks
mark_size from n i true marks = back_size from n i marks
mark_size from n i false marks = refl

-- one instruction more
pub insn_marked : (hits : List Bool) (from : List (Option ℕ)) (n : ℕ) (insns : List (List PlannedBranch)) (k : ℕ) (xs : List PlannedBranch) (whole table next : List Bool) (size : ℕ)
    → k < length insns → xs ≡ get_or insns k xs → next ≡ mark_if (list_any (is_hit_branch hits) xs) (mark_back from n k) table
    → Putting (mark_insns hits from n k (drop k insns)) whole size table → Putting (mark_insns hits from n (k + 1) (drop (k + 1) insns)) whole size next
insn_marked hits from n insns k xs whole table next size lt is e p = record {
  gives = ap (mark_insns hits from n (k + 1) (drop (k + 1) insns)) e ∙ sym (ap (λ l. mark_insns hits from n k l table) (drop_is insns k xs lt is)) ∙ p.gives;
  sized = ap length e ∙ mark_size from n k (list_any (is_hit_branch hits) xs) table ∙ p.sized;
}
