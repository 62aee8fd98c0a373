-- Dumps that are put at the places of their numbers.
use Rattle.std.proofs.Common.{◌≡◌, ◌⊎◌, ℕ, zero, suc, ◌+◌, ◌<◌, ◌≤◌, List, [], ◌∷◌, ◌++◌, Bool, length, map, set}
use Rattle.std.proofs.Common.{sym, ap, inl, inr, ⊎_elim, ◌∙◌, subst, arith, length-set}
use Rattle.std.specs.Prelude.{Contains, Option, Some, slice_get}
use Rattle.std.specs.List.{filter_map}
use Rattle.std.proofs.lemmas.Bool.{cases_lt}
use Rattle.std.proofs.lemmas.Bool.Decides.{nat_tests}
use Rattle.std.proofs.lemmas.List.{map-append}
use Rattle.jc_workers.specs.Claims.{times, once_below}
use Rattle.jc_workers.specs.Ran.{AreEnds}
use Rattle.jc_workers.proofs.ClaimLaws.{times-append, below_once, contains_times}
use Rattle.jc_workers.proofs.NumberLaws.{contained, once_is}
use Rattle.jc_workers.proofs.RanLaws.{last_is, set_same, set_other, all_there}
use Rattle.jc_dump.specs.HasRun.{Dumps, number, HasDump}

-- those that are left, and those at their places
pub record ArePlaced (count : ℕ) (all left : Dumps) (places : List (Option (List (List Bool)))) : Type 0 where
  pub len : length places ≡ count
  pub once : (d : ℕ) → times d (map number left) ≤ once_below d count
  pub each : (d : ℕ) (dump : List (List Bool)) → HasDump all d dump
      → HasDump left d dump ⊎ ((slice_get places d ≡ Some (Some dump)) × (times d (map number left) ≡ 0))

module _ (count : ℕ) (all left rest : Dumps) (n : ℕ) (new : List (List Bool)) (is : left ≡ rest ++ (n, new) ∷ []) where
  times_left : (d : ℕ) → times d (map number left) ≡ times d (map number rest) + times d (n ∷ [])
  times_left d = ap (λ (l : Dumps). times d (map number l)) is ∙ ap (times d) (map-append number rest ((n, new) ∷ []))
      ∙ times-append d (map number rest) (n ∷ [])

  mine : times n (n ∷ []) ≡ 1
  mine = grind (arith, nat_tests)

  module _ (places : List (Option (List (List Bool)))) (placed : ArePlaced count all left places) where
    pub is_place : n < count
    is_place = below_once n count (omega (arith, placed.once n, times_left n, mine))

    none_left : times n (map number rest) ≡ 0
    none_left = omega (arith, placed.once n, times_left n, mine, at_most n count)
      where
        at_most : (x m : ℕ) → once_below x m ≤ 1
        at_most x m = grind (arith, nat_tests)

    pub one_placed : ArePlaced count all rest (set places n (Some new))
    one_placed = record {
      len = length-set places n (Some new) ∙ placed.len;
      once = λ d. omega (arith, placed.once d, times_left d);
      each = λ d dump h. ⊎_elim
          (λ there. ⊎_elim
          (λ old. inl old)
          (λ last. inr (mine_placed d dump (ap (λ (t : ℕ × List (List Bool)). t.0) last) (ap (λ (t : ℕ × List (List Bool)). t.1) last)))
          (last_is rest (n, new) (d, dump) (subst (λ (l : Dumps). HasDump l d dump) is there)))
          (λ t. inr (set_other places n d (Some new) (apart d t.1) ∙ t.0, omega (arith, t.1, times_left d)))
          (placed.each d dump h);
    }
      where
        mine_placed : (d : ℕ) (dump : List (List Bool)) → d ≡ n → dump ≡ new
            → (slice_get (set places n (Some new)) d ≡ Some (Some dump)) × (times d (map number rest) ≡ 0)
        mine_placed d dump d_is dump_is = (
          ap (slice_get (set places n (Some new))) d_is ∙ set_same places n (Some new) (omega (arith, is_place, placed.len))
              ∙ ap (λ (x : List (List Bool)). Some (Some x)) (sym dump_is),
          ap (λ (x : ℕ). times x (map number rest)) d_is ∙ none_left,
        )

        apart : (d : ℕ) → times d (map number left) ≡ 0 → d ≡ n → ⊥
        apart d none e = omega (arith, none, ap (λ (x : ℕ). times x (map number left)) e, times_left n, mine)

-- where a number stands among those of dumps, a dump has it
numbered : (ds : Dumps) (d : ℕ) → Contains (map number ds) d → (dump : List (List Bool)) × HasDump ds d dump
numbered [] d h = absurd (omega (arith, h.1))
numbered (x ∷ xs) d (zero, lt, e) = (x.1, (0, omega arith, λ j. (e j, x.1)))
numbered (x ∷ xs) d (suc k, lt, e) = let t = numbered xs d (k, omega (arith, lt), e) in (t.0, (suc t.1.0, omega (arith, t.1.1), t.1.2))

number_there : (ds : Dumps) (d : ℕ) (dump : List (List Bool)) → HasDump ds d dump → Contains (map number ds) d
number_there [] d dump h = absurd (omega (arith, h.1))
number_there (x ∷ xs) d dump (zero, lt, e) = (0, omega arith, ap (λ (t : ℕ × List (List Bool)). t.0) e)
number_there (x ∷ xs) d dump (suc k, lt, e) = let t = number_there xs d dump (k, omega (arith, lt), e) in (suc t.0, omega (arith, t.1), t.2)

-- each number below the count is that of a dump, and no other is
module _ (count : ℕ) (all : Dumps) (once : (d : ℕ) → times d (map number all) ≡ once_below d count) where
  pub dump_of : (d : ℕ) → d < count → (dump : List (List Bool)) × HasDump all d dump
  dump_of d lt = numbered all d (contained (map number all) d (omega (arith, once d, once_is d count lt)))

  pub is_below : (d : ℕ) (dump : List (List Bool)) → HasDump all d dump → d < count
  is_below d dump h = below_once d count (omega (arith, once d, contains_times (map number all) d (number_there all d dump h)))

-- all are at their places
module _ (count : ℕ) (all : Dumps) (places : List (Option (List (List Bool)))) (once : (d : ℕ) → times d (map number all) ≡ once_below d count)
    (placed : ArePlaced count all [] places) where
  there : (d : ℕ) (dump : List (List Bool)) → HasDump all d dump → slice_get places d ≡ Some (Some dump)
  there d dump h = ⊎_elim (λ left. absurd (omega (arith, left.1))) (λ t. t.0) (placed.each d dump h)

  abbrev chosen : (d : ℕ) → (d < count) ⊎ (count ≤ d) → List (List Bool)
  chosen d (inl lt) = (dump_of count all once d lt).0
  chosen d (inr le) = []

  abbrev at_place : ℕ → List (List Bool)
  at_place d = chosen d (cases_lt d count)

  is_there : (d : ℕ) → d < count → slice_get places d ≡ Some (Some (at_place d))
  is_there d lt = by_case (cases_lt d count)
    where
      by_case : (x : (d < count) ⊎ (count ≤ d)) → slice_get places d ≡ Some (Some (chosen d x))
      by_case (inl low) = let t = dump_of count all once d low in there d t.0 t.1
      by_case (inr high) = absurd (omega (arith, high, lt))

  ends : AreEnds count at_place (filter_map (λ x. x) places)
  ends = subst (λ (n : ℕ). AreEnds n at_place (filter_map (λ x. x) places)) placed.len
      (all_there at_place places (λ d lt. is_there d (omega (arith, lt, placed.len))))

  pub all_placed : (dumps : List (List (List Bool))) → dumps ≡ filter_map (λ x. x) places
      → (length dumps ≡ count) × ((d : ℕ) (dump : List (List Bool)) → HasDump all d dump → slice_get dumps d ≡ Some dump)
  all_placed dumps is = (
    ap length is ∙ ends.count,
    λ d dump h.
        let low = is_below count all once d dump h in
        let same : at_place d ≡ dump = inner (at_place d) dump (sym (is_there d low) ∙ there d dump h) in
        ap (λ (l : List (List (List Bool))). slice_get l d) is ∙ ends.each d low ∙ ap (λ (x : List (List Bool)). Some x) same,
  )
    where
      inner : (x y : List (List Bool)) → Some (Some x) ≡ Some (Some y) → x ≡ y
      inner x y e = cc
