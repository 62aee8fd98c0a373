-- What stands at the places that are used, one entry a place, in rising order.
use Rattle.std.proofs.Common.{◌≡◌, ◌⊎◌, inl, inr, ℕ, zero, suc, ◌+◌, ◌<◌, ◌≤◌, Bool, true, false, not, cond, ◌||◌, List, [], ◌∷◌, ◌++◌, length, map, filter, take, Contains, All, IfSome, nat_eq, nat_lt, get_or, Option, Some, None, Result, Ok, Err, IfOk, refl, sym, ◌∙◌, ap, subst, arith, append_assoc}
use Rattle.std.specs.List.{list_any, dedup, AllPairs}
use Rattle.std.specs.List.Sorted.{IsSorted, IsPermutation}
use Rattle.std.specs.Ordering.{nat_cmp}
use Rattle.std.specs.Cmp.{nat_eq_equiv}
use Rattle.std.proofs.Math.Dec.{eqb}
use Rattle.std.proofs.lemmas.Bool.{true≢false, cases_order, eqb-true, eq-eqb, ne_eqb, lt-ltb, le-ltb}
use Rattle.std.proofs.lemmas.Option.{none-some, same_Some}
use Rattle.std.proofs.lemmas.Grind.{flat_map-append}
use Rattle.std.proofs.lemmas.List.{append-nil, take_more}
use Rattle.std.proofs.lemmas.List.Elements.{All-push, Contains-append_left, Contains-append_right}
use Rattle.std.proofs.lemmas.List.Kept.{Contains-dedup_nat, Contains-from_dedup, AllPairs-from_increasing}
use Rattle.std.proofs.lemmas.List.Sorted.{list_any-IsPermutation}
use Rattle.std.proofs.lemmas.Map.Keys.{IsStrictlyIncreasing-dedup}
use Rattle.std.proofs.lemmas.Map.Views.{Contains-from_any, list_any-from_Contains}
use Rattle.jc_bytes.specs.declared.fail.Memory.{Memory}
use Rattle.jc_methods.specs.declared.insn.Insn.{Insn}
use Rattle.jc_methods.specs.declared.body.Use.{Use}
use Rattle.jc_methods.specs.declared.body.What.{What}
use Rattle.jc_methods.specs.InsnUse.{pool_place}
use Rattle.jc_methods.specs.WellMade.{HasUse, HasShortTexts, entries_for, what_used}
use Rattle.jc_bytes.proofs.BooleanLaws.{in_map}
use Rattle.jc_bytes.proofs.ListLaws.{flat_in}
use Rattle.jc_pool.specs.Pool.{PoolValue}
use Rattle.jc_body.specs.declared.items.Row.{Row}
use Rattle.jc_body.specs.BodyOf.{some_of, insn_places, row_places, places_used, used_at, AreRisingFrom, AreUsesOf}
use Rattle.jc_body.specs.Used.{use_of, uses_of}
use Rattle.jc_body.specs.Standing.{what_at}

-- ---- entries whose places rise

-- no place is below the first
above : (first : ℕ) (uses : List Use) → AreRisingFrom first uses → (j : ℕ) (d : Use) → j < length uses → first ≤ (get_or uses j d).place
above first [] rising j d inside = absurd (omega (arith, inside))
above first (u ∷ us) rising zero d inside = rising.0
above first (u ∷ us) rising (suc j) d inside = let behind = above (u.place + 1) us rising.1 j d (omega (arith, inside)) in omega (arith, behind, rising.0)

-- what stands at the place of an entry is what that entry says
pub entry_used : (first : ℕ) (uses : List Use) → AreRisingFrom first uses → (j : ℕ) (d : Use) → j < length uses → what_used uses (get_or uses j d).place ≡ Some (get_or uses j d).what
entry_used first [] rising j d inside = absurd (omega (arith, inside))
entry_used first (u ∷ us) rising zero d inside = rw (eq-eqb u.place u.place refl) refl
entry_used first (u ∷ us) rising (suc j) d inside =
    let behind = above (u.place + 1) us rising.1 j d (omega (arith, inside)) in
    rw (ne_eqb u.place (get_or us j d).place (λ same. omega (arith, behind, same))) (entry_used (u.place + 1) us rising.1 j d (omega (arith, inside)))

-- nothing is known of a place below the first
none_below : (first : ℕ) (uses : List Use) → AreRisingFrom first uses → (place : ℕ) → place < first → what_used uses place ≡ None
none_below first [] rising place less = refl
none_below first (u ∷ us) rising place less =
    rw (ne_eqb u.place place (λ same. omega (arith, rising.0, less, same))) (none_below (u.place + 1) us rising.1 place (omega (arith, rising.0, less)))

-- and no entry is for it
none_for : (first : ℕ) (uses : List Use) → AreRisingFrom first uses → (place : ℕ) → place < first → length (entries_for uses place) ≡ 0
none_for first [] rising place less = refl
none_for first (u ∷ us) rising place less =
    rw (ne_eqb u.place place (λ same. omega (arith, rising.0, less, same))) (none_for (u.place + 1) us rising.1 place (omega (arith, rising.0, less)))

-- a place at which something is known to stand has one entry
one_for : (first : ℕ) (uses : List Use) (place : ℕ) (what : What) → AreRisingFrom first uses → what_used uses place ≡ Some what → length (entries_for uses place) ≡ 1
one_for first [] place what rising used = absurd (none-some what used)
one_for first (u ∷ us) place what rising used = by (nat_eq u.place place) refl used (one_for (u.place + 1) us place what rising.1)
  where
    by : (b : Bool) → nat_eq u.place place ≡ b → cond b (Some u.what) (what_used us place) ≡ Some what → (what_used us place ≡ Some what → length (entries_for us place) ≡ 1)
        → length (cond b (u ∷ entries_for us place) (entries_for us place)) ≡ 1
    by true here used behind = ap suc (none_for (u.place + 1) us rising.1 place (let same = eqb-true u.place place here in omega (arith, same)))
    by false there used behind = behind used

-- ---- the places of one instruction or row more

-- the place of a row, if it has one
abbrev pub class_place : ℕ → List ℕ
class_place class = cond (not (nat_eq class 0)) (class ∷ []) []

pub class_kept : (class : ℕ) → (class ≡ 0 → ⊥) → class_place class ≡ class ∷ []
class_kept class some = ap (λ (b : Bool). cond (not b) (class ∷ []) []) (ne_eqb class 0 some)

-- more places behind those that were put
pub puts_more : (first places more now new : List ℕ) → now ≡ first ++ places → new ≡ now ++ more → new ≡ first ++ (places ++ more)
puts_more first places more now new before put = put ∙ ap (λ (l : List ℕ). l ++ more) before ∙ append_assoc first places more

-- ---- rising places

abbrev pub AreRisingPlaces : ℕ → List ℕ → Type 0
AreRisingPlaces first [] = Unit {0}
AreRisingPlaces first (p ∷ ps) = (first ≤ p) × AreRisingPlaces (p + 1) ps

from_pairs : (first : ℕ) (ps : List ℕ) → ((j : ℕ) (d : ℕ) → j < length ps → first ≤ get_or ps j d) → AllPairs (λ x y. x < y) ps → AreRisingPlaces first ps
from_pairs first [] all pairs = tt
from_pairs first (p ∷ ps) all pairs = (
  all 0 p (omega arith),
  from_pairs (p + 1) ps (λ j d inside. let less = pairs 0 (suc j) d (omega arith) (omega (arith, inside)) in
      omega (arith, less)) (λ i j d order inside. pairs (suc i) (suc j) d (omega (arith, order)) (omega (arith, inside))),
)

rising_places : (places : List ℕ) → IsSorted nat_cmp places → AreRisingPlaces 0 (dedup eqb places)
rising_places places sorted = from_pairs 0 (dedup eqb places) (λ j d inside. omega arith) (AllPairs-from_increasing (dedup eqb places) (IsStrictlyIncreasing-dedup places sorted))

lower : (first next : ℕ) (us : List Use) → first ≤ next → AreRisingFrom next us → AreRisingFrom first us
lower first next [] less rising = tt
lower first next (u ∷ us) less rising = (omega (arith, less, rising.0), rising.1)

rising_uses : (pool : PoolValue) (first : ℕ) (ps : List ℕ) → AreRisingPlaces first ps → AreRisingFrom first (uses_of pool ps)
rising_uses pool first [] rising = tt
rising_uses pool first (p ∷ ps) rising = by (what_at pool p) (rising_uses pool (p + 1) ps rising.1)
  where
    by : (o : Option What) → AreRisingFrom (p + 1) (uses_of pool ps) → AreRisingFrom first (use_of p o ++ uses_of pool ps)
    by None rest = lower first (p + 1) (uses_of pool ps) (omega (arith, rising.0)) rest
    by (Some what) rest = (rising.0, rest)

-- ---- what is listed

used_of : (pool : PoolValue) (ps : List ℕ) (place : ℕ) → what_used (uses_of pool ps) place ≡ used_at pool ps place
used_of pool [] place = refl
used_of pool (p ∷ ps) place = by (nat_eq place p) refl (what_at pool p) refl (used_of pool ps place)
  where
    none_there : (b : Bool) (o : Option What) → o ≡ None → cond b o None ≡ None
    none_there true o is = is
    none_there false o is = refl

    by : (b : Bool) → nat_eq place p ≡ b → (o : Option What) → what_at pool p ≡ o → what_used (uses_of pool ps) place ≡ used_at pool ps place
        → what_used (use_of p o ++ uses_of pool ps) place ≡ cond (b || list_any (nat_eq place) ps) (what_at pool place) None
    by true same (Some what) is rest = rw (eq-eqb p place (sym (eqb-true place p same))) (sym (ap (what_at pool) (eqb-true place p same) ∙ is))
    by true same None is rest =
        let none = ap (what_at pool) (eqb-true place p same) ∙ is in
        rest ∙ none_there (list_any (nat_eq place) ps) (what_at pool place) none ∙ sym none
    by false apart (Some what) is rest = rw (nat_eq_equiv.symm p place ∙ apart) rest
    by false apart None is rest = rest

same_any : (place : ℕ) (xs ys : List ℕ) → (Contains xs place → Contains ys place) → (Contains ys place → Contains xs place) → list_any (nat_eq place) xs ≡ list_any (nat_eq place) ys
same_any place xs ys to back = by (list_any (nat_eq place) xs) (list_any (nat_eq place) ys) refl refl
  where
    by : (a b : Bool) → list_any (nat_eq place) xs ≡ a → list_any (nat_eq place) ys ≡ b → a ≡ b
    by true true p q = refl
    by false false p q = refl
    by true false p q = sym (list_any-from_Contains nat_eq_equiv place ys (to (Contains-from_any eqb-true place xs p))) ∙ q
    by false true p q = sym p ∙ list_any-from_Contains nat_eq_equiv place xs (back (Contains-from_any eqb-true place ys q))

-- one place more is listed
pub lists_more : (pool : PoolValue) (places : List ℕ) (i : ℕ) (uses new : List Use) (o : Option What) → i < length places → o ≡ what_at pool (get_or places i 0) → uses ≡ uses_of pool (take i places)
    → new ≡ uses ++ use_of (get_or places i 0) o → new ≡ uses_of pool (take (i + 1) places)
lists_more pool places i uses new o lt stands before put =
    put
    ∙ (λ k. before k ++ use_of (get_or places i 0) (stands k))
    ∙ ap (λ (l : List Use). uses_of pool (take i places) ++ l) (sym (append-nil (use_of (get_or places i 0) (what_at pool (get_or places i 0)))))
    ∙ sym (flat_map-append (λ p. use_of p (what_at pool p)) (take i places) (get_or places i 0 ∷ []))
    ∙ ap (uses_of pool) (sym (take_more places i 0 lt))

pub short_more : (place : ℕ) (uses new : List Use) (o : Option What) → All (λ u. HasShortTexts u.what) uses → IfSome o HasShortTexts → new ≡ uses
    ++ use_of place o → All (λ u. HasShortTexts u.what) new
short_more place uses new None short is put = subst (All (λ (u : Use). HasShortTexts u.what)) (sym (put ∙ append-nil uses)) short
short_more place uses new (Some what) short is put = subst (All (λ (u : Use). HasShortTexts u.what)) (sym put)
    (All-push (λ (u : Use). HasShortTexts u.what) uses (record { place = place; what = what }) short is)

-- places in order, each once, are used as they were before
pub listed : (pool : PoolValue) (places sorted single : List ℕ) (uses : List Use) → IsPermutation places sorted → IsSorted nat_cmp sorted
    → single ≡ dedup eqb sorted → uses ≡ uses_of pool single → AreUsesOf pool places uses
listed pool places sorted single uses permuted in_order is list = record {
  rising = subst (AreRisingFrom 0) (sym (list ∙ ap (uses_of pool) is)) (rising_uses pool 0 (dedup eqb sorted) (rising_places sorted in_order));
  each = λ place.
      ap (λ (us : List Use). what_used us place) (list ∙ ap (uses_of pool) is)
      ∙ used_of pool (dedup eqb sorted) place
      ∙ ap (λ (b : Bool). cond b (what_at pool place) None)
      (same_any place (dedup eqb sorted) sorted (Contains-from_dedup eqb sorted place) (Contains-dedup_nat sorted place)
      ∙ sym (list_any-IsPermutation (nat_eq place) places sorted permuted));
}

-- what is listed of the places of instructions and rows, in order and each once
pub listed_ok : (pool : PoolValue) (insns : List Insn) (rows : List Row) (none by_insns by_rows sorted single : List ℕ)
    (r : Result (List Use) Memory) → none ≡ [] → by_insns ≡ none ++ insn_places insns → by_rows ≡ by_insns ++ row_places rows
    → IsPermutation by_rows sorted → IsSorted nat_cmp sorted → single ≡ dedup eqb sorted → IfOk r (λ uses. uses ≡ uses_of pool single) → IfOk r (AreUsesOf pool (places_used insns rows))
listed_ok pool insns rows none by_insns by_rows sorted single (Err e) empty first then permuted in_order is list = tt
listed_ok pool insns rows none by_insns by_rows sorted single (Ok uses) empty first then permuted in_order is list =
    let all = then ∙ ap (λ (l : List ℕ). l ++ row_places rows) (first ∙ ap (λ (l : List ℕ). l ++ insn_places insns) empty) in
    listed pool (places_used insns rows) sorted single uses (subst (λ (l : List ℕ). IsPermutation l sorted) all permuted) in_order is list

-- ---- there is one such list

heads : (first : ℕ) (u v : Use) (us vs : List Use) → AreRisingFrom first (u ∷ us) → AreRisingFrom first (v ∷ vs)
    → ((place : ℕ) → what_used (u ∷ us) place ≡ what_used (v ∷ vs) place) → u.place < v.place → ⊥
heads first u v us vs p q same less = none-some u.what (sym (none_below v.place (v ∷ vs) (omega arith, q.1) u.place less) ∙ sym (same u.place) ∙ (rw (eq-eqb u.place u.place refl) refl))

pub same_uses : (first : ℕ) (us vs : List Use) → AreRisingFrom first us → AreRisingFrom first vs → ((place : ℕ) → what_used us place ≡ what_used vs place) → us ≡ vs
same_uses first [] [] p q same = refl
same_uses first [] (v ∷ vs) p q same = absurd (none-some v.what (same v.place ∙ (rw (eq-eqb v.place v.place refl) refl)))
same_uses first (u ∷ us) [] p q same = absurd (none-some u.what (sym (same u.place) ∙ (rw (eq-eqb u.place u.place refl) refl)))
same_uses first (u ∷ us) (v ∷ vs) p q same = by (same_uses (u.place + 1) us vs p.1) (cases_order u.place v.place)
  where
    by : (AreRisingFrom (u.place + 1) vs → ((place : ℕ) → what_used us place ≡ what_used vs place) → us ≡ vs) → (u.place ≡ v.place) ⊎ ((u.place < v.place) ⊎ (v.place < u.place)) → u ∷ us ≡ v ∷ vs
    by again (inl at) = λ i. (record { place = at i; what = whats i }) ∷ rest i
      where
        whats : u.what ≡ v.what
        whats = same_Some u.what v.what (sym (the u us) ∙ same u.place ∙ ap (what_used (v ∷ vs)) at ∙ the v vs)
          where
            the : (w : Use) (ws : List Use) → what_used (w ∷ ws) w.place ≡ Some w.what
            the w ws = rw (eq-eqb w.place w.place refl) refl

        behind : (place : ℕ) → what_used us place ≡ what_used vs place
        behind place = of (nat_eq u.place place) refl
          where
            of : (b : Bool) → nat_eq u.place place ≡ b → what_used us place ≡ what_used vs place
            of true here =
                let is = eqb-true u.place place here in
                none_below (u.place + 1) us p.1 place (omega (arith, is)) ∙ sym (none_below (v.place + 1) vs q.1 place (omega (arith, is, at)))
            of false there =
                let also : nat_eq v.place place ≡ false = sym (ap (λ n. nat_eq n place) at) ∙ there in
                sym (ap (λ (b : Bool). cond b (Some u.what) (what_used us place)) there) ∙ same place ∙ ap (λ (b : Bool). cond b (Some v.what) (what_used vs place)) also

        rest : us ≡ vs
        rest = again (subst (λ n. AreRisingFrom (n + 1) vs) (sym at) q.1) behind
    by again (inr (inl less)) = absurd (heads first u v us vs p q same less)
    by again (inr (inr more)) = absurd (heads first v u vs us q p (λ place. sym (same place)) more)

pub one_uses : (pool : PoolValue) (places : List ℕ) (us vs : List Use) → AreUsesOf pool places us → AreUsesOf pool places vs → us ≡ vs
one_uses pool places us vs p q = same_uses 0 us vs p.rising q.rising (λ place. p.each place ∙ sym (q.each place))

-- an entry at its place among others
abbrev put : Use → List Use → List Use
put u [] = u ∷ []
put u (v ∷ vs) = cond (nat_lt u.place v.place) (u ∷ v ∷ vs) (v ∷ put u vs)

put_rising : (first : ℕ) (u : Use) (us : List Use) → AreRisingFrom first us → first ≤ u.place → what_used us u.place ≡ None → AreRisingFrom first (put u us)
put_rising first u [] rising least none = (least, tt)
put_rising first u (v ∷ vs) rising least none = by (put_rising (v.place + 1) u vs rising.1) (cases_order u.place v.place)
  where
    behind : (v.place + 1 ≤ u.place → what_used vs u.place ≡ None → AreRisingFrom (v.place + 1) (put u vs)) → v.place < u.place → AreRisingFrom first (v ∷ put u vs)
    behind again more =
        let other : what_used vs u.place ≡ None = sym (ap (λ (b : Bool). cond b (Some v.what) (what_used vs u.place)) (ne_eqb v.place u.place (λ same. omega (arith, more, same)))) ∙ none in
        (rising.0, again (omega (arith, more)) other)

    by : (v.place + 1 ≤ u.place → what_used vs u.place ≡ None → AreRisingFrom (v.place + 1) (put u vs)) → (u.place ≡ v.place)
        ⊎ ((u.place < v.place) ⊎ (v.place < u.place)) → AreRisingFrom first (put u (v ∷ vs))
    by again (inl same) = absurd (none-some v.what (sym none ∙ ap (λ (b : Bool). cond b (Some v.what) (what_used vs u.place)) (eq-eqb v.place u.place (sym same))))
    by again (inr (inl less)) = rw (lt-ltb u.place v.place less) (least, (omega (arith, less), rising.1))
    by again (inr (inr more)) = rw (le-ltb u.place v.place (omega (arith, more))) (behind again more)

put_used : (u : Use) (us : List Use) (place : ℕ) → what_used us u.place ≡ None → what_used (put u us) place ≡ cond (nat_eq u.place place) (Some u.what) (what_used us place)
put_used u [] place none = refl
put_used u (v ∷ vs) place none = by (put_used u vs place) (nat_lt u.place v.place)
  where
    apart : nat_eq v.place u.place ≡ false
    apart = of (nat_eq v.place u.place) refl
      where
        of : (b : Bool) → nat_eq v.place u.place ≡ b → b ≡ false
        of false e = refl
        of true e = absurd (none-some v.what (sym none ∙ ap (λ (b : Bool). cond b (Some v.what) (what_used vs u.place)) e))

    other : what_used vs u.place ≡ None
    other = sym (ap (λ (b : Bool). cond b (Some v.what) (what_used vs u.place)) apart) ∙ none

    swapped : (a b : Bool) → nat_eq v.place place ≡ a → nat_eq u.place place ≡ b → cond a (Some v.what) (cond b (Some u.what) (what_used vs place))
        ≡ cond b (Some u.what) (cond a (Some v.what) (what_used vs place))
    swapped true false p q = refl
    swapped false b p q = refl
    swapped true true p q = absurd (true≢false (sym (eq-eqb v.place u.place (eqb-true v.place place p ∙ sym (eqb-true u.place place q))) ∙ apart))

    by : (what_used vs u.place ≡ None → what_used (put u vs) place ≡ cond (nat_eq u.place place) (Some u.what) (what_used vs place))
        → (b : Bool) → what_used (cond b (u ∷ v ∷ vs) (v ∷ put u vs)) place ≡ cond (nat_eq u.place place) (Some u.what) (what_used (v ∷ vs) place)
    by again true = refl
    by again false = ap (cond (nat_eq v.place place) (Some v.what)) (again other) ∙ swapped (nat_eq v.place place) (nat_eq u.place place) refl refl

-- one place more is used
place_more : (pool : PoolValue) (p : ℕ) (ps : List ℕ) (place : ℕ) → used_at pool (p ∷ ps) place ≡ cond (nat_eq p place) (what_at pool p) (used_at pool ps place)
place_more pool p ps place = by (nat_eq place p) refl
  where
    by : (b : Bool) → nat_eq place p ≡ b → cond (b || list_any (nat_eq place) ps) (what_at pool place) None ≡ cond (nat_eq p place) (what_at pool p) (used_at pool ps place)
    by true same = ap (what_at pool) (eqb-true place p same) ∙ sym (ap (λ (b : Bool). cond b (what_at pool p) (used_at pool ps place)) (nat_eq_equiv.symm p place ∙ same))
    by false apart = sym (ap (λ (b : Bool). cond b (what_at pool p) (used_at pool ps place)) (nat_eq_equiv.symm p place ∙ apart))

pub some_uses : (pool : PoolValue) (places : List ℕ) → (uses : List Use) × AreUsesOf pool places uses
some_uses pool [] = ([], record { rising = tt; each = λ place. refl })
some_uses pool (p ∷ ps) = with (some_uses pool ps).0 (some_uses pool ps).1
  where
    with : (us : List Use) → AreUsesOf pool ps us → (uses : List Use) × AreUsesOf pool (p ∷ ps) uses
    with us are = by (what_used us p) refl (what_at pool p) refl
      where
        stays : used_at pool ps p ≡ what_at pool p → (place : ℕ) → what_used us place ≡ used_at pool (p ∷ ps) place
        stays there place = are.each place ∙ of (nat_eq p place) refl ∙ sym (place_more pool p ps place)
          where
            of : (b : Bool) → nat_eq p place ≡ b → used_at pool ps place ≡ cond b (what_at pool p) (used_at pool ps place)
            of false apart = refl
            of true same = ap (used_at pool ps) (sym (eqb-true p place same)) ∙ there

        known : (what : What) (b : Bool) (o : Option What) → cond b o None ≡ Some what → cond b o None ≡ o
        known what true o is = refl
        known what false o is = absurd (none-some what is)

        by : (o : Option What) → what_used us p ≡ o → (there : Option What) → what_at pool p ≡ there → (uses : List Use) × AreUsesOf pool (p ∷ ps) uses
        by (Some what) used there is = (us, record { rising = are.rising; each = stays (known what (list_any (nat_eq p) ps) (what_at pool p) (sym (are.each p) ∙ used)) })
        by None used None is = (us, record { rising = are.rising; each = stays (sym (are.each p) ∙ used ∙ sym is) })
        by None used (Some what) is =
            let u : Use = record { place = p; what = what } in (
              put u us,
              record {
                rising = put_rising 0 u us are.rising (omega arith) used;
                each = λ place.
                    put_used u us place used
                    ∙ ap (cond (nat_eq p place) (Some what)) (are.each place)
                    ∙ ap (λ (o : Option What). cond (nat_eq p place) o (used_at pool ps place)) (sym is)
                    ∙ sym (place_more pool p ps place);
              },
            )

-- ---- what an instruction or a row uses

contains_filter : (p : ℕ → Bool) (xs : List ℕ) (x : ℕ) → p x ≡ true → Contains xs x → Contains (filter p xs) x
contains_filter p xs x pass c = at xs c.0 c.1 c.2
  where
    at : (xs : List ℕ) (k : ℕ) → k < length xs → get_or xs k x ≡ x → Contains (filter p xs) x
    at [] k lt is = absurd (omega (arith, lt))
    at (y ∷ ys) zero lt is = let kept : p y ≡ true = ap p is ∙ pass in rw kept (0, omega arith, is)
    at (y ∷ ys) (suc k) lt is = by (p y) (at ys k (omega (arith, lt)) is)
      where
        by : (b : Bool) → Contains (filter p ys) x → Contains (cond b (y ∷ filter p ys) (filter p ys)) x
        by true c = (suc c.0, omega (arith, c.1), c.2)
        by false c = c

pub has_use : (pool : PoolValue) (places : List ℕ) (uses : List Use) (place : ℕ) (what : What) (Fact : What → Type 0) → AreUsesOf pool places uses
    → Contains places place → what_at pool place ≡ Some what → Fact what → HasUse uses place Fact
has_use pool places uses place what Fact are c is fact = record {
  what = what;
  used = used;
  one = one_for 0 uses place what are.rising used;
  fact = fact;
}
  where
    used : what_used uses place ≡ Some what
    used = are.each place ∙ ap (λ (b : Bool). cond b (what_at pool place) None) (list_any-from_Contains nat_eq_equiv place places c) ∙ is

pub insn_place_used : (insns : List Insn) (rows : List Row) (insn : Insn) (place : ℕ) → Contains insns insn → pool_place insn ≡ Some place → Contains (places_used insns rows) place
insn_place_used insns rows insn place c is = Contains-append_left (insn_places insns) (row_places rows) place
    (flat_in (λ (x : Insn). some_of (pool_place x)) insns insn place c (subst (λ (o : Option ℕ). Contains (some_of o) place) (sym is) (0, omega arith, refl)))

pub row_place_used : (insns : List Insn) (rows : List Row) (row : Row) → Contains rows row → (row.class ≡ 0 → ⊥) → Contains (places_used insns rows) row.class
row_place_used insns rows row c some = Contains-append_right (insn_places insns) (row_places rows) row.class
    (contains_filter (λ place. not (nat_eq place 0)) (map (λ (r : Row). r.class) rows) row.class (ap not (ne_eqb row.class 0 some)) (in_map (λ (r : Row). r.class) rows row c))
