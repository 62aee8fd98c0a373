-- Rows of the exception table in groups, one handler a group.
use Rattle.std.proofs.Common.{◌≡◌, ⊎_elim, ℕ, ◌+◌, ◌-◌, ◌<◌, ◌≤◌, List, [], ◌∷◌, ◌++◌, length, take, drop, get_or, sym, ap, ◌∙◌, subst, arith}
use Rattle.std.specs.List.{All, AllWithin, Contains, slice_range}
use Rattle.std.specs.List.Sorted.{IsNonDecreasingBy, IsPermutation}
use Rattle.std.proofs.lemmas.Bool.{cases_lt}
use Rattle.std.proofs.lemmas.List.{take_more, take_all, get_or_default, get_or-take, get_or-drop, length-take-le, length-drop}
use Rattle.std.proofs.lemmas.List.Elements.{All-push, Contains-get_or, Contains-append_left, Contains-push, Contains-push_cases}
use Rattle.std.proofs.lemmas.List.Sorted.{IsNonDecreasingBy-short, IsNonDecreasingBy-push, IsPermutation-sym, Contains-permutation}
use Rattle.jc_bytes.proofs.BooleanLaws.{none_in}
use Rattle.jc_methods.specs.declared.body.Handler.{Handler}
use Rattle.jc_kinds.specs.Guarded.{IsGuarded}
use Rattle.jc_kinds.specs.Rows.{AreRising, AreRisingRowsOf, IsGuardedBy, IsGuardedFor, IsGroup, AreGroups}
use Rattle.jc_kinds.proofs.GuardLaws.{no_row, row_at}

abbrev pub by_start : List Handler → Type 0
by_start rows = IsNonDecreasingBy (λ (h : Handler). h.start) rows

-- ---- the rows of one handler

-- the rows that are kept of those so far, and the furthest end
pub record AreKept (rows kept : List Handler) (reached : ℕ) : Type 0 where
  pub rising : AreRising kept
  pub below : All (λ (h : Handler). h.end ≤ reached) kept
  pub reaching : (i : ℕ) → i < reached → (h : Handler) × Contains kept h × (i < h.end)
  pub among : (h : Handler) → Contains kept h → Contains rows h
  pub guarding : (h : Handler) (i : ℕ) → Contains rows h → IsGuarded h i → IsGuardedBy kept i

pub none_kept : AreKept [] [] 0
none_kept = record {
  rising = record {
    starts = IsNonDecreasingBy-short (λ (h : Handler). h.start) [] (omega arith);
    ends = IsNonDecreasingBy-short (λ (h : Handler). h.end) [] (omega arith);
  };
  below = λ k d lt. absurd (omega (arith, lt));
  reaching = λ i lt. absurd (omega (arith, lt));
  among = λ h c. c;
  guarding = λ h i c g. absurd (none_in h c);
}

-- a row in front of another begins no later
starts_before : (rows : List Handler) (i : ℕ) (g : Handler) → by_start rows → i < length rows → Contains (take i rows) g → g.start ≤ (row_at rows i).start
starts_before rows i g up lt c =
    let short : length (take i rows) ≡ i = length-take-le i rows (omega (arith, lt)) in
    let less : c.0 < i = let inside = c.1 in omega (arith, inside, short) in
    let is : get_or rows c.0 g ≡ g = sym (get_or-take i rows c.0 g less) ∙ c.2 in
    let le : (get_or rows c.0 g).start ≤ (get_or rows i g).start = up c.0 i g (omega (arith, less)) lt in
    let here : get_or rows i g ≡ row_at rows i = get_or_default rows i g no_row lt in
    let e = ap (λ (h : Handler). h.start) is in let f = ap (λ (h : Handler). h.start) here in
    omega (arith, le, e, f)

-- a row that ends further is kept
pub kept_more : (rows kept : List Handler) (i reached : ℕ) (h : Handler) → by_start rows → i < length rows → h ≡ row_at rows i → AreKept (take i rows) kept reached → reached < h.end
    → AreKept (take (i + 1) rows) (kept ++ h ∷ []) h.end
kept_more rows kept i reached h up lt is old further =
    let next : take (i + 1) rows ≡ take i rows ++ h ∷ [] = take_more rows i no_row lt ∙ ap (λ (x : Handler). take i rows ++ x ∷ []) (sym is) in
    subst (λ (l : List Handler). AreKept l (kept ++ h ∷ []) h.end) (sym next) (record {
      rising = record {
        starts = IsNonDecreasingBy-push (λ (x : Handler). x.start) kept h old.rising.starts (λ d some.
            let last = get_or kept (length kept - 1) d in
            let among = old.among last (Contains-get_or kept (length kept - 1) d (omega (arith, some))) in
            let le = starts_before rows i last up lt among in
            let e = ap (λ (x : Handler). x.start) is in
            omega (arith, le, e));
        ends = IsNonDecreasingBy-push (λ (x : Handler). x.end) kept h old.rising.ends (λ d some.
            let le = old.below (length kept - 1) d (omega (arith, some)) in
            omega (arith, le, further));
      };
      below = All-push (λ (x : Handler). x.end ≤ h.end) kept h (λ k d inside. let le = old.below k d inside in omega (arith, le, further)) (omega arith);
      reaching = λ j less. (h, Contains-push kept h, less);
      among = λ g c. ⊎_elim (λ m. Contains-append_left (take i rows) (h ∷ []) g (old.among g m))
          (λ e. subst (Contains (take i rows ++ h ∷ [])) e (Contains-push (take i rows) h)) (Contains-push_cases kept h g c);
      guarding = λ g j c guarded. ⊎_elim
          (λ m. let by = old.guarding g j m guarded in record { handler = by.handler; row = Contains-append_left kept (h ∷ []) by.handler by.row; guarded = by.guarded })
          (λ e. record { handler = h; row = Contains-push kept h; guarded = subst (λ (x : Handler). IsGuarded x j) (sym e) guarded })
          (Contains-push_cases (take i rows) h g c);
    })

-- a row that ends no further isn't
pub kept_same : (rows kept : List Handler) (i reached : ℕ) (h : Handler) → by_start rows → i < length rows → h ≡ row_at rows i → AreKept (take i rows) kept reached → h.end ≤ reached
    → AreKept (take (i + 1) rows) kept reached
kept_same rows kept i reached h up lt is old near =
    let next : take (i + 1) rows ≡ take i rows ++ h ∷ [] = take_more rows i no_row lt ∙ ap (λ (x : Handler). take i rows ++ x ∷ []) (sym is) in
    subst (λ (l : List Handler). AreKept l kept reached) (sym next) (record {
      rising = old.rising;
      below = old.below;
      reaching = old.reaching;
      among = λ g c. Contains-append_left (take i rows) (h ∷ []) g (old.among g c);
      guarding = λ g j c guarded. ⊎_elim
          (λ m. old.guarding g j m guarded)
          (λ e.
          let start = guarded.start in let end = guarded.end in
          let a = ap (λ (x : Handler). x.start) e in let b = ap (λ (x : Handler). x.end) e in let same = ap (λ (x : Handler). x.start) is in
          let by = old.reaching j (omega (arith, end, near, b)) in
          let le = starts_before rows i by.0 up lt (old.among by.0 by.1) in
          record { handler = by.0; row = by.1; guarded = record { start = omega (arith, le, start, a, same); end = by.2 } })
          (Contains-push_cases (take i rows) h g c);
    })

pub all_kept : (rows kept : List Handler) (at reached : ℕ) → length rows ≤ at → AreKept (take at rows) kept reached → AreRisingRowsOf rows kept
all_kept rows kept at reached past found =
    let old = subst (λ (l : List Handler). AreKept l kept reached) (take_all at rows past) found in
    record { rising = old.rising; among = old.among; guarding = old.guarding }

pub kept_rows : (rows sorted kept : List Handler) → IsPermutation rows sorted → AreRisingRowsOf sorted kept → AreRisingRowsOf rows kept
kept_rows rows sorted kept moved old = record {
  rising = old.rising;
  among = λ h c. Contains-permutation sorted rows h (IsPermutation-sym rows sorted moved) (old.among h c);
  guarding = λ h i c guarded. old.guarding h i (Contains-permutation rows sorted h moved c) guarded;
}

-- ---- a part of a list

in_part : (rows : List Handler) (from end : ℕ) (h : Handler) → from ≤ end → end ≤ length rows → Contains (slice_range rows from end) h → (k : ℕ) × (from ≤ k) × (k < end) × (get_or rows k h ≡ h)
in_part rows from end h le within c =
    let left : length (drop from rows) ≡ length rows - from = length-drop from rows in
    let short : length (slice_range rows from end) ≡ end - from = length-take-le (end - from) (drop from rows) (omega (arith, left, within)) in
    let less : c.0 < end - from = let inside = c.1 in omega (arith, inside, short) in
    (from + c.0, omega arith, omega (arith, less), sym (get_or-take (end - from) (drop from rows) c.0 h less ∙ get_or-drop from rows c.0 h) ∙ c.2)

part_in : (rows : List Handler) (from end k : ℕ) → end ≤ length rows → from ≤ k → k < end → Contains (slice_range rows from end) (row_at rows k)
part_in rows from end k within le lt =
    let left : length (drop from rows) ≡ length rows - from = length-drop from rows in
    let short : length (slice_range rows from end) ≡ end - from = length-take-le (end - from) (drop from rows) (omega (arith, left, within)) in
    let inside : k - from < length (slice_range rows from end) = omega (arith, short, le, lt) in
    let back : from + (k - from) ≡ k = omega (arith, le) in
    let is : get_or (slice_range rows from end) (k - from) no_row ≡ row_at rows k =
    get_or-take (end - from) (drop from rows) (k - from) no_row (omega (arith, le, lt)) ∙ get_or-drop from rows (k - from) no_row ∙ ap (row_at rows) back in
    subst (Contains (slice_range rows from end)) is (Contains-get_or (slice_range rows from end) (k - from) no_row inside)

-- ---- groups

-- the groups of the first rows
pub record AreGroupsSoFar (rows : List Handler) (at : ℕ) (groups : List (List Handler)) : Type 0 where
  pub within : at ≤ length rows
  pub each : All IsGroup groups
  pub among : (group : List Handler) (h : Handler) → Contains groups group → Contains group h → Contains rows h
  pub guarding : (k i : ℕ) → k < at → IsGuarded (row_at rows k) i → IsGuardedFor groups (row_at rows k).target i

pub no_groups : (rows : List Handler) → AreGroupsSoFar rows 0 []
no_groups rows = record {
  within = omega arith;
  each = λ k d lt. absurd (omega (arith, lt));
  among = λ group h c m. absurd (none_in group c);
  guarding = λ k i lt guarded. absurd (omega (arith, lt));
}

module _ (rows group : List Handler) (at end : ℕ) (some : at < end) (within : end ≤ length rows) (alike : AllWithin (λ (h : Handler). h.target ≡ (row_at rows at).target) rows (at + 1) end) where
  target_is : (h : Handler) → Contains (slice_range rows at end) h → h.target ≡ (row_at rows at).target
  target_is h c =
      let p = in_part rows at end h (omega (arith, some)) within c in
      ⊎_elim
      (λ later. ap (λ (x : Handler). x.target) (sym p.3) ∙ alike p.0 h (omega (arith, later)) p.2)
      (λ not_later.
      let le = p.1 in let here : p.0 ≡ at = omega (arith, le, not_later) in
      ap (λ (x : Handler). x.target) (sym p.3 ∙ ap (λ (k : ℕ). get_or rows k h) here ∙ get_or_default rows at h no_row (omega (arith, some, within))))
      (cases_lt at p.0)

  one_group : AreRisingRowsOf (slice_range rows at end) group → IsGroup group
  one_group kept = record {
    rising = kept.rising;
    alike = λ g h c m. target_is g (kept.among g c) ∙ sym (target_is h (kept.among h m));
  }

  pub groups_more : (groups : List (List Handler)) → AreGroupsSoFar rows at groups → AreRisingRowsOf (slice_range rows at end) group → AreGroupsSoFar rows end (groups ++ group ∷ [])
  groups_more groups old kept = record {
    within = within;
    each = All-push IsGroup groups group old.each (one_group kept);
    among = λ g h c m. ⊎_elim
        (λ before. old.among g h before m)
        (λ e.
        let p = in_part rows at end h (omega (arith, some)) within (kept.among h (subst (λ (l : List Handler). Contains l h) (sym e) m)) in
        let lt = p.2 in (p.0, omega (arith, lt, within), p.3))
        (Contains-push_cases groups group g c);
    guarding = λ k i lt guarded. ⊎_elim
        (λ less.
        let by = old.guarding k i less guarded in
        record { group = by.group; is = Contains-append_left groups (group ∷ []) by.group by.is; handler = by.handler; row = by.row; guarded = by.guarded; same = by.same })
        (λ le.
        let here = part_in rows at end k within le lt in
        let by = kept.guarding (row_at rows k) i here guarded in
        record {
          group = group;
          is = Contains-push groups group;
          handler = by.handler;
          row = by.row;
          guarded = by.guarded;
          same = target_is by.handler (kept.among by.handler by.row) ∙ sym (target_is (row_at rows k) here);
        })
        (cases_lt k at);
  }

-- all rows are in groups
pub all_groups : (rows : List Handler) (at : ℕ) (groups : List (List Handler)) → length rows ≤ at → AreGroupsSoFar rows at groups → AreGroups rows groups
all_groups rows at groups past old = record {
  each = old.each;
  among = old.among;
  guarding = λ h i c guarded.
      let inside = c.1 in
      let is : row_at rows c.0 ≡ h = get_or_default rows c.0 no_row h c.1 ∙ c.2 in
      subst (λ (x : Handler). IsGuardedFor groups x.target i) is (old.guarding c.0 i (omega (arith, inside, past)) (subst (λ (x : Handler). IsGuarded x i) (sym is) guarded));
}

pub moved_groups : (rows sorted : List Handler) (groups : List (List Handler)) → IsPermutation rows sorted → AreGroups sorted groups → AreGroups rows groups
moved_groups rows sorted groups moved old = record {
  each = old.each;
  among = λ group h c m. Contains-permutation sorted rows h (IsPermutation-sym rows sorted moved) (old.among group h c m);
  guarding = λ h i c guarded. old.guarding h i (Contains-permutation rows sorted h moved c) guarded;
}
