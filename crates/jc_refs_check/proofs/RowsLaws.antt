-- The rows one after the other, by where they begin.
use Rattle.std.proofs.Common.{◌≡◌, ◌≢◌, ◌⊎◌, inl, inr, ⊎_elim, ℕ, ◌+◌, ◌<◌, ◌≤◌, List, [], ◌∷◌, ◌++◌, length, take, get_or, Option, Some, None, refl, sym, ◌∙◌, ap, subst, arith}
use Rattle.std.specs.List.{Contains}
use Rattle.std.specs.List.Sorted.{IsNonDecreasingBy}
use Rattle.std.proofs.lemmas.Bool.{cases_eq}
use Rattle.std.proofs.lemmas.List.{take_more, get_or-take, length-take}
use Rattle.std.proofs.lemmas.List.Elements.{Contains-push, Contains-append_left, Contains-push_cases}
use Rattle.std.proofs.lemmas.Option.{none-some, same_Some, get_or_from_slice_get, slice_get_read}
use Rattle.jc_methods.specs.declared.body.FrameAt.{FrameAt}
use Rattle.jc_methods.specs.VerificationTypes.{Names}
use Rattle.jc_kinds.specs.First.{IsFirstOrBound}
use Rattle.jc_kinds.proofs.FirstLaws.{none_first, instead_first, either_first}
use Rattle.jc_refs_check.specs.declared.guards.Guard.{Guard}
use Rattle.jc_refs_check.specs.Unguarded.{class_before, wanted_at, IsUnsuited, IsUnsuitedRange, IsUnsuitedGuard, IsUnsuitedIn, IsWantedBy, AreReached}

-- what was found of the rows so far, and how far each class was looked at
pub record IsLooking (names : Names) (column : List (Option ℕ)) (frames : List FrameAt) (slot bound : ℕ) (rows : List Guard) (first : ℕ) (old reached : List ℕ) : Type 0 where
  pub found : IsFirstOrBound (IsUnsuitedIn names column frames slot rows) bound first
  pub looked : (low : ℕ) → ((g : Guard) → Contains rows g → g.start ≤ low) → AreReached names column low first reached
  pub room : length reached ≡ length old
  pub forgotten : (class : ℕ) → IsWantedBy names frames slot rows class ⊎ (get_or reached class 0 ≡ 0)

-- what was looked at from one place on was looked at from a later one on
looked_later : (names : Names) (column : List (Option ℕ)) (low high bound : ℕ) (reached : List ℕ) → low ≤ high → AreReached names column low bound reached
    → AreReached names column high bound reached
looked_later names column low high bound reached up are class i from lt below = are class i (omega (arith, up, from)) lt below

module _ (names : Names) (column : List (Option ℕ)) (frames : List FrameAt) (slot bound : ℕ) (old : List ℕ)
    (rows : List Guard) (guard : Guard) (first : ℕ) (reached : List ℕ) (so_far : IsLooking names column frames slot bound rows first old reached) where
  wanted_more : (class : ℕ) → IsWantedBy names frames slot rows class → IsWantedBy names frames slot (rows ++ guard ∷ []) class
  wanted_more class w = record { guard = w.guard; row = Contains-append_left rows (guard ∷ []) w.guard w.row; wanted = w.wanted }

  unsuited_more : (i : ℕ) → IsUnsuitedIn names column frames slot rows i → IsUnsuitedIn names column frames slot (rows ++ guard ∷ []) i
  unsuited_more i u = record { guard = u.guard; row = Contains-append_left rows (guard ∷ []) u.guard u.row; unsuited = u.unsuited }

  -- one row more
  pub looking_on : (next : ℕ) (new : List ℕ) → IsFirstOrBound (IsUnsuitedGuard names column frames slot guard) first next → AreReached names column guard.start next new
      → length new ≡ length reached → ((class : ℕ) → (wanted_at names frames guard.frame slot ≡ Some class) ⊎ (get_or new class 0 ≡ get_or reached class 0))
      → IsLooking names column frames slot bound (rows ++ guard ∷ []) next old new
  looking_on next new is are room others = record {
    found = instead_first bound next
        (λ i lt u. ⊎_elim
        (λ before. unsuited_more i before)
        (λ last. record { guard = guard; row = Contains-push rows guard; unsuited = last }) u)
        (λ i lt u. ⊎_elim
        (λ before. inl (record { guard = u.guard; row = before; unsuited = u.unsuited }))
        (λ last. inr (subst (λ (g : Guard). IsUnsuitedGuard names column frames slot g i) (sym last) u.unsuited))
        (Contains-push_cases rows guard u.guard u.row))
        (either_first bound first next so_far.found is);
    looked = λ low above. looked_later names column guard.start low next new (above guard (Contains-push rows guard)) are;
    room = room ∙ so_far.room;
    forgotten = λ class. ⊎_elim
        (λ w. inl (wanted_more class w))
        (λ z. ⊎_elim
        (λ here. inl (record { guard = guard; row = Contains-push rows guard; wanted = here }))
        (λ same. inr (same ∙ z))
        (others class))
        (so_far.forgotten class);
  }

-- ---- one row

module _ (names : Names) (column : List (Option ℕ)) (frames : List FrameAt) (slot : ℕ) (guard : Guard) (bound : ℕ) where
  -- its handler wants no class
  pub guard_free : None ≡ wanted_at names frames guard.frame slot → IsFirstOrBound (IsUnsuitedGuard names column frames slot guard) bound bound
  guard_free none = none_first bound (λ i u. none-some u.want (none ∙ u.wanted))

  -- it wants one
  pub guard_wants : (want result : ℕ) → Some want ≡ wanted_at names frames guard.frame slot
      → IsFirstOrBound (IsUnsuitedRange names column want guard.start guard.end) bound result → IsFirstOrBound (IsUnsuitedGuard names column frames slot guard) bound result
  guard_wants want result wanted is = instead_first bound result
      (λ i lt r. record { start = r.start; end = r.end; want = want; wanted = sym wanted; unsuited = r.unsuited })
      (λ i lt u. record {
        start = u.start;
        end = u.end;
        unsuited = subst (λ (k : ℕ). IsUnsuited names (class_before column i) k) (sym (same_Some want u.want (wanted ∙ u.wanted))) u.unsuited;
      })
      is

pub wanted_or_same : (o : Option ℕ) (want : ℕ) (reached new : List ℕ) → Some want ≡ o → ((class : ℕ) → class ≢ want → get_or new class 0 ≡ get_or reached class 0)
    → (class : ℕ) → (o ≡ Some class) ⊎ (get_or new class 0 ≡ get_or reached class 0)
wanted_or_same o want reached new wanted others class =
    ⊎_elim (λ same. inl (sym wanted ∙ ap Some (sym same))) (λ other. inr (others class other)) (cases_eq class want)

-- no row in front of a place begins behind the one there
pub begins_before : (rows : List Guard) (i : ℕ) (guard : Guard) → IsNonDecreasingBy (λ (g : Guard). g.start) rows → i < length rows → guard ≡ get_or rows i guard
    → (g : Guard) → Contains (take i rows) g → g.start ≤ guard.start
begins_before rows i guard up room is g there =
    let k = there.0 in let lt = there.1 in
    let short = length-take i rows in
    let low : k < i = omega (arith, lt, short) in
    let rise = up k i g (omega (arith, low)) room in
    let one : get_or rows k g ≡ g = sym (get_or-take i rows k g low) ∙ there.2 in
    let two : get_or rows i g ≡ guard = get_or_from_slice_get rows i guard g (slice_get_read rows (length rows) i guard refl room is) in
    subst (λ (x : Guard). g.start ≤ x.start) two (subst (λ (x : Guard). x.start ≤ (get_or rows i g).start) one rise)

-- one row more of those in front of a place
pub rows_on : (P : List Guard → Type 0) (rows : List Guard) (i : ℕ) (guard : Guard) → i < length rows → guard ≡ get_or rows i guard → P (take i rows ++ guard ∷ []) → P (take (i + 1) rows)
rows_on P rows i guard room is p = subst P (ap (λ (x : Guard). take i rows ++ x ∷ []) is ∙ sym (take_more rows i guard room)) p

-- one of the rows wants each class for which something is reached
abbrev pub IsToForget : Names → List FrameAt → ℕ → List Guard → List ℕ → Type 0
IsToForget names frames slot rows reached = (class : ℕ) → IsWantedBy names frames slot rows class ⊎ (get_or reached class 0 ≡ 0)
