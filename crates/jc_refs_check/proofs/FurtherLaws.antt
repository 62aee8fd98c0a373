-- Rows without those that end no later than one of the same frame that begins no later.
use Rattle.std.proofs.Common.{◌≡◌, ◌⊎◌, ⊎_elim, ℕ, Bool, true, ◌+◌, ◌<◌, ◌≤◌, List, [], ◌∷◌, ◌++◌, length, take, get_or, set, sym, ◌∙◌, ap, subst, arith}
use Rattle.std.specs.List.{All, Contains}
use Rattle.std.specs.Cmp.Lexicographic.{pointwise, pointwise_decides}
use Rattle.std.specs.List.Sorted.{IsNonDecreasingBy}
use Rattle.std.proofs.lemmas.Bool.{cases_eq, cases_lt}
use Rattle.std.proofs.lemmas.List.{take_more, take_all, get_or-set_same, get_or-set_other}
use Rattle.std.proofs.lemmas.List.Elements.{Contains-get_or, Contains-append_left, Contains-push, Contains-push_cases}
use Rattle.std.proofs.lemmas.List.Sorted.{IsNonDecreasingBy-short, IsNonDecreasingBy-push}
use Rattle.jc_bytes.proofs.BooleanLaws.{none_in}
use Rattle.std.specs.Bool.{Decides}
use Rattle.jc_methods.specs.declared.kind.Kind.{Kind}
use Rattle.jc_methods.specs.declared.body.Body.{Body}
use Rattle.jc_refs_check.specs.declared.guards.Guard.{Guard}
use Rattle.jc_refs_check.specs.Unguarded.{IsFrameFor, AreSortedGuards, IsGuardedBy, AreFurther, AreGuards}
use Rattle.jc_refs_check.proofs.RowsLaws.{begins_before}

-- ---- frames of the same types

pub same_kinds : {E : Kind → Kind → Bool} (a b : List Kind) (r : Bool) → r ≡ pointwise E a b → ((x y : Kind) → Decides (E x y) (x ≡ y)) → r ≡ true → a ≡ b
same_kinds {E} a b r is decides holds = let both = pointwise_decides decides a b in both.0 (sym is ∙ holds)

-- ---- rows that guard more

-- the rows that are kept of those so far, and for each frame where those end
pub record AreKept (rows kept : List Guard) (ends : List ℕ) : Type 0 where
  pub starts : IsNonDecreasingBy (λ (g : Guard). g.start) kept
  pub among : (g : Guard) → Contains kept g → Contains rows g
  pub guarding : (g : Guard) (i : ℕ) → Contains rows g → g.start ≤ i → i < g.end → IsGuardedBy kept g.frame i
  pub reaching : (frame i : ℕ) → i < get_or ends frame 0 → (g : Guard) × Contains kept g × (i < g.end) × (g.frame ≡ frame)

pub none_kept : (ends : List ℕ) → ((frame : ℕ) → get_or ends frame 0 ≡ 0) → AreKept [] [] ends
none_kept ends none = record {
  starts = IsNonDecreasingBy-short (λ (g : Guard). g.start) [] (omega arith);
  among = λ g c. c;
  guarding = λ g i c. absurd (none_in g c);
  reaching = λ frame i lt. let z = none frame in absurd (omega (arith, lt, z));
}

module _ (rows : List Guard) (i : ℕ) (guard : Guard) (up : IsNonDecreasingBy (λ (g : Guard). g.start) rows) (lt : i < length rows) (is : guard ≡ get_or rows i guard)
    (kept : List Guard) (ends : List ℕ) (old : AreKept (take i rows) kept ends) where
  -- a row that ends further is kept
  kept_more : guard.frame < length ends → AreKept (take i rows ++ guard ∷ []) (kept ++ guard ∷ []) (set ends guard.frame guard.end)
  kept_more room = record {
    starts = IsNonDecreasingBy-push (λ (g : Guard). g.start) kept guard old.starts (λ d some.
        begins_before rows i guard up lt is _ (old.among _ (Contains-get_or kept _ d (omega (arith, some)))));
    among = λ g c. ⊎_elim
        (λ m. Contains-append_left (take i rows) (guard ∷ []) g (old.among g m))
        (λ e. subst (Contains (take i rows ++ guard ∷ [])) e (Contains-push (take i rows) guard))
        (Contains-push_cases kept guard g c);
    guarding = λ g k c from below. ⊎_elim
        (λ m.
        let by = old.guarding g k m from below in
        record { guard = by.guard; row = Contains-append_left kept (guard ∷ []) by.guard by.row; start = by.start; end = by.end; same = by.same })
        (λ e. record {
          guard = guard;
          row = Contains-push kept guard;
          start = subst (λ (x : Guard). x.start ≤ k) (sym e) from;
          end = subst (λ (x : Guard). k < x.end) (sym e) below;
          same = ap (λ (x : Guard). x.frame) e;
        })
        (Contains-push_cases (take i rows) guard g c);
    reaching = λ frame k less. ⊎_elim
        (λ same. (
          guard,
          Contains-push kept guard,
          subst (λ (x : ℕ). k < x) (ap (λ (x : ℕ). get_or (set ends guard.frame guard.end) x 0) same ∙ get_or-set_same ends guard.frame guard.end 0 room) less,
          sym same,
        ))
        (λ other.
        let by = old.reaching frame k (subst (λ (x : ℕ). k < x) (get_or-set_other ends guard.frame frame guard.end 0 other) less) in
        (by.0, Contains-append_left kept (guard ∷ []) by.0 by.1, by.2, by.3))
        (cases_eq frame guard.frame);
  }

  -- a row that ends no further isn't
  kept_same : guard.end ≤ get_or ends guard.frame 0 → AreKept (take i rows ++ guard ∷ []) kept ends
  kept_same near = record {
    starts = old.starts;
    among = λ g c. Contains-append_left (take i rows) (guard ∷ []) g (old.among g c);
    guarding = λ g k c from below. ⊎_elim
        (λ m. old.guarding g k m from below)
        (λ e.
        let end : k < guard.end = subst (λ (x : Guard). k < x.end) (sym e) below in
        let start : guard.start ≤ k = subst (λ (x : Guard). x.start ≤ k) (sym e) from in
        let by = old.reaching guard.frame k (omega (arith, end, near)) in
        let first = begins_before rows i guard up lt is by.0 (old.among by.0 by.1) in
        record { guard = by.0; row = by.1; start = omega (arith, first, start); end = by.2; same = by.3 ∙ ap (λ (x : Guard). x.frame) e })
        (Contains-push_cases (take i rows) guard g c);
    reaching = old.reaching;
  }

  -- one row more
  pub kept_on : (new : List Guard) (more : List ℕ) → guard.frame < length ends
      → (get_or ends guard.frame 0 < guard.end → (new ≡ kept ++ guard ∷ []) × (more ≡ set ends guard.frame guard.end))
      → (guard.end ≤ get_or ends guard.frame 0 → (new ≡ kept) × (more ≡ ends)) → AreKept (take (i + 1) rows) new more
  kept_on new more room further near =
      subst (λ (l : List Guard). AreKept l new more) (sym (take_more rows i guard lt ∙ ap (λ (x : Guard). take i rows ++ x ∷ []) (sym is)))
      (⊎_elim
      (λ far. let f = further far in subst (λ (l : List Guard). AreKept (take i rows ++ guard ∷ []) l more) (sym f.0)
      (subst (AreKept (take i rows ++ guard ∷ []) (kept ++ guard ∷ [])) (sym f.1) (kept_more room)))
      (λ low. let n = near low in subst (λ (l : List Guard). AreKept (take i rows ++ guard ∷ []) l more) (sym n.0)
      (subst (AreKept (take i rows ++ guard ∷ []) kept) (sym n.1) (kept_same low)))
      (cases_lt (get_or ends guard.frame 0) guard.end))

pub all_kept : (rows kept : List Guard) (at : ℕ) (ends : List ℕ) → length rows ≤ at → AreKept (take at rows) kept ends → AreFurther rows kept
all_kept rows kept at ends past found =
    let old = subst (λ (l : List Guard). AreKept l kept ends) (take_all at rows past) found in
    record { starts = old.starts; among = old.among; guarding = old.guarding }

-- ---- the rows of a method

pub frames_within : (b : Body) (rows : List Guard) → AreSortedGuards b rows → All (λ (g : Guard). g.frame ≤ length b.frames) rows
frames_within b rows are k d lt = let one = are.among (get_or rows k d) (Contains-get_or rows k d lt) in one.2.frame.within

pub further_made : (b : Body) (rows kept : List Guard) → AreSortedGuards b rows → AreFurther rows kept → AreGuards b kept
further_made b rows kept are some = record {
  starts = some.starts;
  among = λ g c. are.among g (some.among g c);
  guarding = λ h i c from below.
      let one = are.all h c in
      let s = one.2.start in let e = one.2.end in
      let by = some.guarding one.0 i one.1 (omega (arith, from, s)) (omega (arith, below, e)) in
      record { guard = by.guard; row = by.row; start = by.start; end = by.end; frame = subst (IsFrameFor b.frames h.target) (sym by.same) one.2.frame };
}
