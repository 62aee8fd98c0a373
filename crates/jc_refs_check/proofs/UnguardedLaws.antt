-- The first instruction whose references don't suit a handler, from what is caught and from each local variable.
use Rattle.std.proofs.Common.{◌≡◌, ◌⊎◌, inl, inr, ⊎_elim, ℕ, zero, suc, ◌+◌, ◌<◌, ◌≤◌, Bool, true, false, List, [], ◌∷◌, length, map, get_or, Option, Some, None, refl, sym, ◌∙◌, ap, subst, arith}
use Rattle.std.specs.List.{Contains, All, slice_get}
use Rattle.std.specs.Option.{option_and_then}
use Rattle.std.proofs.lemmas.Bool.{cases_lt, true≢false}
use Rattle.std.proofs.lemmas.List.{get_or-map}
use Rattle.std.proofs.lemmas.List.Elements.{All-contains}
use Rattle.std.proofs.lemmas.Option.{slice_get_within, get_or_from_slice_get}
use Rattle.jc_methods.specs.declared.kind.State.{State}
use Rattle.jc_methods.specs.declared.body.Body.{Body}
use Rattle.jc_methods.specs.declared.body.Handler.{Handler}
use Rattle.jc_methods.specs.declared.body.FrameAt.{FrameAt}
use Rattle.jc_methods.specs.VerificationTypes.{Names, VerificationType, verification_type, IsNumberedState, AreNumberedFrames, Grows}
use Rattle.jc_methods.specs.VerificationTypes as verification
use Rattle.jc_refs_check.specs.Suits.{class_suits}
use Rattle.jc_methods.specs.WellMade.{IsWellMade, IsHandler}
use Rattle.jc_methods.proofs.NumberedLaws.{grown_count, seen_grown, state_numbered}
use Rattle.jc_kinds.specs.Checked.{Checked, Guards, caught}
use Rattle.jc_kinds.specs.First.{IsFirstOrBound}
use Rattle.jc_kinds.specs.Frames.{frame_in}
use Rattle.jc_kinds.proofs.FirstLaws.{instead_first, either_first}
use Rattle.jc_kinds.proofs.WalkLaws.{frame_needed}
use Rattle.jc_refs_check.specs.declared.guards.Guard.{Guard}
use Rattle.jc_refs_check.specs.RefsOk.{TakesCaught, HandlersSuit}
use Rattle.jc_refs_check.specs.SuitedWalk.{IsFirstFailing}
use Rattle.jc_refs_check.specs.Unguarded.{class_at, classes_of, class_before, wanted_of, wanted_at, IsUnsuited, IsUnsuitedIn, IsFrameFor, AreGuards, AreKeptStates, IsUntaken, FrameTakes}
use Rattle.jc_refs_check.proofs.FrameNumberLaws.{stands_there}
use Rattle.jc_refs_check.proofs.HandlerLaws.{handler_suits, handler_takes, handler_fails}

-- what is caught isn't taken, or an object in one of so many local variables doesn't suit
abbrev pub IsUnguardedAt : Names → Body → List State → List Guard → (slots : ℕ) → ℕ → Type 0
IsUnguardedAt names b states rows slots i = IsUntaken names b i ⊎ ((slot : ℕ) × (slot < slots) × IsUnsuitedIn names (classes_of states slot) b.frames slot rows i)

-- ---- one local variable after the other

pub no_slots : (names : Names) (b : Body) (states : List State) (rows : List Guard) (bound first : ℕ) → IsFirstOrBound (IsUntaken names b) bound first
    → IsFirstOrBound (IsUnguardedAt names b states rows 0) bound first
no_slots names b states rows bound first is = instead_first bound first (λ i lt u. inl u) (λ i lt u. ⊎_elim (λ t. t) (λ s. let l = s.1 in absurd (omega (arith, l))) u) is

pub slots_on : (names : Names) (b : Body) (states : List State) (rows : List Guard) (slot bound first next : ℕ) → IsFirstOrBound (IsUnguardedAt names b states rows slot) bound first
    → IsFirstOrBound (IsUnsuitedIn names (classes_of states slot) b.frames slot rows) first next → IsFirstOrBound (IsUnguardedAt names b states rows (slot + 1)) bound next
slots_on names b states rows slot bound first next so_far is = instead_first bound next
    (λ i lt u. ⊎_elim
    (λ before. ⊎_elim (λ t. inl t) (λ s. let l = s.1 in inr (s.0, omega (arith, l), s.2)) before)
    (λ here. inr (slot, omega arith, here)) u)
    (λ i lt u. ⊎_elim
    (λ t. inl (inl t))
    (λ s. ⊎_elim
    (λ low. inl (inr (s.0, low, s.2)))
    (λ high. let l = s.1 in let same : s.0 ≡ slot = omega (arith, l, high) in
    inr (subst (λ (k : ℕ). IsUnsuitedIn names (classes_of states k) b.frames k rows i) same s.2))
    (cases_lt s.0 slot)) u)
    (either_first bound first next so_far is)

-- ---- states under later names

pub states_later : (old new : Names) (states : List State) → Grows old new → All (IsNumberedState (length old)) states → All (IsNumberedState (length new)) states
states_later old new states g all k d lt = state_numbered (length old) (length new) (get_or states k d) (grown_count old new g) (all k d lt)

pub kept_later : (old names new : Names) (b : Body) (states : List State) → Grows names new → AreKeptStates old names b states → AreKeptStates old new b states
kept_later old names new b states g kept i s at = let k = kept i s at in record {
  is = k.is ∙ ap Some (sym (seen_grown names new s g k.numbered));
  numbered = state_numbered (length names) (length new) s (grown_count names new g) k.numbered;
  well_made = k.well_made;
}

-- ---- all of them

some_at : {X : Type 0} (xs : List X) (i : ℕ) → i < length xs → (x : X) × (slice_get xs i ≡ Some x)
some_at [] i lt = absurd (omega (arith, lt))
some_at (x ∷ xs) zero lt = (x, refl)
some_at (x ∷ xs) (suc i) lt = some_at xs i (omega (arith, lt))

-- whether what is caught is taken is decided
takes_decided : (a : VerificationType) (stack : List VerificationType) → ((TakesCaught a stack → ⊥) → ⊥) → TakesCaught a stack
takes_decided (verification.object name) (verification.object other ∷ []) decided = by (class_suits name other) refl
  where
    by : (b : Bool) → class_suits name other ≡ b → b ≡ true
    by true e = refl
    by false e = absurd (decided (λ t. true≢false (sym t ∙ e)))
takes_decided a stack decided = absurd (decided (λ t. t))

module _ (old names : Names) (b : Body) (states : List State) (rows : List Guard) (made : IsWellMade b) (guards : AreGuards b rows) (grown : Grows old names)
    (few : length states ≤ length b.code) (frames : AreNumberedFrames (length old) b.frames) (checked : Checked old b) (kept : AreKeptStates old names b states) where
  -- a frame stands at each handler
  handler_frame : (h : Handler) → Contains b.handlers h → (f : State) × (frame_in b.frames h.target ≡ Some f)
  handler_frame h there = by (frame_in b.frames h.target) refl
    where
      by : (o : Option State) → frame_in b.frames h.target ≡ o → (f : State) × (frame_in b.frames h.target ≡ Some f)
      by (Some f) e = (f, e)
      by None e = absurd (frame_needed b h.target checked.none_missing (All-contains (IsHandler (length b.code)) b.handlers h made.of_any_size.handlers there).target
          (inr (inl (h, there, refl))) e)

  -- what the handler's frame wants in a local variable
  wanted_is : (h : Handler) (g : Guard) (f : State) (slot : ℕ) → IsFrameFor b.frames h.target g.frame
      → frame_in b.frames h.target ≡ Some f → wanted_at names b.frames g.frame slot ≡ wanted_of names (class_at slot f)
  wanted_is h g f slot is at =
      let there = stands_there 0 b.code b.max_locals b.max_stack b.frames made.of_any_size.frames h.target is.count is.stands f at in
      is.alike names slot ∙ ap (option_and_then (λ (x : FrameAt). wanted_of names (class_at slot x.state))) there.1 ∙ ap (λ (s : State). wanted_of names (class_at slot s)) there.2

  class_is : (slot i : ℕ) (s : State) → slice_get states i ≡ Some s → class_before (classes_of states slot) i ≡ class_at slot s
  class_is slot i s at = get_or-map (class_at slot) states i s None (slice_get_within states i s at) ∙ ap (class_at slot) (get_or_from_slice_get states i s s at)

  state_there : (i : ℕ) → i < length states → (s : State) × (slice_get states i ≡ Some s)
  state_there i lt = some_at states i lt

  suits_all : (i : ℕ) → i < length states → (IsUnguardedAt names b states rows b.max_locals i → ⊥) → HandlersSuit old b i
  suits_all i lt none h g =
      let f = handler_frame h g.row in
      let s = state_there i lt in
      let k = kept i s.0 s.1 in
      let row = guards.guarding h i g.row g.start g.end in
      handler_suits old names b h i s.0 f.0 checked grown frames g (omega (arith, lt, few)) k.is f.1
      (λ slot room want wanted unsuited.
      none (inr (
        slot,
        (let n = k.well_made.locals in omega (arith, room, n)),
        record {
          guard = row.guard;
          row = row.row;
          unsuited = record {
            start = row.start;
            end = row.end;
            want = want;
            wanted = wanted_is h row.guard f.0 slot row.frame f.1 ∙ wanted;
            unsuited = subst (λ (o : Option ℕ). IsUnsuited names o want) (sym (class_is slot i s.0 s.1)) unsuited;
          };
        },
      )))
      (takes_decided (caught b h) (map (verification_type names) f.0.stack)
      (λ untaken. none (inl (record { handler = h; guards = g; untaken = subst (λ (o : Option State). FrameTakes names b h o → ⊥) (sym f.1) untaken }))))

  fails_one : (i : ℕ) → i < length states → IsUnguardedAt names b states rows b.max_locals i → HandlersSuit old b i → ⊥
  fails_one i lt (inl u) suit =
      let f = handler_frame u.handler u.guards.row in let s = state_there i lt in let k = kept i s.0 s.1 in
      u.untaken (subst (FrameTakes names b u.handler) (sym f.1)
      (handler_takes old names b u.handler i s.0 f.0 checked grown frames u.guards (omega (arith, lt, few)) k.is f.1 (suit u.handler u.guards)))
  fails_one i lt (inr (slot, room, u)) suit =
      let from = guards.among u.guard u.row in
      let h = from.0 in let f = handler_frame h from.1 in let s = state_there i lt in let k = kept i s.0 s.1 in
      let g : Guards b h i = record {
        row = from.1;
        start = (let p = from.2.start in let q = u.unsuited.start in omega (arith, p, q));
        end = (let p = from.2.end in let q = u.unsuited.end in omega (arith, p, q));
      } in
      handler_fails old names b h i s.0 f.0 checked grown frames g (omega (arith, lt, few)) k.is f.1 slot u.unsuited.want (let n = k.well_made.locals in omega (arith, room, n))
      (sym (wanted_is h u.guard f.0 slot from.2.frame f.1) ∙ u.unsuited.wanted)
      (subst (λ (o : Option ℕ). IsUnsuited names o u.unsuited.want) (class_is slot i s.0 s.1) u.unsuited.unsuited) (suit h g)

  pub unguarded_is : (first : ℕ) → IsFirstOrBound (IsUnguardedAt names b states rows b.max_locals) (length states) first → IsFirstFailing (HandlersSuit old b) (length states) first
  unguarded_is first is = record {
    within = is.within;
    holds = λ i lt. let w = is.within in suits_all i (omega (arith, lt, w)) (is.free i lt);
    fails = λ lt. fails_one first lt (is.found lt);
  }
