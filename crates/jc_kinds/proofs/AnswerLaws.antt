-- The first place by the walk and by the handlers is that of the kind check.
use Rattle.std.proofs.Common.{◌≡◌, ◌≢◌, ◌⊎◌, inl, inr, ⊎_elim, ℕ, zero, suc, ◌<◌, ◌≤◌, Bool, true, List, [], ◌∷◌, length, Option, Some, None, refl, sym, ◌∙◌, ap, subst, arith}
use Rattle.std.specs.Option.{option_and_then}
use Rattle.std.specs.List.{slice_get, All, Contains}
use Rattle.std.proofs.lemmas.List.Elements.{All-weaker}
use Rattle.jc_methods.specs.declared.kind.State.{State}
use Rattle.jc_methods.specs.declared.body.Handler.{Handler}
use Rattle.jc_methods.specs.declared.body.Body.{Body}
use Rattle.jc_methods.specs.declared.body.FrameAt.{FrameAt}
use Rattle.jc_methods.specs.VerificationTypes.{Names, TypeState, type_state, IsNumberedState, AreNumberedFrames, Grows}
use Rattle.jc_methods.specs.EntryState.{entry_seen, entry_of}
use Rattle.jc_bytes.specs.Least.{IsNowhere}
use Rattle.jc_methods.specs.WellMade.{IsHandler, IsState, IsWellMade}
use Rattle.jc_kinds_after.specs.After.{after_of}
use Rattle.jc_kinds.specs.Fits.{FitsThere}
use Rattle.jc_kinds.specs.States.{state_of, after_at}
use Rattle.jc_kinds.specs.Checked.{IsMissing, at_handler, EntryClash, NoAfter, BranchClash, HandlerClash, IsClash, Checked, FirstClash}
use Rattle.jc_kinds.specs.Answers.{AreStates}
use Rattle.jc_kinds.specs.First.{IsFirstOrBound}
use Rattle.jc_kinds.specs.Guarded.{IsUnguarded, IsUnguardedIn}
use Rattle.jc_kinds.specs.StateSequence.{IsKeptEntry, IsFlowClash, IsWalk, IsWalkFrom}
use Rattle.std.proofs.lemmas.Option.{none-some}
use Rattle.jc_bytes.proofs.BooleanLaws.{none_in}
use Rattle.jc_methods.proofs.NumberedLaws.{grown_count, seen_grown, state_numbered, frames_numbered}
use Rattle.jc_kinds.proofs.CheckLaws.{checked}
use Rattle.jc_kinds.proofs.FirstLaws.{instead_first, either_first}
use Rattle.jc_kinds.proofs.GrowLaws.{states_stay}
use Rattle.jc_kinds.proofs.HandlerLaws.{unguarded_clashes, clash_unguarded}
use Rattle.jc_kinds.proofs.FrameLaws.{frames_within}
use Rattle.jc_kinds.proofs.MissingLaws.{few_insns}

-- ---- under more names

same_states : (old new : Names) (b : Body) → Grows old new → AreNumberedFrames (length old) b.frames → (i : ℕ) → state_of new b i ≡ state_of old b i
same_states old new b g n i = ap (λ (names : Names). state_of names b i) g.1 ∙ states_stay old g.0 b n i

-- each cause of a clash, under states that are the same
either_way : (old new : Names) (b : Body) → ((i : ℕ) → state_of new b i ≡ state_of old b i) → (i : ℕ) → i < length b.code → IsFlowClash old b i ⊎ HandlerClash old b i → IsClash new b i
either_way old new b same i lt e = record { within = lt; cause = ⊎_elim flow (λ w. inr (inr (inr (w.0, w.1, λ fit. w.2 (handler w.0 fit))))) e }
  where
    after : after_at new b i ≡ after_at old b i
    after = ap (option_and_then (after_of b i)) (same i)

    handler : (h : Handler) → FitsThere (at_handler b h (state_of new b i)) (state_of new b h.target) → FitsThere (at_handler b h (state_of old b i)) (state_of old b h.target)
    handler h fit = subst (λ (t : Option TypeState). FitsThere (at_handler b h t) (state_of old b h.target)) (same i) (subst (FitsThere (at_handler b h (state_of new b i))) (same h.target) fit)

    flow : IsFlowClash old b i → EntryClash new b i ⊎ (NoAfter new b i ⊎ (BranchClash new b i ⊎ HandlerClash new b i))
    flow (inl w) = inl (w.0, λ fit. w.1 (subst (FitsThere (Some (entry_of b))) (same 0) fit))
    flow (inr (inl none)) = inr (inl (after ∙ none))
    flow (inr (inr w)) = inr (inr (inl (w.0, w.1, λ fit. w.2 (subst (λ (t : Option TypeState). FitsThere t (state_of old b w.0)) after (subst (FitsThere (after_at new b i)) (same w.0) fit)))))

other_way : (new old : Names) (b : Body) → ((i : ℕ) → state_of old b i ≡ state_of new b i) → (i : ℕ) → IsClash new b i → IsFlowClash old b i ⊎ HandlerClash old b i
other_way new old b same i c = by (either_way new old b same i c.within (sides c.cause)).cause
  where
    sides : {A B C D : Type 0} → A ⊎ (B ⊎ (C ⊎ D)) → (A ⊎ (B ⊎ C)) ⊎ D
    sides (inl a) = inl (inl a)
    sides (inr (inl x)) = inl (inr (inl x))
    sides (inr (inr (inl x))) = inl (inr (inr x))
    sides (inr (inr (inr d))) = inr d

    by : EntryClash old b i ⊎ (NoAfter old b i ⊎ (BranchClash old b i ⊎ HandlerClash old b i)) → IsFlowClash old b i ⊎ HandlerClash old b i
    by e = sides e

not_past : (states : List State) (i : ℕ) → i < length states → slice_get states i ≡ None → ⊥
not_past [] i lt e = omega (arith, lt)
not_past (s ∷ states) zero lt e = none-some _ (sym e)
not_past (s ∷ states) (suc i) lt e = not_past states i (omega (arith, lt)) e

-- ---- the first of both

some_row : (hs : List Handler) (h : Handler) → Contains hs h → hs ≢ []
some_row hs h row none = none_in h (subst (λ (l : List Handler). Contains l h) none row)

unguarded_row : (states : List State) (frames : List FrameAt) (hs : List Handler) (slots i : ℕ) → IsUnguarded states frames hs slots i → hs ≢ []
unguarded_row states frames hs slots i (inl u) = some_row hs u.handler u.row
unguarded_row states frames hs slots i (inr (slot, lt, u)) = some_row hs u.handler u.row

module _ (old new : Names) (b : Body) (keeps : Bool) (count : ℕ) (states : List State) (result : ℕ) (made : IsWellMade b) (missing : IsNowhere (IsMissing b)) (grown : Grows old new)
    (frames : AreNumberedFrames (length old) b.frames) (walk : IsWalk old new b keeps count states) (rows : b.handlers ≢ [] → keeps ≡ true)
    (guarded : IsFirstOrBound (IsUnguarded states b.frames b.handlers b.max_locals) count result) where
  first_clash : IsFirstOrBound (λ i. IsFlowClash old b i ⊎ HandlerClash old b i) (length b.code) result
  first_clash = either_first (length b.code) count result walk.first (instead_first count result
      (λ i lt u. let s = there i lt (unguarded_row states b.frames b.handlers b.max_locals i u) in unguarded_clashes old new b states i s.0 made missing grown frames s.1 (walk.each i s.0 s.1) u)
      (λ i lt u. let s = there i lt (some_row b.handlers u.0 u.1.row) in clash_unguarded old new b states i s.0 made missing grown frames s.1 (walk.each i s.0 s.1) u)
      guarded)
    where
      there : (i : ℕ) → i < count → b.handlers ≢ [] → (s : State) × (slice_get states i ≡ Some s)
      there i lt some = by (slice_get states i) refl
        where
          by : (o : Option State) → slice_get states i ≡ o → (s : State) × (slice_get states i ≡ Some s)
          by (Some s) e = (s, e)
          by None e = absurd (not_past states i (let all = walk.kept (rows some) in omega (arith, lt, all)) e)

  same : (i : ℕ) → state_of new b i ≡ state_of old b i
  same = same_states old new b grown frames

  pub clash_found : result < length b.code → FirstClash new b result
  clash_found lt = (
    missing,
    record {
      there = either_way old new b same result lt (first_clash.found lt);
      first = λ i less c. first_clash.free i less (other_way new old b (λ j. sym (same j)) i c);
    },
  )

  pub all_checked : length b.code ≤ result → Checked new b × (keeps ≡ true → AreStates new b states)
  all_checked all = (
    checked new b made.of_any_size.code.some missing (λ i c. first_clash.free i (let w = c.within in omega (arith, w, all)) (other_way new old b (λ j. sym (same j)) i c)),
    λ keep. record {
      count = let k = walk.kept keep in let w = walk.first.within in let r = guarded.within in omega (arith, k, w, r, all);
      each = λ i s e. let k = walk.each i s e in record { is = same i ∙ k.is; numbered = k.numbered; well_made = k.well_made };
    },
  )

-- ---- from the names that there were

pub entry_on : (old new : Names) (b : Body) (s : State) → Grows old new → IsKeptEntry old b s → IsKeptEntry new b s
entry_on old new b s g k = record {
  is = seen_grown old new s g k.numbered ∙ k.is;
  numbered = state_numbered (length old) (length new) s (grown_count old new g) k.numbered;
  well_made = k.well_made;
}

entry_args : (owner name desc o n d : List ℕ) (flags count : ℕ) → o ≡ owner → n ≡ name → d ≡ desc → entry_seen o n d flags count ≡ entry_seen owner name desc flags count
entry_args owner name desc o n d flags count p q r = λ i. entry_seen (p i) (q i) (r i) flags count

pub entry_kept : (names : Names) (b : Body) (s : State) (o n d : List ℕ) → o ≡ b.owner → n ≡ b.name → d ≡ b.desc
    → type_state names s ≡ entry_seen o n d b.flags b.max_locals → IsNumberedState (length names) s
    → IsState b.code b.max_locals b.max_stack s → IsKeptEntry names b s
entry_kept names b s o n d p q r is numbered made = record { is = is ∙ entry_args b.owner b.name b.desc o n d b.flags b.max_locals p q r; numbered = numbered; well_made = made }

pub rows_start : (b : Body) → IsWellMade b → All (λ h. h.start < h.end) b.handlers
rows_start b made = All-weaker (IsHandler (length b.code)) (λ h. h.start < h.end) (λ h is. is.some) b.handlers made.of_any_size.handlers

pub few_walked : (old new : Names) (b : Body) (keeps : Bool) (count : ℕ) (states : List State) → IsWellMade b → IsWalkFrom old new b keeps count states → count ≤ 65535
few_walked old new b keeps count states made w = let few = few_insns b made in let in_code = w.walk.first.within in omega (arith, few, in_code)

-- the states of a body with rows are kept
pub kept_by_rows : (old new : Names) (b : Body) (keeps : Bool) (count : ℕ) (states kept : List State) → (b.handlers ≢ [] → keeps ≡ true) → kept ≡ states
    → IsWalkFrom old new b keeps count states → b.handlers ≢ [] → length kept ≡ count
kept_by_rows old new b keeps count states kept rows same w some = ap (λ (l : List State). length l) same ∙ w.walk.kept (rows some)

-- the place was looked for in the states that the walk has
pub same_guard : (b : Body) (states kept : List State) (count place : ℕ) → kept ≡ states
    → IsFirstOrBound (IsUnguardedIn b kept) count place → IsFirstOrBound (IsUnguardedIn b states) count place
same_guard b states kept count place same first = subst (λ (l : List State). IsFirstOrBound (IsUnguardedIn b l) count place) same first

pub clash_answered_at : (old new : Names) (b : Body) (keeps : Bool) (count : ℕ) (states : List State) (place : ℕ) → IsWellMade b → IsNowhere (IsMissing b) → AreNumberedFrames (length old) b.frames
    → IsWalkFrom old new b keeps count states → (b.handlers ≢ [] → keeps ≡ true)
    → IsFirstOrBound (IsUnguarded states b.frames b.handlers b.max_locals) count place → place < length b.code → FirstClash new b place
clash_answered_at old new b keeps count states place made missing numbered w rows first lt =
    clash_found w.base new b keeps count states place made missing w.grown (frames_numbered (length old) (length w.base) b.frames (grown_count old w.base w.before) numbered) w.walk rows first lt

pub states_answered_all : (old new : Names) (b : Body) (keeps : Bool) (count : ℕ) (states : List State) (place : ℕ) → IsWellMade b → IsNowhere (IsMissing b) → AreNumberedFrames (length old) b.frames
    → IsWalkFrom old new b keeps count states → (b.handlers ≢ [] → keeps ≡ true) → IsFirstOrBound (IsUnguarded states b.frames b.handlers b.max_locals) count place → length b.code ≤ place
    → Checked new b × (keeps ≡ true → AreStates new b states)
states_answered_all old new b keeps count states place made missing numbered w rows first all =
    all_checked w.base new b keeps count states place made missing w.grown (frames_numbered (length old) (length w.base) b.frames (grown_count old w.base w.before) numbered) w.walk rows first all

pub frames_inside : (b : Body) (frames : List FrameAt) (count : ℕ) → IsWellMade b → frames ≡ b.frames → count ≡ length b.code → All (λ f. f.at < count) frames
frames_inside b frames count made framed counted =
    subst (λ (n : ℕ). All (λ f. f.at < n) frames) (sym counted)
    (subst (λ (fs : List FrameAt). All (λ f. f.at < length b.code) fs) (sym framed) (frames_within 0 b.code b.max_locals b.max_stack b.frames made.of_any_size.frames))
