-- One instruction on.
use Rattle.std.proofs.Common.{◌≡◌, inl, inr, ⊎_elim, ℕ, zero, suc, ◌+◌, ◌<◌, Bool, true, false, ◌&&◌, List, [], ◌∷◌, ◌++◌, length, Option, Some, None, is_some, option_map, unwrap_or, refl, sym, ◌∙◌, ap, subst, arith, add-one, if◌then◌else◌}
use Rattle.std.specs.Option.{option_and_then}
use Rattle.std.specs.List.{Contains, All, AllByRecursion, list_all, slice_get}
use Rattle.std.proofs.lemmas.Bool.{cases_lt, and_parts, true≢false}
use Rattle.std.proofs.lemmas.List.{length_push, append-nil}
use Rattle.std.proofs.lemmas.List.Elements.{All-contains, All-from_recursion}
use Rattle.jc_methods.specs.declared.kind.State.{State}
use Rattle.jc_methods.specs.declared.body.Body.{Body}
use Rattle.jc_methods.specs.Flow.{targets_of, falls_at}
use Rattle.jc_methods.specs.InsnUse.{LeadsWithin}
use Rattle.jc_methods.specs.VerificationTypes.{Names, VerificationType, TypeState, type_state, IsNumberedState, AreNumberedFrames, Grows}
use Rattle.jc_methods.specs.EntryState.{entry_of}
use Rattle.jc_bytes.specs.Least.{IsNowhere}
use Rattle.jc_methods.specs.WellMade.{IsState, IsWellMade}
use Rattle.jc_kinds_after.specs.After.{insn_at, after_of}
use Rattle.jc_kinds.specs.Fits.{FitState, FitsThere, fits, fit_each}
use Rattle.jc_kinds.specs.States.{or_else, state_of, after_at}
use Rattle.jc_kinds.specs.Checked.{JumpsTo, LeadsTo, NeedsFrame, IsMissing}
use Rattle.jc_kinds.specs.Checking.{branches}
use Rattle.jc_kinds.specs.Frames.{frame_in}
use Rattle.jc_kinds.specs.KindFits.{state_fits}
use Rattle.jc_kinds.specs.StateSequence.{fits_there, fits_frame, Begins, IsStep, StopsAt, IsKeptAt, IsFlowClash, kept_of, IsWalk}
use Rattle.std.proofs.lemmas.Option.{none-some}
use Rattle.jc_bytes.proofs.BooleanLaws.{fails_where, stands_in, first_in, later_in}
use Rattle.jc_kinds.proofs.FitsLaws.{fits_itself, state_decided}
use Rattle.jc_methods.proofs.FlowLaws.{goes_on_decided, falls_into_decided}
use Rattle.jc_kinds.proofs.CheckLaws.{has_frame_decided, leads_decided}
use Rattle.jc_kinds.proofs.KindFitsLaws.{state_held_fits}
use Rattle.jc_kinds.proofs.FrameLaws.{frame_seen, frame_found, frame_numbered}
use Rattle.jc_methods.proofs.MetNamesLaws.{grows_none, grows_both}
use Rattle.jc_methods.proofs.NumberedLaws.{grown_count, seen_grown, state_numbered}
use Rattle.jc_bytes.proofs.ListLaws.{put_cases}

-- ---- states that fit

each_itself : (hs : List VerificationType) → fit_each hs hs ≡ true
each_itself [] = refl
each_itself (h ∷ hs) = ap (λ (b : Bool). b && fit_each hs hs) (fits_itself h) ∙ each_itself hs

pub state_itself : (s : TypeState) → FitState s s
state_itself s = (state_decided s s).to (ap (λ (b : Bool). b && fit_each s.stack s.stack) (each_itself s.locals) ∙ each_itself s.stack)

pub kept_fits : (names : Names) (s t : State) → state_fits s t ≡ true → FitState (type_state names s) (type_state names t)
kept_fits names s t e = (state_decided (type_state names s) (type_state names t)).to (sym (state_held_fits names s t) ∙ e)

pub kept_misfits : (names : Names) (s t : State) → state_fits s t ≡ false → FitState (type_state names s) (type_state names t) → ⊥
kept_misfits names s t e = fails_where (state_decided (type_state names s) (type_state names t)) (sym (state_held_fits names s t) ∙ e)

-- ---- tests of all items

pub all_true : {X : Type 0} (test : X → Bool) (xs : List X) (x : X) → list_all test xs ≡ true → Contains xs x → test x ≡ true
all_true {X} test xs x e c = All-contains (λ (y : X). test y ≡ true) xs x (All-from_recursion (λ (y : X). test y ≡ true) xs (parts xs e)) c
  where
    parts : (ys : List X) → list_all test ys ≡ true → AllByRecursion (λ (y : X). test y ≡ true) ys
    parts [] e = tt
    parts (y ∷ ys) e = let p = and_parts (test y) (list_all test ys) e in (p.0, parts ys p.1)

pub all_false : {X : Type 0} (test : X → Bool) (xs : List X) → list_all test xs ≡ false → (x : X) × Contains xs x × (test x ≡ false)
all_false test [] e = absurd (true≢false e)
all_false {X} test (x ∷ xs) e = by (λ more. all_false test xs more) (test x) refl e
  where
    by : (list_all test xs ≡ false → (y : X) × Contains xs y × (test y ≡ false)) → (b : Bool) → test x ≡ b → (b && list_all test xs) ≡ false → (y : X) × Contains (x ∷ xs) y × (test y ≡ false)
    by rest true is e = let more = rest e in (more.0, later_in x xs more.0 more.1, more.2)
    by rest false is e = (x, first_in x xs, is)

-- ---- frames that are needed

-- where a frame is needed and none is missing, one stands
pub frame_needed : (b : Body) (j : ℕ) → IsNowhere (IsMissing b) → j < length b.code → NeedsFrame b j → frame_in b.frames j ≡ None → ⊥
frame_needed b j missing lt needs none = missing j (record {
  within = lt;
  needs = needs;
  none = fails_where (has_frame_decided b j) (frame_found b.frames j ∙ ap is_some none);
})

jump_within : (b : Body) (i j : ℕ) → All (LeadsWithin (length b.code)) b.code → JumpsTo b i j → j < length b.code
jump_within b i j places t =
    All-contains (λ to. to < length b.code) (targets_of t.insn) j
    (All-from_recursion (λ to. to < length b.code) (targets_of t.insn) (All-contains (LeadsWithin (length b.code)) b.code t.insn places (stands_in b.code i t.insn t.stands)))
    t.target

-- ---- states by frames

module _ (old : Names) (b : Body) where
  pub frame_is : (j : ℕ) (s : State) → frame_in b.frames j ≡ Some s → state_of old b j ≡ Some (type_state old s)
  unfolding state_of
  frame_is zero s e = ap (λ (o : Option TypeState). or_else o (Some (entry_of b))) (frame_seen old b.frames 0 ∙ ap (option_map (type_state old)) e)
  frame_is (suc j) s e =
      ap (λ (o : Option TypeState). or_else o (if falls_at (insn_at b j) then option_and_then (after_of b j) (state_of old b j) else None))
      (frame_seen old b.frames (suc j) ∙ ap (option_map (type_state old)) e)

  pub entry_is : frame_in b.frames 0 ≡ None → state_of old b 0 ≡ Some (entry_of b)
  unfolding state_of
  entry_is e = ap (λ (o : Option TypeState). or_else o (Some (entry_of b))) (frame_seen old b.frames 0 ∙ ap (option_map (type_state old)) e)

  pub falls_is : (i : ℕ) → frame_in b.frames (suc i) ≡ None → falls_at (insn_at b i) ≡ true → state_of old b (suc i) ≡ after_at old b i
  unfolding state_of
  falls_is i e falls =
      ap (λ (o : Option TypeState). or_else o (if falls_at (insn_at b i) then option_and_then (after_of b i) (state_of old b i) else None))
      (frame_seen old b.frames (suc i) ∙ ap (option_map (type_state old)) e)
      ∙ ap (λ (c : Bool). if c then option_and_then (after_of b i) (state_of old b i) else None) falls

-- ---- the first state

pub begins_there : (old : Names) (b : Body) (entry s : State) → type_state old entry ≡ entry_of b → Begins b.frames entry (Some s)
    → (state_of old b 0 ≡ Some (type_state old s)) × FitsThere (Some (entry_of b)) (state_of old b 0)
begins_there old b entry s is begins = by (frame_in b.frames 0) refl begins.0 begins.1
  where
    by : (o : Option State) → frame_in b.frames 0 ≡ o → fits_there entry o ≡ true → s ≡ unwrap_or o entry
        → (state_of old b 0 ≡ Some (type_state old s)) × FitsThere (Some (entry_of b)) (state_of old b 0)
    by None e fits same =
        let here = entry_is old b e in (
          here ∙ ap Some (sym is ∙ ap (type_state old) (sym same)),
          subst (FitsThere (Some (entry_of b))) (sym here) (state_itself (entry_of b)),
        )
    by (Some f) e fits same =
        let here = frame_is old b 0 f e in (
          here ∙ ap (λ (t : State). Some (type_state old t)) (sym same),
          subst (FitsThere (Some (entry_of b))) (sym here) (subst (λ (t : TypeState). FitState t (type_state old f)) is (kept_fits old entry f fits)),
        )

pub begins_not : (old : Names) (b : Body) (entry : State) → type_state old entry ≡ entry_of b → fits_frame b.frames entry 0 ≡ false → IsFlowClash old b 0
begins_not old b entry is misses = by (frame_in b.frames 0) refl misses
  where
    by : (o : Option State) → frame_in b.frames 0 ≡ o → fits_there entry o ≡ false → IsFlowClash old b 0
    by None e misses = absurd (true≢false misses)
    by (Some f) e misses = inl (
      refl,
      λ fit.
          kept_misfits old entry f misses (subst (λ (t : TypeState). FitState t (type_state old f)) (sym is) (subst (FitsThere (Some (entry_of b))) (frame_is old b 0 f e) fit)),
    )

-- ---- one instruction

module _ (old before after : Names) (b : Body) (i : ℕ) (s : State) (made : IsWellMade b) (missing : IsNowhere (IsMissing b)) (grown : Grows old after)
    (frames : AreNumberedFrames (length old) b.frames) (lt : i < length b.code) (here : state_of old b i ≡ Some (type_state before s)) where
  after_is : after_at old b i ≡ after_of b i (type_state before s)
  after_is = ap (option_and_then (after_of b i)) here

  frame_later : (j : ℕ) (f : State) → frame_in b.frames j ≡ Some f → state_of old b j ≡ Some (type_state after f)
  frame_later j f e = frame_is old b j f e ∙ ap Some (sym (seen_grown old after f grown (frame_numbered (length old) b.frames frames j f e)))

  -- where control goes on the state after the instruction fits
  leads_there : (left : State) (j : ℕ) → after_at old b i ≡ Some (type_state after left) → LeadsTo b i j → fits_frame b.frames left j ≡ true
      → FitsThere (Some (type_state after left)) (state_of old b j)
  leads_there left j is leads fits = by (frame_in b.frames j) refl fits leads
    where
      by : (o : Option State) → frame_in b.frames j ≡ o → fits_there left o ≡ true → LeadsTo b i j → FitsThere (Some (type_state after left)) (state_of old b j)
      by (Some f) e fits leads = subst (FitsThere (Some (type_state after left))) (sym (frame_later j f e)) (kept_fits after left f fits)
      by None e fits (inl g) =
          let next : j ≡ suc i = g.1 ∙ add-one i in
          let state : state_of old b j ≡ Some (type_state after left) = ap (state_of old b) next ∙ falls_is old b i (sym (ap (frame_in b.frames) next) ∙ e) ((goes_on_decided b i).back g.0) ∙ is in
          subst (FitsThere (Some (type_state after left))) (sym state) (state_itself (type_state after left))
      by None e fits (inr t) = absurd (frame_needed b j missing (jump_within b i j made.of_any_size.code.places t) (inl (i, t)) e)

  -- where control goes on with no state that fits
  pub stop_clashes : StopsAt before after b i s → IsFlowClash old b i
  stop_clashes (inl none) = inr (inl (after_is ∙ none))
  stop_clashes (inr (left, is, misses)) = let f = all_false (fits_frame b.frames left) (branches (insn_at b i) i) misses in by f.0 ((leads_decided b i f.0).0 f.1) (frame_in b.frames f.0) refl f.2
    where
      by : (j : ℕ) → LeadsTo b i j → (o : Option State) → frame_in b.frames j ≡ o → fits_there left o ≡ false → IsFlowClash old b i
      by j leads None e misses = absurd (true≢false misses)
      by j leads (Some f) e misses = inr (inr (
        j,
        leads,
        λ fit. kept_misfits after left f misses
            (subst (λ (t : Option TypeState). FitsThere t (Some (type_state after f))) (after_is ∙ is) (subst (FitsThere (after_at old b i)) (frame_later j f e) fit)),
      ))

  -- where it goes on with one
  pub step_passes : (next : State) → FitsThere (Some (entry_of b)) (state_of old b 0) → IsStep before after b i s next → IsFlowClash old b i → ⊥
  step_passes next entry st (inl (first, unfit)) = unfit entry
  step_passes next entry st (inr (inl none)) = none-some _ (sym none ∙ (after_is ∙ st.after))
  step_passes next entry st (inr (inr (j, leads, unfit))) =
      let is = after_is ∙ st.after in
      unfit (subst (λ (t : Option TypeState). FitsThere t (state_of old b j)) (sym is)
      (leads_there st.left j is leads (all_true (fits_frame b.frames st.left) (branches (insn_at b i) i) j st.fits ((leads_decided b i j).1 leads))))

  -- and the next instruction has its state
  pub step_leads : (next : State) → IsStep before after b i s next → suc i < length b.code → IsKeptAt old after b (suc i) next
  step_leads next st room = record { is = by (frame_in b.frames (suc i)) refl; numbered = st.numbered; well_made = st.well_made }
    where
      next_is : next ≡ unwrap_or (frame_in b.frames (suc i)) st.left
      next_is = st.next_is ∙ ap (λ (k : ℕ). unwrap_or (frame_in b.frames k) st.left) (add-one i)

      by : (o : Option State) → frame_in b.frames (suc i) ≡ o → state_of old b (suc i) ≡ Some (type_state after next)
      by (Some f) e = frame_later (suc i) f e ∙ ap (λ (t : State). Some (type_state after t)) (sym (next_is ∙ ap (λ (o : Option State). unwrap_or o st.left) e))
      by None e = falls_is old b i e (falls (falls_at (insn_at b i)) refl) ∙ after_is ∙ st.after
          ∙ ap (λ (t : State). Some (type_state after t)) (sym (next_is ∙ ap (λ (o : Option State). unwrap_or o st.left) e))
        where
          falls : (c : Bool) → falls_at (insn_at b i) ≡ c → falls_at (insn_at b i) ≡ true
          falls true is = is
          falls false is = absurd (frame_needed b (suc i) missing room (inr (inr (λ z. omega (arith, z), fails_where (falls_into_decided b (suc i)) is))) e)

-- ---- the walk

pub kept_on : (old before after : Names) (b : Body) (i : ℕ) (s : State) → Grows before after → IsKeptAt old before b i s → IsKeptAt old after b i s
kept_on old before after b i s g k = record {
  is = k.is ∙ ap Some (sym (seen_grown before after s g k.numbered));
  numbered = state_numbered (length before) (length after) s (grown_count before after g) k.numbered;
  well_made = k.well_made;
}

-- the states in front of an instruction, if they are kept, and that before it
pub record IsWalking (old now : Names) (b : Body) (keeps : Bool) (states : List State) (i : ℕ) (state : State) : Type 0 where
  pub grown : Grows old now
  pub kept : keeps ≡ true → length states ≡ i
  pub each : (k : ℕ) (s : State) → slice_get states k ≡ Some s → IsKeptAt old now b k s
  pub free : (k : ℕ) → k < i → IsFlowClash old b k → ⊥
  pub here : i < length b.code → IsKeptAt old now b i state
  pub entry : FitsThere (Some (entry_of b)) (state_of old b 0)

pub walk_begins : (old : Names) (b : Body) (keeps : Bool) (entry s : State) → type_state old entry ≡ entry_of b → IsState b.code b.max_locals b.max_stack s → IsNumberedState (length old) s
    → Begins b.frames entry (Some s) → IsWalking old old b keeps [] 0 s
walk_begins old b keeps entry s is made numbered begins =
    let there = begins_there old b entry s is begins in record {
      grown = grows_none old;
      kept = λ k. refl;
      each = λ k t e. absurd (none-some _ e);
      free = λ k lt f. absurd (omega (arith, lt));
      here = λ lt. record { is = there.0; numbered = numbered; well_made = made };
      entry = there.1;
    }

-- the states that are kept, with that before one more instruction
each_more : (old now : Names) (b : Body) (keeps : Bool) (states more : List State) (i : ℕ) (s : State) → (keeps ≡ true → length states ≡ i)
    → ((k : ℕ) (t : State) → slice_get states k ≡ Some t → IsKeptAt old now b k t) → IsKeptAt old now b i s → more ≡ states ++ kept_of keeps s
    → (k : ℕ) (t : State) → slice_get more k ≡ Some t → IsKeptAt old now b k t
each_more old now b true states more i s count each here is k t e = ⊎_elim
    (λ old_one. each k t old_one)
    (λ last. subst (λ (n : ℕ). IsKeptAt old now b n t) (sym (last.0 ∙ count refl)) (subst (IsKeptAt old now b i) last.1 here))
    (put_cases states s t k (sym (ap (λ (l : List State). slice_get l k) is) ∙ e))
each_more old now b false states more i s count each here is k t e = each k t (sym (ap (λ (l : List State). slice_get l k) (is ∙ append-nil states)) ∙ e)

kept_more : (keeps : Bool) (states more : List State) (i : ℕ) (s : State) → (keeps ≡ true → length states ≡ i) → more ≡ states ++ kept_of keeps s → keeps ≡ true → length more ≡ i + 1
kept_more true states more i s count is k = ap length is ∙ length_push states s ∙ ap (λ (n : ℕ). n + 1) (count refl)
kept_more false states more i s count is k = absurd (true≢false (sym k))

pub walk_on : (old before after : Names) (b : Body) (keeps : Bool) (states more : List State) (i : ℕ) (s next : State) → IsWellMade b
    → IsNowhere (IsMissing b) → AreNumberedFrames (length old) b.frames
    → i < length b.code → IsWalking old before b keeps states i s → Grows before after → IsStep before after b i s next → more ≡ states
    ++ kept_of keeps s → IsWalking old after b keeps more (i + 1) next
walk_on old before after b keeps states more i s next made missing frames lt w g st is =
    let grown = grows_both old before after w.grown g in
    let here = w.here lt in record {
      grown = grown;
      kept = kept_more keeps states more i s w.kept is;
      each = each_more old after b keeps states more i s w.kept (λ k t e. kept_on old before after b k t g (w.each k t e)) (kept_on old before after b i s g here) is;
      free = λ k less f. ⊎_elim
          (λ low. w.free k low f)
          (λ high. let same : k ≡ i = omega (arith, less, high) in step_passes old before after b i s made missing grown frames lt here.is next w.entry st (subst (IsFlowClash old b) same f))
          (cases_lt k i);
      here = λ room. subst (λ (n : ℕ). IsKeptAt old after b n next) (sym (add-one i))
          (step_leads old before after b i s made missing grown frames lt here.is next st (let r : suc i < length b.code = omega (arith, room, add-one i) in r));
      entry = w.entry;
    }

pub walk_stops : (old before after : Names) (b : Body) (keeps : Bool) (states : List State) (i : ℕ) (s : State) → IsWellMade b → IsNowhere (IsMissing b) → AreNumberedFrames (length old) b.frames
    → i < length b.code → IsWalking old before b keeps states i s → Grows before after → StopsAt before after b i s → IsWalk old after b keeps i states
walk_stops old before after b keeps states i s made missing frames lt w g stop = record {
  first = record {
    within = omega (arith, lt);
    free = w.free;
    found = λ less. stop_clashes old before after b i s made missing (grows_both old before after w.grown g) frames lt (w.here lt).is stop;
  };
  each = λ k t e. kept_on old before after b k t g (w.each k t e);
  kept = w.kept;
}

pub walk_ends : (old now : Names) (b : Body) (keeps : Bool) (states : List State) (i count : ℕ) (s : State) → i ≡ count → count ≡ length b.code
    → IsWalking old now b keeps states i s → IsWalk old now b keeps count states
walk_ends old now b keeps states i count s all same w = record {
  first = record {
    within = omega (arith, same);
    free = λ k less f. w.free k (omega (arith, all, less)) f;
    found = λ less. absurd (omega (arith, same, less));
  };
  each = w.each;
  kept = λ k. w.kept k ∙ all;
}

pub walk_begins_not : (old : Names) (b : Body) (keeps : Bool) (entry : State) → type_state old entry ≡ entry_of b → fits_frame b.frames entry 0 ≡ false → IsWalk old old b keeps 0 []
walk_begins_not old b keeps entry is misses = record {
  first = record { within = omega arith; free = λ k less f. absurd (omega (arith, less)); found = λ less. begins_not old b entry is misses };
  each = λ k t e. absurd (none-some _ e);
  kept = λ k. refl;
}
