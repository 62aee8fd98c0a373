-- One instruction on, with references that suit.
use Rattle.std.proofs.Common.{◌≡◌, inl, inr, ⊎_elim, ℕ, zero, suc, ◌+◌, ◌<◌, Bool, true, false, List, [], ◌∷◌, ◌++◌, length, get_or, Option, Some, None, unwrap_or, refl, sym, ◌∙◌, ap, subst, arith, add-one}
use Rattle.std.specs.Option.{option_and_then, option_map, IfSome}
use Rattle.std.specs.Prelude.{IsSome}
use Rattle.std.specs.List.{Contains, All, list_all, slice_get}
use Rattle.std.proofs.lemmas.Bool.{cases_lt, true≢false}
use Rattle.std.proofs.lemmas.List.{length_push, append-nil}
use Rattle.std.proofs.lemmas.List.Elements.{All-contains, All-from_recursion}
use Rattle.std.proofs.lemmas.Option.{none-some, slice_get_read}
use Rattle.jc_bytes.proofs.BooleanLaws.{stands_in}
use Rattle.jc_bytes.proofs.ListLaws.{put_cases}
use Rattle.jc_methods.specs.declared.kind.State.{State}
use Rattle.jc_methods.specs.declared.body.Body.{Body}
use Rattle.jc_methods.specs.declared.insn.Insn.{Insn}
use Rattle.jc_methods.specs.Flow.{targets_of}
use Rattle.jc_methods.specs.InsnUse.{LeadsWithin}
use Rattle.jc_methods.specs.VerificationTypes.{Names, VerificationType, TypeState, type_state, AreNumberedFrames, Grows}
use Rattle.jc_methods.specs.EntryState.{entry_of}
use Rattle.jc_methods.specs.WellMade.{IsWellMade}
use Rattle.jc_methods.proofs.FlowLaws.{goes_on_decided}
use Rattle.jc_methods.proofs.MetNamesLaws.{grows_both}
use Rattle.jc_methods.proofs.NumberedLaws.{seen_grown}
use Rattle.jc_programs.specs.declared.program.Program.{Program}
use Rattle.jc_programs.specs.declared.run_end.Entry.{Entry}
use Rattle.jc_kinds_after.specs.After.{insn_at, after_of}
use Rattle.jc_kinds.specs.Fits.{FitState, FitsThere}
use Rattle.jc_kinds.specs.States.{state_of, after_at}
use Rattle.jc_kinds.specs.Checked.{Checked, JumpsTo, LeadsTo}
use Rattle.jc_kinds.specs.Checking.{branches}
use Rattle.jc_kinds.specs.Frames.{frame_in}
use Rattle.jc_kinds.specs.StateSequence.{fits_there, fits_frame, passes, IsKeptAt, kept_of}
use Rattle.jc_kinds.proofs.FitsLaws.{state_decided}
use Rattle.jc_kinds.proofs.CheckLaws.{leads_decided}
use Rattle.jc_kinds.proofs.KindFitsLaws.{state_held_fits}
use Rattle.jc_kinds_after.specs.Answers.{IsStateOf, IsWhole, LeavesState}
use Rattle.jc_kinds.proofs.FrameLaws.{frame_made, frame_numbered}
use Rattle.jc_kinds.proofs.WalkLaws.{all_true, all_false, frame_needed, frame_is, entry_is, falls_is, step_leads, kept_on}
use Rattle.jc_kinds.specs.Flows.{EachBy, StateBy, ThereBy}
use Rattle.jc_refs_check.specs.Suits.{SuitsAsReference}
use Rattle.jc_refs_check.specs.RefsOk.{OperandsSuit, BranchesSuit}
use Rattle.jc_refs_check.specs.SuitedFlow.{suits_there, suits_frame}
use Rattle.jc_refs_check.specs.SuitedWalk.{IsSuitedFlow, IsSuitedWalk, IsWholeState, Leaves, suits_all, IsSuitedStep, IsUnsuitedStep}
use Rattle.jc_refs_check.proofs.SuitLaws.{suits_itself, state_to, state_back}

-- ---- states that suit

each_itself : (hs : List VerificationType) → EachBy SuitsAsReference hs hs
each_itself [] = tt
each_itself (h ∷ hs) = (suits_itself h, each_itself hs)

pub state_itself : (s : TypeState) → StateBy SuitsAsReference s s
state_itself s = record { locals = each_itself s.locals; stack = each_itself s.stack }

all_pass : (test : ℕ → Bool) (xs : List ℕ) → ((x : ℕ) → Contains xs x → test x ≡ true) → list_all test xs ≡ true
all_pass test xs each = by (list_all test xs) refl
  where
    by : (b : Bool) → list_all test xs ≡ b → b ≡ true
    by true e = refl
    by false e = let f = all_false test xs e in absurd (true≢false (sym (each f.0 f.1) ∙ f.2))

jump_within : (b : Body) (i j : ℕ) → All (LeadsWithin (length b.code)) b.code → JumpsTo b i j → j < length b.code
jump_within b i j places t =
    All-contains (λ to. to < length b.code) (targets_of t.insn) j
    (All-from_recursion (λ to. to < length b.code) (targets_of t.insn) (All-contains (LeadsWithin (length b.code)) b.code t.insn places (stands_in b.code i t.insn t.stands)))
    t.target

-- ---- one instruction

module _ (old before after : Names) (b : Body) (i : ℕ) (s : State) (made : IsWellMade b) (checked : Checked old b) (grown : Grows old after)
    (frames : AreNumberedFrames (length old) b.frames) (lt : i < length b.code) (here : state_of old b i ≡ Some (type_state before s)) where
  after_is : after_at old b i ≡ after_of b i (type_state before s)
  after_is = ap (option_and_then (after_of b i)) here

  frame_later : (j : ℕ) (f : State) → frame_in b.frames j ≡ Some f → state_of old b j ≡ Some (type_state after f)
  frame_later j f e = frame_is old b j f e ∙ ap Some (sym (seen_grown old after f grown (frame_numbered (length old) b.frames frames j f e)))

  -- what the kind check says of the state after the instruction
  pub step_fits : (left : State) → after_of b i (type_state before s) ≡ Some (type_state after left) → passes b i left ≡ true
  step_fits left is = all_pass (fits_frame b.frames left) (branches (insn_at b i) i) (λ j listed. by j (frame_in b.frames j) refl ((leads_decided b i j).0 listed))
    where
      by : (j : ℕ) (o : Option State) → frame_in b.frames j ≡ o → LeadsTo b i j → fits_there left o ≡ true
      by j None e leads = refl
      by j (Some f) e leads =
          let fit : FitState (type_state after left) (type_state after f) =
          subst (λ (t : Option TypeState). FitsThere t (Some (type_state after f))) (after_is ∙ is)
          (subst (FitsThere (after_at old b i)) (frame_later j f e) (checked.branches i j leads)) in
          state_held_fits after left f ∙ (state_decided (type_state after left) (type_state after f)).back fit

  -- where control goes on the state after the instruction suits
  leads_there : (left : State) (j : ℕ) → after_at old b i ≡ Some (type_state after left) → LeadsTo b i j → suits_frame after b.frames left j ≡ true
      → ThereBy SuitsAsReference (Some (type_state after left)) (state_of old b j)
  leads_there left j is leads suits = by (frame_in b.frames j) refl suits leads
    where
      by : (o : Option State) → frame_in b.frames j ≡ o → suits_there after left o ≡ true → LeadsTo b i j → ThereBy SuitsAsReference (Some (type_state after left)) (state_of old b j)
      by (Some f) e suits leads = subst (ThereBy SuitsAsReference (Some (type_state after left))) (sym (frame_later j f e)) (state_to after left f suits)
      by None e suits (inl g) =
          let next : j ≡ suc i = g.1 ∙ add-one i in
          let state : state_of old b j ≡ Some (type_state after left) = ap (state_of old b) next ∙ falls_is old b i (sym (ap (frame_in b.frames) next) ∙ e) ((goes_on_decided b i).back g.0) ∙ is in
          subst (ThereBy SuitsAsReference (Some (type_state after left))) (sym state) (state_itself (type_state after left))
      by None e suits (inr t) = absurd (frame_needed b j checked.none_missing (jump_within b i j made.of_any_size.code.places t) (inl (i, t)) e)

  pub step_suits : (next : State) → IsSuitedStep before after b i s next → BranchesSuit old b i
  step_suits next st j leads =
      let is = after_is ∙ st.after in
      subst (λ (t : Option TypeState). ThereBy SuitsAsReference t (state_of old b j)) (sym is)
      (leads_there st.left j is leads (all_true (suits_frame after b.frames st.left) (branches (insn_at b i) i) j st.suits ((leads_decided b i j).1 leads)))

  pub stop_fails : IsUnsuitedStep before after b i s → BranchesSuit old b i → ⊥
  stop_fails (inl none) suit = gone (after_at old b i) (after_is ∙ none) (checked.after i lt)
    where
      gone : (o : Option TypeState) → o ≡ None → IsSome o → ⊥
      gone None e is = let f : false ≡ true = is in cc
      gone (Some t) e is = cc
  stop_fails (inr (left, is, misses)) suit =
      let f = all_false (suits_frame after b.frames left) (branches (insn_at b i) i) misses in
      by f.0 ((leads_decided b i f.0).0 f.1) (frame_in b.frames f.0) refl f.2
    where
      by : (j : ℕ) → LeadsTo b i j → (o : Option State) → frame_in b.frames j ≡ o → suits_there after left o ≡ false → ⊥
      by j leads None e misses = true≢false misses
      by j leads (Some f) e misses =
          let there = subst (λ (t : Option TypeState). ThereBy SuitsAsReference t (Some (type_state after f))) (after_is ∙ is)
          (subst (ThereBy SuitsAsReference (after_at old b i)) (frame_later j f e) (suit j leads)) in
          true≢false (sym (state_back after left f there) ∙ misses)

  -- and the next instruction has its state
  pub next_kept : (next : State) → IsSuitedStep before after b i s next → suc i < length b.code → IsKeptAt old after b (suc i) next
  next_kept next st room = step_leads old before after b i s made checked.none_missing grown frames lt here next
      (record { left = st.left; after = st.after; fits = step_fits st.left st.after; next_is = st.next_is; numbered = st.whole.numbered; well_made = st.whole.well_made })
      room

-- ---- what a step makes

pub leaves_made : (old mid new : Names) (b : Body) (i : ℕ) (s : State) (o : Option State) → new ≡ mid → LeavesState old mid b i s o
    → IfSome o (λ t. IsStateOf (length mid) b t) → IfSome o (λ t. IsWhole b s → IsWhole b t) → IsWhole b s → Leaves old new b i s o
leaves_made old mid new b i s o same leaves state whole well =
    subst (λ (names : Names). Leaves old names b i s o) (sym same) (record { after = leaves; whole = by o state whole })
  where
    by : (p : Option State) → IfSome p (λ t. IsStateOf (length mid) b t) → IfSome p (λ t. IsWhole b s → IsWhole b t) → IfSome p (IsWholeState (length mid) b)
    by None state whole = tt
    by (Some t) state whole = record { numbered = state.numbered; well_made = whole well }

-- the frame at an instruction, or what falls into it
pub whole_at : (count : ℕ) (b : Body) (at : ℕ) (other next : State) → IsWellMade b → AreNumberedFrames count b.frames → IsWholeState count b other
    → next ≡ unwrap_or (frame_in b.frames at) other → IsWholeState count b next
whole_at count b at other next made frames whole here = subst (IsWholeState count b) (sym here) (by (frame_in b.frames at) refl)
  where
    by : (p : Option State) → frame_in b.frames at ≡ p → IsWholeState count b (unwrap_or p other)
    by None e = whole
    by (Some f) e = record {
      numbered = frame_numbered count b.frames frames at f e;
      well_made = frame_made 0 b.code b.max_locals b.max_stack b.frames made.of_any_size.frames at f e;
    }

module _ (old new : Names) (b c : Body) (i : ℕ) (s : State) (o : Option State) (same : c ≡ b) (leaves : Leaves old new c i s o) where
  left_after : option_map (type_state new) o ≡ after_of b i (type_state old s)
  left_after = leaves.after ∙ ap (λ (d : Body). after_of d i (type_state old s)) same

  pub none_left : o ≡ None → IsUnsuitedStep old new b i s
  none_left none = inl (sym (ap (option_map (type_state new)) (sym none) ∙ left_after))

  module _ (code : List Insn) (left : State) (insn : Insn) (suits : Bool) (coded : code ≡ b.code) (lt : i < length b.code) (at : insn ≡ get_or code i insn) (some : o ≡ Some left)
      (is : suits ≡ list_all (suits_frame new b.frames left) (branches (Some insn) i)) where
    after_left : after_of b i (type_state old s) ≡ Some (type_state new left)
    after_left = sym (ap (option_map (type_state new)) (sym some) ∙ left_after)

    all_is : suits_all new b i left ≡ suits
    all_is = ap (λ (x : Option Insn). list_all (suits_frame new b.frames left) (branches x i))
        (slice_get_read b.code (length b.code) i insn refl lt (subst (λ (l : List Insn). insn ≡ get_or l i insn) coded at)) ∙ sym is

    pub stop_left : suits ≡ false → IsUnsuitedStep old new b i s
    stop_left misses = inr (left, after_left, all_is ∙ misses)

    pub step_left : (next : State) → IsWellMade b → AreNumberedFrames (length new) b.frames → suits ≡ true → next ≡ unwrap_or (frame_in b.frames (i + 1)) left
        → IsSuitedStep old new b i s next
    step_left next made frames holds here = record {
      left = left;
      after = after_left;
      suits = all_is ∙ holds;
      next_is = here;
      whole = whole_at (length new) b (i + 1) left next made frames
          (subst (λ (d : Body). IsWholeState (length new) d left) same (subst (λ (p : Option State). IfSome p (IsWholeState (length new) c)) some leaves.whole)) here;
    }

-- ---- the first instruction

-- the state in which the method begins suits its frame
pub entry_suits : (old now : Names) (b : Body) (entry : State) → Grows old now → AreNumberedFrames (length old) b.frames → type_state now entry ≡ entry_of b
    → suits_frame now b.frames entry 0 ≡ true → ThereBy SuitsAsReference (Some (entry_of b)) (state_of old b 0)
entry_suits old now b entry grown frames is suits = by (frame_in b.frames 0) refl suits
  where
    by : (o : Option State) → frame_in b.frames 0 ≡ o → suits_there now entry o ≡ true → ThereBy SuitsAsReference (Some (entry_of b)) (state_of old b 0)
    by None e suits = subst (ThereBy SuitsAsReference (Some (entry_of b))) (sym (entry_is old b e)) (state_itself (entry_of b))
    by (Some f) e suits =
        let there : state_of old b 0 ≡ Some (type_state now f) = frame_is old b 0 f e ∙ ap Some (sym (seen_grown old now f grown (frame_numbered (length old) b.frames frames 0 f e))) in
        subst (ThereBy SuitsAsReference (Some (entry_of b))) (sym there) (subst (λ (t : TypeState). StateBy SuitsAsReference t (type_state now f)) is (state_to now entry f suits))

pub entry_fails : (old now : Names) (b : Body) (entry : State) → Grows old now → AreNumberedFrames (length old) b.frames → type_state now entry ≡ entry_of b
    → suits_frame now b.frames entry 0 ≡ false → ThereBy SuitsAsReference (Some (entry_of b)) (state_of old b 0) → ⊥
entry_fails old now b entry grown frames is misses there = by (frame_in b.frames 0) refl misses
  where
    by : (o : Option State) → frame_in b.frames 0 ≡ o → suits_there now entry o ≡ false → ⊥
    by None e misses = true≢false misses
    by (Some f) e misses =
        let at : state_of old b 0 ≡ Some (type_state now f) = frame_is old b 0 f e ∙ ap Some (sym (seen_grown old now f grown (frame_numbered (length old) b.frames frames 0 f e))) in
        let suits : StateBy SuitsAsReference (type_state now entry) (type_state now f) =
        subst (λ (t : TypeState). StateBy SuitsAsReference t (type_state now f)) (sym is) (subst (ThereBy SuitsAsReference (Some (entry_of b))) at there) in
        true≢false (sym (state_back now entry f suits) ∙ misses)

-- ---- the walk

-- the states in front of an instruction, if they are kept, and that before it
pub record IsSuitedWalking (program : Program) (method : Entry) (b : Body) (names : Names) (keeps : Bool) (states : List State) (i : ℕ) (state : State) : Type 0 where
  pub grown : Grows program.names names
  pub kept : keeps ≡ true → length states ≡ i
  pub each : (k : ℕ) (s : State) → slice_get states k ≡ Some s → IsKeptAt program.names names b k s
  pub suited : (k : ℕ) → k < i → IsSuitedFlow program method b k
  pub here : i < length b.code → IsKeptAt program.names names b i state
  pub entry : ThereBy SuitsAsReference (Some (entry_of b)) (state_of program.names b 0)

kept_more : (keeps : Bool) (states more : List State) (i : ℕ) (s : State) → (keeps ≡ true → length states ≡ i) → more ≡ states ++ kept_of keeps s → keeps ≡ true → length more ≡ i + 1
kept_more true states more i s count is k = ap length is ∙ length_push states s ∙ ap (λ (n : ℕ). n + 1) (count refl)
kept_more false states more i s count is k = absurd (true≢false (sym k))

each_more : (old now : Names) (b : Body) (keeps : Bool) (states more : List State) (i : ℕ) (s : State) → (keeps ≡ true → length states ≡ i)
    → ((k : ℕ) (t : State) → slice_get states k ≡ Some t → IsKeptAt old now b k t) → IsKeptAt old now b i s → more ≡ states ++ kept_of keeps s
    → (k : ℕ) (t : State) → slice_get more k ≡ Some t → IsKeptAt old now b k t
each_more old now b true states more i s count each here is k t e = ⊎_elim
    (λ low. each k t low)
    (λ last. subst (λ (n : ℕ). IsKeptAt old now b n t) (sym (last.0 ∙ count refl)) (subst (IsKeptAt old now b i) last.1 here))
    (put_cases states s t k (sym (ap (λ (l : List State). slice_get l k) is) ∙ e))
each_more old now b false states more i s count each here is k t e = each k t (sym (ap (λ (l : List State). slice_get l k) (is ∙ append-nil states)) ∙ e)

module _ (program : Program) (method : Entry) (b : Body) (made : IsWellMade b) (checked : Checked program.names b) (frames : AreNumberedFrames (length program.names) b.frames) where
  -- what a state that is kept says of operands, the state before the instruction says
  operands_of : (names : Names) (i : ℕ) (s : State) → state_of program.names b i ≡ Some (type_state names s) → OperandsSuit program method b i (type_state names s)
      → (t : TypeState) → state_of program.names b i ≡ Some t → OperandsSuit program method b i t
  operands_of names i s is suit t there = let same : type_state names s ≡ t = some_is (sym is ∙ there) in subst (OperandsSuit program method b i) same suit
    where
      some_is : {X : Type 0} {x y : X} → Some x ≡ Some y → x ≡ y
      some_is e = cc

  pub walk_on : (before after : Names) (keeps : Bool) (states more : List State) (i : ℕ) (s next : State) → i < length b.code
      → IsSuitedWalking program method b before keeps states i s → Grows before after → OperandsSuit program method b i (type_state before s)
      → IsSuitedStep before after b i s next → more ≡ states ++ kept_of keeps s → IsSuitedWalking program method b after keeps more (i + 1) next
  walk_on before after keeps states more i s next lt w g suit st is =
      let grown = grows_both program.names before after w.grown g in
      let here = w.here lt in record {
        grown = grown;
        kept = kept_more keeps states more i s w.kept is;
        each = each_more program.names after b keeps states more i s w.kept (λ k t e. kept_on program.names before after b k t g (w.each k t e))
            (kept_on program.names before after b i s g here) is;
        suited = λ k less. ⊎_elim (λ low. w.suited k low)
            (λ high. let same : i ≡ k = omega (arith, less, high) in subst (IsSuitedFlow program method b) same (record {
              operands = operands_of before i s here.is suit;
              branches = step_suits program.names before after b i s made checked grown frames lt here.is next st;
              entry = λ zero. w.entry;
            }))
            (cases_lt k i);
        here = λ room. subst (λ (n : ℕ). IsKeptAt program.names after b n next) (sym (add-one i))
            (next_kept program.names before after b i s made checked grown frames lt here.is next st (let r : suc i < length b.code = omega (arith, room, add-one i) in r));
        entry = w.entry;
      }

  -- the walk ends at an instruction that isn't suited
  pub walk_stops : (before after : Names) (keeps : Bool) (states : List State) (i : ℕ) (s : State) → i < length b.code
      → IsSuitedWalking program method b before keeps states i s → Grows before after → (IsSuitedFlow program method b i → ⊥)
      → IsSuitedWalk program method b after keeps i states
  walk_stops before after keeps states i s lt w g fails = record {
    first = record { within = omega (arith, lt); holds = w.suited; fails = λ less. fails };
    each = λ k t e. kept_on program.names before after b k t g (w.each k t e);
    kept = w.kept;
  }

  pub operands_fail : (names : Names) (keeps : Bool) (states : List State) (i : ℕ) (s : State) → i < length b.code
      → IsSuitedWalking program method b names keeps states i s → (OperandsSuit program method b i (type_state names s) → ⊥) → IsSuitedFlow program method b i → ⊥
  operands_fail names keeps states i s lt w fails suited = fails (suited.operands (type_state names s) (w.here lt).is)

  pub branches_fail : (before after : Names) (keeps : Bool) (states : List State) (i : ℕ) (s : State) → i < length b.code
      → IsSuitedWalking program method b before keeps states i s → Grows before after → IsUnsuitedStep before after b i s → IsSuitedFlow program method b i → ⊥
  branches_fail before after keeps states i s lt w g stop suited =
      stop_fails program.names before after b i s made checked (grows_both program.names before after w.grown g) frames lt (w.here lt).is stop suited.branches

  pub walk_ends : (names : Names) (keeps : Bool) (states : List State) (i count : ℕ) (s : State) → i ≡ count → count ≡ length b.code
      → IsSuitedWalking program method b names keeps states i s → IsSuitedWalk program method b names keeps count states
  walk_ends names keeps states i count s all same w = record {
    first = record {
      within = omega (arith, same);
      holds = λ k less. w.suited k (omega (arith, all, less));
      fails = λ less. absurd (omega (arith, same, less));
    };
    each = w.each;
    kept = λ k. w.kept k ∙ all;
  }

  -- the walk ends at the first instruction, whose frame the entry state doesn't suit
  pub walk_fails : (names : Names) (keeps : Bool) (states : List State) (entry : State) → states ≡ [] → Grows program.names names → type_state names entry ≡ entry_of b
      → suits_frame names b.frames entry 0 ≡ false → IsSuitedWalk program method b names keeps 0 states
  walk_fails names keeps states entry none g is misses = record {
    first = record {
      within = omega arith;
      holds = λ k less. absurd (omega (arith, less));
      fails = λ less suited. entry_fails program.names names b entry g frames is misses (suited.entry refl);
    };
    each = λ k t e. absurd (none-some _ (ap (λ (l : List State). slice_get l k) (sym none) ∙ e));
    kept = λ k. ap length none;
  }

  pub walk_begins : (names : Names) (keeps : Bool) (states : List State) (entry s : State) → states ≡ [] → Grows program.names names → type_state names entry ≡ entry_of b
      → suits_frame names b.frames entry 0 ≡ true → s ≡ unwrap_or (frame_in b.frames 0) entry → IsWholeState (length names) b s
      → IsSuitedWalking program method b names keeps states 0 s
  walk_begins names keeps states entry s none g is suits same whole = record {
    grown = g;
    kept = λ k. ap length none;
    each = λ k t e. absurd (none-some _ (ap (λ (l : List State). slice_get l k) (sym none) ∙ e));
    suited = λ k less. absurd (omega (arith, less));
    here = λ lt. record { is = by (frame_in b.frames 0) refl same; numbered = whole.numbered; well_made = whole.well_made };
    entry = entry_suits program.names names b entry g frames is suits;
  }
    where
      by : (o : Option State) → frame_in b.frames 0 ≡ o → s ≡ unwrap_or o entry → state_of program.names b 0 ≡ Some (type_state names s)
      by None e q = entry_is program.names b e ∙ ap Some (sym is ∙ ap (type_state names) (sym q))
      by (Some f) e q = frame_is program.names b 0 f e
          ∙ ap Some (sym (seen_grown program.names names f g (frame_numbered (length program.names) b.frames frames 0 f e)) ∙ ap (type_state names) (sym q))
