-- A state at all the places where an instruction leads.
use Rattle.std.proofs.Common.{◌≡◌, ◌↔◌, ℕ, ◌+◌, ◌<◌, Bool, true, false, ◌&&◌, List, [], ◌∷◌, length, Option, Some, None, IfSome, inl, inr, IsTrue, get_or, unwrap_or, refl, sym, ◌∙◌, ap, subst, if◌then◌else◌}
use Rattle.std.specs.Option.{option_map}
use Rattle.std.specs.List.{list_all}
use Rattle.std.proofs.lemmas.Bool.{both_ways}
use Rattle.std.proofs.lemmas.Option.{slice_get_read}
use Rattle.jc_bytes.specs.FirstSeen.{first_seen}
use Rattle.jc_bytes.proofs.FirstSeenLaws.{first_seen_all, first_seen_listed}
use Rattle.jc_bytes.proofs.DecidingLaws.{one_test}
use Rattle.jc_methods.specs.declared.insn.Insn.{Insn}
use Rattle.jc_methods.specs.declared.kind.State.{State}
use Rattle.jc_methods.specs.declared.body.Body.{Body}
use Rattle.jc_methods.specs.Flow.{FallsThrough, targets_of, falls_through}
use Rattle.jc_methods.specs.VerificationTypes.{Names, type_state, IsNumberedState, AreNumberedFrames, Grows}
use Rattle.jc_methods.specs.WellMade.{IsState, IsWellMade}
use Rattle.jc_kinds_after.specs.After.{insn_at, after_of}
use Rattle.jc_kinds.specs.Checking.{branches}
use Rattle.jc_kinds.specs.Frames.{frame_in}
use Rattle.jc_kinds_after.specs.Answers.{IsStateOf, IsWhole, LeavesState}
use Rattle.jc_kinds.specs.StateSequence.{fits_frame, Begins, passes, IsStep, StopsAt, IsKeptEntry, IsWalk}
use Rattle.jc_methods.proofs.FlowLaws.{falls_decided}
use Rattle.jc_kinds.proofs.FrameLaws.{frame_made, frame_numbered}
use Rattle.jc_methods.proofs.MetNamesLaws.{grows_none}
use Rattle.jc_methods.proofs.NumberedLaws.{grown_count, state_numbered}
use Rattle.jc_kinds.proofs.WalkLaws.{all_true, all_false, IsWalking, walk_begins, walk_begins_not}

-- of each place once
pub seen_all : (test : ℕ → Bool) (xs : List ℕ) → list_all test (first_seen xs) ≡ list_all test xs
seen_all test xs = by (list_all test (first_seen xs)) (list_all test xs) refl refl
  where
    by : (a b : Bool) → list_all test (first_seen xs) ≡ a → list_all test xs ≡ b → a ≡ b
    by true true p q = refl
    by false false p q = refl
    by true false p q = let f = all_false test xs q in absurd (both_ways (test f.0) f.2 (all_true test (first_seen xs) f.0 p (first_seen_all xs f.0 f.1)))
    by false true p q = let f = all_false test (first_seen xs) p in absurd (both_ways (test f.0) f.2 (all_true test xs f.0 q (first_seen_listed xs f.0 f.1)))

-- the next instruction may follow
pub falls_same : (insn : Insn) (r : Bool) → IsTrue r ↔ FallsThrough insn → r ≡ falls_through insn
falls_same insn r h = one_test r (falls_through insn) (FallsThrough insn) (record { to = h.0; back = h.1 }) (falls_decided insn)

pub fits_falling : (insn : Insn) (r x y : Bool) → r ≡ true → IsTrue r ↔ FallsThrough insn → x ≡ y → x ≡ (if falls_through insn then y else true)
fits_falling insn r x y is h e = e ∙ ap (λ (b : Bool). if b then y else true) (sym is ∙ falls_same insn r h)

pub fits_ending : (insn : Insn) (r y : Bool) → r ≡ false → IsTrue r ↔ FallsThrough insn → true ≡ (if falls_through insn then y else true)
fits_ending insn r y is h = ap (λ (b : Bool). if b then y else true) (sym is ∙ falls_same insn r h)

-- the next one, and the targets of jumps
both_parts : (test : ℕ → Bool) (insn : Insn) (i : ℕ) → list_all test (branches (Some insn) i) ≡ ((if falls_through insn then test (i + 1) else true) && list_all test (targets_of insn))
both_parts test insn i = by (falls_through insn)
  where
    by : (b : Bool) → list_all test (if b then (i + 1) ∷ targets_of insn else targets_of insn) ≡ ((if b then test (i + 1) else true) && list_all test (targets_of insn))
    by true = refl
    by false = refl

pub fits_not : (test : ℕ → Bool) (insn : Insn) (i : ℕ) (r : Bool) → r ≡ (if falls_through insn then test (i + 1) else true) → r ≡ false → false ≡ list_all test (branches (Some insn) i)
fits_not test insn i r is misses = sym (both_parts test insn i ∙ ap (λ (b : Bool). b && list_all test (targets_of insn)) (sym is ∙ misses))

pub fits_all : (test : ℕ → Bool) (insn : Insn) (i : ℕ) (r jumps : Bool) → r ≡ (if falls_through insn then test (i + 1) else true) → r ≡ true
    → jumps ≡ list_all test (targets_of insn) → jumps ≡ list_all test (branches (Some insn) i)
fits_all test insn i r jumps is holds all =
    all
    ∙ sym (both_parts test insn i ∙ ap (λ (b : Bool). b && list_all test (targets_of insn)) (sym is ∙ holds))

-- ---- one instruction

pub insn_is : (b : Body) (i : ℕ) (insn : Insn) → i < length b.code → insn ≡ get_or b.code i insn → insn_at b i ≡ Some insn
insn_is b i insn lt is = slice_get_read b.code (length b.code) i insn refl lt is

-- the state that an instruction leaves, by the body whose effects were read
left_is : (old new : Names) (b c : Body) (i : ℕ) (s left : State) (o : Option State) → c ≡ b → LeavesState old new c i s o → o ≡ Some left
    → after_of b i (type_state old s) ≡ Some (type_state new left)
left_is old new b c i s left o same leaves is =
    sym (ap (option_map (type_state new)) (sym is) ∙ leaves ∙ ap (λ (d : Body). after_of d i (type_state old s)) same)

left_fits : (b : Body) (code : List Insn) (i : ℕ) (left : State) (insn : Insn) (fits : Bool) → code ≡ b.code → i < length b.code → insn ≡ get_or code i insn
    → fits ≡ list_all (fits_frame b.frames left) (branches (Some insn) i) → passes b i left ≡ fits
left_fits b code i left insn fits coded lt at is =
    ap (λ (o : Option Insn). list_all (fits_frame b.frames left) (branches o i)) (insn_is b i insn lt (at ∙ ap (λ (l : List Insn). get_or l i insn) coded))
    ∙ sym is

pub stop_made : (old new : Names) (b c : Body) (code : List Insn) (i : ℕ) (s left : State) (o : Option State) (insn : Insn) (fits : Bool)
    → c ≡ b → code ≡ b.code → i < length b.code → insn ≡ get_or code i insn → LeavesState old new c i s o → o ≡ Some left
    → fits ≡ list_all (fits_frame b.frames left) (branches (Some insn) i) → fits ≡ false → StopsAt old new b i s
stop_made old new b c code i s left o insn fits same coded lt at leaves some is misses =
    inr (left, left_is old new b c i s left o same leaves some, left_fits b code i left insn fits coded lt at is ∙ misses)

pub none_made : (old new : Names) (b c : Body) (i : ℕ) (s : State) (o : Option State) → c ≡ b → LeavesState old new c i s o → o ≡ None → StopsAt old new b i s
none_made old new b c i s o same leaves none = inl (sym (ap (option_map (type_state new)) (sym none) ∙ leaves ∙ ap (λ (d : Body). after_of d i (type_state old s)) same))

-- what a frame or a state that falls into the place is
kept_made : (old new : Names) (b : Body) (at : ℕ) (other : State) → IsWellMade b → AreNumberedFrames (length old) b.frames → Grows old new → IsNumberedState (length new) other
    → IsState b.code b.max_locals b.max_stack other → (o : Option State) → frame_in b.frames at ≡ o
    → IsNumberedState (length new) (unwrap_or o other) × IsState b.code b.max_locals b.max_stack (unwrap_or o other)
kept_made old new b at other made frames g numbered whole None e = (numbered, whole)
kept_made old new b at other made frames g numbered whole (Some f) e = (
  state_numbered (length old) (length new) f (grown_count old new g) (frame_numbered (length old) b.frames frames at f e),
  frame_made 0 b.code b.max_locals b.max_stack b.frames made.of_any_size.frames at f e,
)

-- the state before the next one is well made
pub step_made : (old new : Names) (b c : Body) (code : List Insn) (i : ℕ) (s left next : State) (o : Option State)
    (insn : Insn) (fits : Bool) → IsWellMade b → AreNumberedFrames (length old) b.frames
    → Grows old new → c ≡ b → code ≡ b.code → i < length b.code → insn ≡ get_or code i insn → LeavesState old new c i s o → o ≡ Some left
    → fits ≡ list_all (fits_frame b.frames left) (branches (Some insn) i) → fits ≡ true → next ≡ unwrap_or (frame_in b.frames (i + 1)) left
    → IfSome o (λ t. IsStateOf (length new) c t) → IfSome o (λ t. IsWhole c s → IsWhole c t) → IsState b.code b.max_locals b.max_stack s → IsStep old new b i s next
step_made old new b c code i s left next o insn fits made numbered g same coded lt at leaves some is holds here state whole well =
    let state_left = subst (λ (p : Option State). IfSome p (λ t. IsStateOf (length new) c t)) some state in
    let whole_left = subst (λ (d : Body). IsWhole d s → IsWhole d left) same (subst (λ (p : Option State). IfSome p (λ t. IsWhole c s → IsWhole c t)) some whole) in
    let both = kept_made old new b (i + 1) left made numbered g state_left.numbered (whole_left well) (frame_in b.frames (i + 1)) refl in
    record {
      left = left;
      after = left_is old new b c i s left o same leaves some;
      fits = left_fits b code i left insn fits coded lt at is ∙ holds;
      next_is = here;
      numbered = subst (IsNumberedState (length new)) (sym here) both.0;
      well_made = subst (IsState b.code b.max_locals b.max_stack) (sym here) both.1;
    }

-- ---- the first one

pub first_made : (old : Names) (b : Body) (keeps : Bool) (entry s : State) (o : Option State) (states : List State)
    → IsWellMade b → AreNumberedFrames (length old) b.frames → IsKeptEntry old b entry
    → Begins b.frames entry o → o ≡ Some s → states ≡ [] → IsWalking old old b keeps states 0 s
first_made old b keeps entry s o states made numbered kept begins some none =
    let there : Begins b.frames entry (Some s) = subst (Begins b.frames entry) some begins in
    let both = kept_made old old b 0 entry made numbered (grows_none old) kept.numbered kept.well_made (frame_in b.frames 0) refl in
    subst (λ (l : List State). IsWalking old old b keeps l 0 s) (sym none)
    (walk_begins old b keeps entry s kept.is
    (subst (IsState b.code b.max_locals b.max_stack) (sym there.1) both.1)
    (subst (IsNumberedState (length old)) (sym there.1) both.0)
    there)

pub first_not : (old : Names) (b : Body) (keeps : Bool) (entry : State) (o : Option State) (states : List State)
    → IsKeptEntry old b entry → Begins b.frames entry o → o ≡ None → states ≡ [] → IsWalk old old b keeps 0 states
first_not old b keeps entry o states kept begins none empty =
    subst (IsWalk old old b keeps 0) (sym empty) (walk_begins_not old b keeps entry kept.is (subst (Begins b.frames entry) none begins))
