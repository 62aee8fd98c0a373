-- The walk over the states before the instructions.
use Rattle.std.specs.Prelude.{◌≡◌, ◌⊎◌, ℕ, ◌+◌, Bool, true, false, List, [], ◌∷◌, length, Option, Some, None, slice_get, unwrap_or}
use Rattle.std.specs.List.{list_all}
use Rattle.jc_methods.specs.declared.kind.State.{State}
use Rattle.jc_methods.specs.declared.body.FrameAt.{FrameAt}
use Rattle.jc_methods.specs.declared.body.Body.{Body}
use Rattle.jc_methods.specs.VerificationTypes.{Names, type_state, IsNumberedState, Grows}
use Rattle.jc_methods.specs.EntryState.{entry_of}
use Rattle.jc_methods.specs.WellMade.{IsState}
use Rattle.jc_kinds_after.specs.After.{insn_at, after_of}
use Rattle.jc_kinds.specs.States.{state_of}
use Rattle.jc_kinds.specs.Checked.{EntryClash, NoAfter, BranchClash}
use Rattle.jc_kinds.specs.Checking.{branches}
use Rattle.jc_kinds.specs.First.{IsFirstOrBound}
use Rattle.jc_kinds.specs.Frames.{frame_in}
use Rattle.jc_kinds.specs.KindFits.{state_fits}

-- a state fits a frame, if there is one
abbrev pub fits_there : State → Option State → Bool
fits_there s None = true
fits_there s (Some frame) = state_fits s frame

abbrev pub fits_frame : List FrameAt → State → ℕ → Bool
fits_frame frames s at = fits_there s (frame_in frames at)

-- The first frame, or else the state in which the method begins, where that state fits; none where it doesn't.
abbrev pub Begins : List FrameAt → State → Option State → Type 0
Begins frames entry None = fits_frame frames entry 0 ≡ false
Begins frames entry (Some s) = (fits_frame frames entry 0 ≡ true) × (s ≡ unwrap_or (frame_in frames 0) entry)

-- the state after the instruction fits where its branches lead
abbrev pub passes : Body → ℕ → State → Bool
passes b i left = list_all (fits_frame b.frames left) (branches (insn_at b i) i)

-- the state after an instruction, and that before the next one
pub record IsStep (old new : Names) (b : Body) (i : ℕ) (s next : State) : Type 0 where
  pub left : State
  pub after : after_of b i (type_state old s) ≡ Some (type_state new left)
  pub fits : passes b i left ≡ true
  pub next_is : next ≡ unwrap_or (frame_in b.frames (i + 1)) left
  pub numbered : IsNumberedState (length new) next
  pub well_made : IsState b.code b.max_locals b.max_stack next

-- the state after an instruction isn't there, or doesn't fit where one of its branches leads
abbrev pub StopsAt : Names → Names → Body → ℕ → State → Type 0
StopsAt old new b i s = (after_of b i (type_state old s) ≡ None) ⊎ ((left : State) × (after_of b i (type_state old s) ≡ Some (type_state new left)) × (passes b i left ≡ false))

abbrev pub Steps : Names → Names → Body → ℕ → State → Option State → Type 0
Steps old new b i s None = StopsAt old new b i s
Steps old new b i s (Some next) = IsStep old new b i s next

-- the state before an instruction under earlier names, kept under later ones
pub record IsKeptAt (old new : Names) (b : Body) (i : ℕ) (s : State) : Type 0 where
  pub is : state_of old b i ≡ Some (type_state new s)
  pub numbered : IsNumberedState (length new) s
  pub well_made : IsState b.code b.max_locals b.max_stack s

-- the state in which a method begins
pub record IsKeptEntry (names : Names) (b : Body) (s : State) : Type 0 where
  pub is : type_state names s ≡ entry_of b
  pub numbered : IsNumberedState (length names) s
  pub well_made : IsState b.code b.max_locals b.max_stack s

-- control goes on with a state that isn't there or that doesn't fit
abbrev pub IsFlowClash : Names → Body → ℕ → Type 0
IsFlowClash names b i = EntryClash names b i ⊎ (NoAfter names b i ⊎ BranchClash names b i)

-- a state as a list, and the state that is kept, if states are
abbrev pub listed : Option State → List State
listed None = []
listed (Some s) = s ∷ []

abbrev pub kept_of : Bool → State → List State
kept_of true s = s ∷ []
kept_of false s = []

-- the first instruction at which this is so, and the states before those in front of it, where states are kept
pub record IsWalk (old new : Names) (b : Body) (keeps : Bool) (count : ℕ) (states : List State) : Type 0 where
  pub first : IsFirstOrBound (IsFlowClash old b) (length b.code) count
  pub each : (i : ℕ) (s : State) → slice_get states i ≡ Some s → IsKeptAt old new b i s
  pub kept : keeps ≡ true → length states ≡ count

-- the same, under names that were numbered on the way
pub record IsWalkFrom (old new : Names) (b : Body) (keeps : Bool) (count : ℕ) (states : List State) : Type 0 where
  pub base : Names
  pub before : Grows old base
  pub grown : Grows base new
  pub walk : IsWalk base new b keeps count states
