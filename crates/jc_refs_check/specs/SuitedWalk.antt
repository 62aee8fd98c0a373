-- The walk over the states before the instructions of a method, up to the first whose references don't suit.
use Rattle.std.specs.Prelude.{◌≡◌, ◌⊎◌, ℕ, ◌+◌, ◌<◌, ◌≤◌, Bool, true, false, List, length, Option, Some, None, IfSome, slice_get, unwrap_or}
use Rattle.std.specs.List.{list_all}
use Rattle.jc_methods.specs.declared.kind.State.{State}
use Rattle.jc_methods.specs.declared.body.Body.{Body}
use Rattle.jc_methods.specs.VerificationTypes.{Names, TypeState, type_state, IsNumberedState}
use Rattle.jc_methods.specs.WellMade.{IsState}
use Rattle.jc_programs.specs.declared.program.Program.{Program}
use Rattle.jc_programs.specs.declared.run_end.Entry.{Entry}
use Rattle.jc_kinds_after.specs.After.{insn_at, after_of}
use Rattle.jc_kinds_after.specs.Answers.{LeavesState}
use Rattle.jc_kinds.specs.Checking.{branches}
use Rattle.jc_kinds.specs.Frames.{frame_in}
use Rattle.jc_kinds.specs.States.{state_of}
use Rattle.jc_kinds.specs.StateSequence.{IsKeptAt}
use Rattle.jc_refs_check.specs.SuitedFlow.{suits_frame}
use Rattle.jc_refs_check.specs.RefsOk.{OperandsSuit, BranchesSuit, EntrySuits}

-- each reference suits what takes it but for handlers
pub record IsSuitedFlow (program : Program) (method : Entry) (b : Body) (i : ℕ) : Type 0 where
  pub operands : (s : TypeState) → state_of program.names b i ≡ Some s → OperandsSuit program method b i s
  pub branches : BranchesSuit program.names b i
  pub entry : EntrySuits program.names b i

-- the first place below a bound of which something doesn't hold, or the bound
pub record IsFirstFailing (Fact : ℕ → Type 0) (bound result : ℕ) : Type 0 where
  pub within : result ≤ bound
  pub holds : (i : ℕ) → i < result → Fact i
  pub fails : result < bound → Fact result → ⊥

-- the first instruction that isn't suited but for handlers, and the states before those in front of it, where states are kept
pub record IsSuitedWalk (program : Program) (method : Entry) (b : Body) (names : Names) (keeps : Bool) (count : ℕ) (states : List State) : Type 0 where
  pub first : IsFirstFailing (IsSuitedFlow program method b) (length b.code) count
  pub each : (i : ℕ) (s : State) → slice_get states i ≡ Some s → IsKeptAt program.names names b i s
  pub kept : keeps ≡ true → length states ≡ count

-- ---- one step

-- a state of the body under so many names
pub record IsWholeState (count : ℕ) (b : Body) (s : State) : Type 0 where
  pub numbered : IsNumberedState count s
  pub well_made : IsState b.code b.max_locals b.max_stack s

-- the state after an instruction, by the names afterwards, or none where there is none
pub record Leaves (old new : Names) (b : Body) (i : ℕ) (s : State) (o : Option State) : Type 0 where
  pub after : LeavesState old new b i s o
  pub whole : IfSome o (IsWholeState (length new) b)

-- the state after the instruction suits where its branches lead
abbrev pub suits_all : Names → Body → ℕ → State → Bool
suits_all names b i left = list_all (suits_frame names b.frames left) (branches (insn_at b i) i)

-- the state after an instruction, and that before the next one
pub record IsSuitedStep (old new : Names) (b : Body) (i : ℕ) (s next : State) : Type 0 where
  pub left : State
  pub after : after_of b i (type_state old s) ≡ Some (type_state new left)
  pub suits : suits_all new b i left ≡ true
  pub next_is : next ≡ unwrap_or (frame_in b.frames (i + 1)) left
  pub whole : IsWholeState (length new) b next

-- the state after an instruction isn't there, or doesn't suit where one of its branches leads
abbrev pub IsUnsuitedStep : Names → Names → Body → ℕ → State → Type 0
IsUnsuitedStep old new b i s = (after_of b i (type_state old s) ≡ None) ⊎ ((left : State) × (after_of b i (type_state old s) ≡ Some (type_state new left)) × (suits_all new b i left ≡ false))

abbrev pub SuitedSteps : Names → Names → Body → ℕ → State → Option State → Type 0
SuitedSteps old new b i s None = IsUnsuitedStep old new b i s
SuitedSteps old new b i s (Some next) = IsSuitedStep old new b i s next
