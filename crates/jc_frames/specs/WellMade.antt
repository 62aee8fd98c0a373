-- The frames of a table are those of a well made body (JVM Specification 4.7.4).
use Rattle.std.specs.Prelude.{◌≡◌, ⊤, ℕ, ◌+◌, ◌<◌, true, List, length, map, slice_get, slice_index}
use Rattle.std.specs.List.{AllByRecursion}
use Rattle.jc_methods.specs.declared.body.FrameAt.{FrameAt}
use Rattle.jc_methods.specs.WellMade.{AreFramesFrom}
use Rattle.jc_methods.specs.VerificationTypes.{Names, VerificationType, top, uninit, TypeState, type_state_at}
use Rattle.jc_methods.specs.EntryState.{in_locals}
use Rattle.jc_frames.specs.Frames.{Ground, is_new, values_in}
use Rattle.jc_frames.specs.Table.{StandsFor}

-- the offsets of so many instructions rise, and the length of the code stands behind them
pub record AreOffsets (insns : ℕ) (starts : List ℕ) : Type 0 where
  pub count : length starts ≡ insns + 1
  pub rising : (k : ℕ) → k < insns → slice_index starts k < slice_index starts (k + 1)

-- an object that isn't initialized has a `new`
abbrev pub HasNew : Ground → VerificationType → Type 0
HasNew g (uninit at) = is_new (slice_get g.code at) ≡ true
HasNew g h = ⊤

-- the frames stand at instructions in rising order, and have their local variables and their room on the stack
abbrev pub FramesAreWellMade : Type 0
FramesAreWellMade = (g : Ground) (names : Names) (entry : TypeState) (table : List ℕ) (frames : List FrameAt)
    → AreOffsets (length g.code) g.starts → AllByRecursion (HasNew g) entry.locals → StandsFor g entry table (map (type_state_at names) frames)
    → AreFramesFrom 0 g.code g.max_locals g.max_stack frames

-- an argument is a value
abbrev pub IsValue : VerificationType → Type 0
IsValue top = ⊥
IsValue h = ⊤

-- the first frame follows the arguments
abbrev pub ArgumentsAreFirst : Type 0
ArgumentsAreFirst = (count : ℕ) (arguments : List VerificationType)
    → AllByRecursion IsValue arguments → values_in (in_locals count arguments) ≡ arguments
