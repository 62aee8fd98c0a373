-- Handlers whose frame the local variables before a guarded instruction don't fit, on types as they are kept.
use Rattle.std.specs.Prelude.{◌≡◌, ◌⊎◌, ℕ, ◌<◌, ◌≤◌, Bool, true, false, List, [], ◌∷◌, map, Option, Some, None, Contains}
use Rattle.jc_methods.specs.declared.kind.Kind.{Kind}
use Rattle.jc_methods.specs.declared.kind.Kind.TheVariants as kinds
use Rattle.jc_methods.specs.declared.kind.State.{State}
use Rattle.jc_methods.specs.declared.body.Handler.{Handler}
use Rattle.jc_methods.specs.declared.body.FrameAt.{FrameAt}
use Rattle.jc_methods.specs.declared.body.Body.{Body}
use Rattle.jc_kinds.specs.KindFits.{kind_fits}
use Rattle.jc_kinds.specs.Frames.{frame_in}
use Rattle.jc_kinds.specs.Runs.{kind_at}

-- the type of a local variable
abbrev pub local_at : ℕ → State → Kind
local_at slot s = kind_at s.locals slot

-- the types of a local variable before each instruction
abbrev pub column_of : List State → ℕ → List Kind
column_of states slot = map (local_at slot) states

-- the type that a frame has for a local variable
abbrev pub wanted_at : ℕ → Option State → Kind
wanted_at slot None = kinds.Top
wanted_at slot (Some s) = local_at slot s

-- a reference that is caught may stand there
abbrev pub takes_object : Kind → Bool
takes_object kinds.Top = true
takes_object (kinds.Object n) = true
takes_object _ = false

-- one value stands on the stack, and it may be the reference that is caught
abbrev pub catches : List Kind → Bool
catches (kind ∷ []) = takes_object kind
catches _ = false

-- the handler's frame has a stack that the reference alone fits
abbrev pub frame_catches : Option State → Bool
frame_catches None = true
frame_catches (Some s) = catches s.stack

-- a row guards the instruction
pub record IsGuarded (h : Handler) (i : ℕ) : Type 0 where
  pub start : h.start ≤ i
  pub end : i < h.end

-- a row guards the instruction, and its handler's frame doesn't take what is caught
pub record IsUncaught (frames : List FrameAt) (handlers : List Handler) (i : ℕ) : Type 0 where
  pub handler : Handler
  pub row : Contains handlers handler
  pub guarded : IsGuarded handler i
  pub uncaught : frame_catches (frame_in frames handler.target) ≡ false

-- a row guards the instruction, and the type there doesn't fit that of the handler's frame
pub record IsUnfitInColumn (column : List Kind) (frames : List FrameAt) (slot : ℕ) (handlers : List Handler) (i : ℕ) : Type 0 where
  pub handler : Handler
  pub row : Contains handlers handler
  pub guarded : IsGuarded handler i
  pub unfit : kind_fits (kind_at column i) (wanted_at slot (frame_in frames handler.target)) ≡ false

-- the same of one row
pub record IsUnfitInRow (column : List Kind) (handler : Handler) (want : Kind) (i : ℕ) : Type 0 where
  pub guarded : IsGuarded handler i
  pub unfit : kind_fits (kind_at column i) want ≡ false

-- the same in one of so many local variables
abbrev pub IsUnfitBelow : List State → List FrameAt → List Handler → ℕ → ℕ → Type 0
IsUnfitBelow states frames handlers slots i = (slot : ℕ) × (slot < slots) × IsUnfitInColumn (column_of states slot) frames slot handlers i

-- one of the two, in one of so many local variables
abbrev pub IsUnguarded : List State → List FrameAt → List Handler → ℕ → ℕ → Type 0
IsUnguarded states frames handlers slots i = IsUncaught frames handlers i ⊎ IsUnfitBelow states frames handlers slots i

-- one of the two, by the frames, the rows and the local variables of a body
abbrev pub IsUnguardedIn : Body → List State → ℕ → Type 0
IsUnguardedIn b states i = IsUnguarded states b.frames b.handlers b.max_locals i
