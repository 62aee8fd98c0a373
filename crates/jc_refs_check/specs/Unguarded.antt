-- Handlers whose frames the objects before guarded instructions don't suit (JVM Specification 4.10.1.6), on types as they are kept. Where a
-- body passes the kind check, a reference that doesn't suit is an object of a class where a class is wanted.
use Rattle.std.specs.Prelude.{◌≡◌, ⊤, ℕ, ◌<◌, ◌≤◌, Bool, true, false, List, map, length, Option, Some, None, is_some, codes, nat_eq, bytes_eq, slice_get, slice_index, slice_index_or, option_and_then, Contains, if◌then◌else◌}
use Rattle.std.specs.HashMap.{HashMap, get}
use Rattle.std.specs.List.Sorted.{IsNonDecreasingBy}
use Rattle.jc_methods.specs.declared.kind.Kind.{Kind}
use Rattle.jc_methods.specs.declared.kind.Kind.TheVariants as kinds
use Rattle.jc_methods.specs.declared.kind.State.{State}
use Rattle.jc_methods.specs.declared.body.Handler.{Handler}
use Rattle.jc_methods.specs.declared.body.FrameAt.{FrameAt}
use Rattle.jc_methods.specs.declared.body.Body.{Body}
use Rattle.jc_methods.specs.declared.body.Use.{Use}
use Rattle.jc_methods.specs.declared.body.What.{What}
use Rattle.jc_methods.specs.declared.body.What.TheVariants as whats
use Rattle.jc_methods.specs.VerificationTypes.{Names, AreNumberedFrames, verification_type}
use Rattle.jc_methods.specs.WellMade.{what_used}
use Rattle.jc_kinds.specs.Checked.{Checked, Guards, caught}
use Rattle.jc_kinds.specs.Frames.{frame_in}
use Rattle.jc_kinds.specs.Guarded.{local_at}
use Rattle.jc_kinds.specs.StateSequence.{IsKeptAt}
use Rattle.jc_refs_check.specs.declared.caught.Caught.{Caught}
use Rattle.jc_refs_check.specs.declared.columns.Column.{Column}
use Rattle.jc_refs_check.specs.declared.guards.Guard.{Guard}
use Rattle.jc_refs_check.specs.Suits.{object_class, class_suits}
use Rattle.jc_refs_check.specs.RefsOk.{TakesCaught, HandlersSuit}
use Rattle.jc_refs_check.specs.SuitedWalk.{IsFirstFailing}
use Rattle.jc_refs_check.specs.Classes.{name_at}
use Rattle.jc_refs_check.specs.FrameNumbers.{StandsBehind}

-- ---- the objects in a local variable

-- the class of an object
abbrev pub object_of : Kind → Option ℕ
object_of (kinds.Object class) = Some class
object_of kind = None

abbrev pub class_at : ℕ → State → Option ℕ
class_at slot s = object_of (local_at slot s)

-- before each instruction
abbrev pub classes_of : List State → ℕ → List (Option ℕ)
classes_of states slot = map (class_at slot) states

abbrev pub class_before : List (Option ℕ) → ℕ → Option ℕ
class_before column i = slice_index_or column i None

-- the first instruction from one on at which there is an object, or the number of instructions
pub record IsNext (column : List (Option ℕ)) (i n : ℕ) : Type 0 where
  pub from : i ≤ n
  pub within : n ≤ length column
  pub none : (k : ℕ) → i ≤ k → k < n → class_before column k ≡ None
  pub some : n < length column → is_some (class_before column n) ≡ true

-- from a place on it is listed for each
pub record AreNext (column : List (Option ℕ)) (from : ℕ) (next : List ℕ) : Type 0 where
  pub size : length next ≡ length column
  pub each : (i : ℕ) → from ≤ i → i < length column → IsNext column i (slice_index next i)

abbrev pub HaveNext : Column → Type 0
HaveNext c = AreNext c.classes.items 0 c.next.items

-- the number of each class is one of so many
abbrev pub AreNumberedClasses : ℕ → List (Option ℕ) → Type 0
AreNumberedClasses count column = (i class : ℕ) → class_before column i ≡ Some class → class < count

pub record IsColumn (states : List State) (slot : ℕ) (c : Column) : Type 0 where
  pub classes : c.classes.items ≡ classes_of states slot
  pub next : HaveNext c

-- ---- classes that are wanted

-- there is an object, whose class doesn't suit the one that is wanted
abbrev pub IsUnsuited : Names → Option ℕ → ℕ → Type 0
IsUnsuited names None want = false ≡ true
IsUnsuited names (Some class) want = class_suits (name_at names class) (name_at names want) ≡ false

-- the first place of the range whose object doesn't suit, or the range's end
pub record IsFirstUnsuited (names : Names) (column : List (Option ℕ)) (want start end result : ℕ) : Type 0 where
  pub within : result ≤ end
  pub from : start ≤ result
  pub suited : (k : ℕ) → start ≤ k → k < result → IsUnsuited names (class_before column k) want → ⊥
  pub unsuited : result < end → IsUnsuited names (class_before column result) want

-- the class, unless all objects suit it
abbrev pub wanted_of : Names → Option ℕ → Option ℕ
wanted_of names None = None
wanted_of names (Some class) = if bytes_eq (name_at names class) object_class then None else Some class

-- the class that the frame with a number wants in a local variable
abbrev pub wanted_at : Names → List FrameAt → (number slot : ℕ) → Option ℕ
wanted_at names frames number slot = option_and_then (λ (f : FrameAt). wanted_of names (class_at slot f.state)) (slice_get frames number)

-- ---- rows

-- the two frames want the same class in each local variable
abbrev pub WantAlike : List FrameAt → (one other : ℕ) → Type 0
WantAlike frames one other = (names : Names) (slot : ℕ) → wanted_at names frames one slot ≡ wanted_at names frames other slot

-- for each of the first frames the number of one that isn't behind it and wants the same
pub record AreAlike (frames : List FrameAt) (count : ℕ) (numbers : List ℕ) : Type 0 where
  pub size : length numbers ≡ count
  pub within : (k : ℕ) → k < count → slice_index numbers k ≤ k
  pub each : (k : ℕ) → k < count → WantAlike frames (slice_index numbers k) k

-- the number of a frame that wants what the frame at the instruction does, which has so many in front of it
pub record IsFrameFor (frames : List FrameAt) (at number : ℕ) : Type 0 where
  pub within : number ≤ length frames
  pub count : ℕ
  pub stands : StandsBehind frames at count
  pub alike : WantAlike frames number count

-- the row, with the number of a frame that wants what its handler's frame does
pub record IsGuardOf (b : Body) (h : Handler) (g : Guard) : Type 0 where
  pub start : g.start ≡ h.start
  pub end : g.end ≡ h.end
  pub frame : IsFrameFor b.frames h.target g.frame

-- all rows by where they begin
pub record AreSortedGuards (b : Body) (guards : List Guard) : Type 0 where
  pub starts : IsNonDecreasingBy (λ (g : Guard). g.start) guards
  pub among : (g : Guard) → Contains guards g → (h : Handler) × Contains b.handlers h × IsGuardOf b h g
  pub all : (h : Handler) → Contains b.handlers h → (g : Guard) × Contains guards g × IsGuardOf b h g

-- one of the rows guards the instruction by the frame with a number
pub record IsGuardedBy (guards : List Guard) (frame i : ℕ) : Type 0 where
  pub guard : Guard
  pub row : Contains guards guard
  pub start : guard.start ≤ i
  pub end : i < guard.end
  pub same : guard.frame ≡ frame

-- some of the rows, by where they begin, which guard what all of them guard
pub record AreFurther (guards kept : List Guard) : Type 0 where
  pub starts : IsNonDecreasingBy (λ (g : Guard). g.start) kept
  pub among : (g : Guard) → Contains kept g → Contains guards g
  pub guarding : (g : Guard) (i : ℕ) → Contains guards g → g.start ≤ i → i < g.end → IsGuardedBy kept g.frame i

-- one of the rows guards the instruction, and has a frame that wants what the handler's does
pub record IsGuardedFor (b : Body) (h : Handler) (guards : List Guard) (i : ℕ) : Type 0 where
  pub guard : Guard
  pub row : Contains guards guard
  pub start : guard.start ≤ i
  pub end : i < guard.end
  pub frame : IsFrameFor b.frames h.target guard.frame

-- rows by where they begin, which guard what the exception table guards
pub record AreGuards (b : Body) (guards : List Guard) : Type 0 where
  pub starts : IsNonDecreasingBy (λ (g : Guard). g.start) guards
  pub among : (g : Guard) → Contains guards g → (h : Handler) × Contains b.handlers h × IsGuardOf b h g
  pub guarding : (h : Handler) (i : ℕ) → Contains b.handlers h → h.start ≤ i → i < h.end → IsGuardedFor b h guards i

-- if not, no row wants a class in the local variable
abbrev pub AreWanted : Bool → Names → List FrameAt → ℕ → List Guard → Type 0
AreWanted some names frames slot rows = some ≡ false → (g : Guard) → Contains rows g → wanted_at names frames g.frame slot ≡ None

-- one of them wants the class in the local variable
pub record IsWantedBy (names : Names) (frames : List FrameAt) (slot : ℕ) (rows : List Guard) (class : ℕ) : Type 0 where
  pub guard : Guard
  pub row : Contains rows guard
  pub wanted : wanted_at names frames guard.frame slot ≡ Some class

-- the row guards the instruction, whose object doesn't suit what its handler wants
pub record IsUnsuitedGuard (names : Names) (column : List (Option ℕ)) (frames : List FrameAt) (slot : ℕ) (g : Guard) (i : ℕ) : Type 0 where
  pub start : g.start ≤ i
  pub end : i < g.end
  pub want : ℕ
  pub wanted : wanted_at names frames g.frame slot ≡ Some want
  pub unsuited : IsUnsuited names (class_before column i) want

-- one of the rows does so
pub record IsUnsuitedIn (names : Names) (column : List (Option ℕ)) (frames : List FrameAt) (slot : ℕ) (rows : List Guard) (i : ℕ) : Type 0 where
  pub guard : Guard
  pub row : Contains rows guard
  pub unsuited : IsUnsuitedGuard names column frames slot guard i

-- a place of the range from `first` up to `last`, whose object doesn't suit
pub record IsUnsuitedRange (names : Names) (column : List (Option ℕ)) (want first last i : ℕ) : Type 0 where
  pub start : first ≤ i
  pub end : i < last
  pub unsuited : IsUnsuited names (class_before column i) want

-- ---- what was looked at

-- The objects from a place on that stand in front of where the class has reached, and in front of a bound, suit the class.
abbrev pub AreReached : Names → List (Option ℕ) → (low bound : ℕ) → List ℕ → Type 0
AreReached names column low bound reached =
    (class i : ℕ) → low ≤ i → i < slice_index reached class → i < bound → IsUnsuited names (class_before column i) class → ⊥

abbrev pub IsNothingReached : List ℕ → Type 0
IsNothingReached reached = (class : ℕ) → slice_index reached class ≡ 0

-- ---- states that are kept

-- the states before the instructions in front of so many, under earlier names, kept under later ones
abbrev pub AreKeptStates : Names → Names → Body → List State → Type 0
AreKeptStates old new b states = (i : ℕ) (s : State) → slice_get states i ≡ Some s → IsKeptAt old new b i s

-- the first instruction whose references don't suit a handler, where the body passes the kind check and the states are those before the
-- instructions
abbrev pub IsFirstUnguarded : Names → Names → Body → List State → ℕ → Type 0
IsFirstUnguarded old names b states count =
    AreNumberedFrames (length old) b.frames → Checked old b → AreKeptStates old names b states → IsFirstFailing (HandlersSuit old b) (length states) count

-- ---- what is caught

-- the frame at the row's handler takes what the row catches
abbrev pub FrameTakes : Names → Body → Handler → Option State → Type 0
FrameTakes names b h None = false ≡ true
FrameTakes names b h (Some frame) = TakesCaught (caught b h) (map (verification_type names) frame.stack)

-- the row guards the instruction, and its handler's frame doesn't take what it catches
pub record IsUntakenBy (names : Names) (b : Body) (h : Handler) (i : ℕ) : Type 0 where
  pub start : h.start ≤ i
  pub end : i < h.end
  pub untaken : FrameTakes names b h (frame_in b.frames h.target) → ⊥

-- a row guards the instruction, and its handler's frame doesn't take what the row catches
pub record IsUntaken (names : Names) (b : Body) (i : ℕ) : Type 0 where
  pub handler : Handler
  pub guards : Guards b handler i
  pub untaken : FrameTakes names b handler (frame_in b.frames handler.target) → ⊥

-- the class of the name has the number
pub record IsNumberOf (names : Names) (name : List ℕ) (class : ℕ) : Type 0 where
  pub is : slice_get names class ≡ Some name

-- what a number says of what stands at its place in the pool: the class's number where a class stands, and there is none where nothing does
abbrev pub SaysClass : Names → Option What → Option ℕ → Type 0
SaysClass names (Some (whats.Class name)) (Some class) = IsNumberOf names name class
SaysClass names (Some (whats.Class name)) None = ⊥
SaysClass names (Some what) number = ⊤
SaysClass names None (Some class) = ⊥
SaysClass names None None = ⊤

-- the number of each class that is used, by its place in the pool
pub record AreUsedClasses {S : Type 0} (names : Names) (uses : List Use) (used : HashMap ℕ ℕ S) : Type 0 where
  pub there : (place : ℕ) → SaysClass names (what_used uses place) (get nat_eq used place)

pub record AreCaught (names : Names) (b : Body) (c : Caught) : Type 0 where
  pub used : AreUsedClasses names b.uses c.used
  pub all : IsNumberOf names (codes "java/lang/Throwable") c.all
