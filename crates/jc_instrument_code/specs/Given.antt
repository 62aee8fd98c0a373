-- What the writing of a Code attribute relies on.
use Rattle.std.specs.Prelude.{◌≡◌, ℕ, ◌+◌, ◌≤◌, List, [], ◌∷◌, length}
use Rattle.std.specs.List.{AllByRecursion}
use Rattle.jc_methods.specs.FrameOrder.{RiseFrom}
use Rattle.jc_methods.specs.VerificationTypes.{Names}
use Rattle.jc_methods.specs.declared.body.FrameAt.{FrameAt}
use Rattle.jc_methods.specs.declared.emitted.Emitted.{Emitted}
use Rattle.jc_pool.specs.Adding.{IsFirst}
use Rattle.jc_pool.specs.Lookup.{utf8_of}
use Rattle.jc_pool.specs.Pool.{PoolValue}
use Rattle.jc_frames.specs.FullTable.{FitsFull, HasPlace, named_by_all}
use Rattle.jc_layout.specs.Layout.{chosen_list, chosen_starts, chosen_text, most_bytes}
use Rattle.jc_layout.specs.declared.layouts.Laid.{Laid}
use Rattle.jc_instrument_code.specs.declared.code.CodePlaces.{CodePlaces}
use Rattle.jc_instrument_code.specs.TwinCode.{chosen_frames, written_frames, lines_name, vars_name, kind_vars_name}

-- this is the layout that is chosen for the code, and its bytes are as many as the code of a method has at most
pub record IsLaid (e : Emitted) (l : Laid) : Type 0 where
  pub wide : l.wide ≡ chosen_list e.code
  pub starts : l.starts ≡ chosen_starts e.code
  pub text : l.code ≡ chosen_text e.code
  pub few : length l.code ≤ most_bytes

-- each frame stands at an instruction, in rising order, and names classes of which there are so many
pub record AreFrames (e : Emitted) (names : ℕ) (frames : List FrameAt) : Type 0 where
  pub are : frames ≡ chosen_frames e
  pub few : length frames ≤ 65535
  pub rising : RiseFrom 0 frames
  pub each : AllByRecursion (FitsFull (length e.code + 1) names) frames

-- each class that the frames name stands in the pool
abbrev pub HaveClasses : PoolValue → Names → Emitted → Type 0
HaveClasses pool names e = AllByRecursion (HasPlace pool) (named_by_all (written_frames names e))

-- the name of an attribute that has entries stands first at this place
abbrev pub IsNamedAt : {X : Type 0} → PoolValue → (name : List ℕ) → List X → (place : ℕ) → Type 0
IsNamedAt pool name [] place = Unit {0}
IsNamedAt pool name (x ∷ xs) place = IsFirst (utf8_of pool) name place

-- each name that is needed stands first at its place
pub record AreNamed (pool : PoolValue) (e : Emitted) (places : CodePlaces) : Type 0 where
  pub lines : IsNamedAt pool lines_name e.lines places.lines
  pub vars : IsNamedAt pool vars_name e.vars places.vars
  pub kind_vars : IsNamedAt pool kind_vars_name e.kind_vars places.kind_vars
