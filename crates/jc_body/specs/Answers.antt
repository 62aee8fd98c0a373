-- What the steps of reading a body answer.
use Rattle.std.specs.Prelude.{◌≡◌, ◌⊎◌, ℕ, List, length, Some, map}
use Rattle.jc_bytes.specs.declared.refusal.Refusal.{Refusal}
use Rattle.jc_bytes.specs.declared.refusal.RefusalKind.TheVariants as kinds
use Rattle.jc_methods.specs.declared.body.FrameAt.{FrameAt}
use Rattle.jc_methods.specs.VerificationTypes.{Names, type_state_at, AreNumberedFrames}
use Rattle.jc_bytes.specs.Least.{IsNowhere}
use Rattle.jc_pool.specs.Pool.{PoolValue}
use Rattle.jc_class.specs.declared.class_file.Member.{Member}
use Rattle.jc_body.specs.declared.code.Presence.{Presence}
use Rattle.jc_body.specs.declared.code.Presence.TheVariants as presences
use Rattle.jc_body.specs.Coded.{HasNoCode, HasCode}
use Rattle.jc_body.specs.declared.coded.Coded.{Coded}
use Rattle.jc_body.specs.Faults.{NoSingleCode, TooWide}
use Rattle.jc_body.specs.StackMap.{HasFrames, BadStackMap}
use Rattle.jc_body.specs.BodyOf.{IsReason}

-- how many Code attributes there are, against how many there have to be
abbrev pub IsPresence : PoolValue → Member → Presence → Type 0
IsPresence pool method presences.Without = HasNoCode pool method
IsPresence pool method (presences.Single bytes) = HasCode pool method bytes.now
IsPresence pool method presences.Wrong = NoSingleCode pool method 0

-- the refusal names the method, and the reason that it has in the class with this name
pub record IsRefusal (major : ℕ) (pool : PoolValue) (owner : List ℕ) (method : Member) (number : ℕ) (refusal : Refusal) : Type 0 where
  pub method_is : refusal.method ≡ Some number
  pub reason : IsReason major pool owner method refusal.kind refusal.place

-- ---- the stack map table, and the size

-- the refusal of a method's code, at this place
abbrev pub bad_code : ℕ → ℕ → Refusal
bad_code number place = record { kind = kinds.BadCode; method = Some number; place = place }

-- the frames of code that has no fault of its stack map table, and isn't too wide, with classes by their numbers
pub record AreFramesOf (names : Names) (pool : PoolValue) (owner : List ℕ) (method : Member) (coded : Coded)
    (frames : List FrameAt) : Type 0 where
  pub frames_are : HasFrames pool owner method coded (map (type_state_at names) frames)
  pub numbers : AreNumberedFrames (length names) frames
  pub no_fault : IsNowhere (BadStackMap pool owner method coded)
  pub narrow : IsNowhere (TooWide coded)

-- the fault of the stack map table, at its place, or else that of the size, at 0
abbrev pub IsFrameRefusal : PoolValue → List ℕ → Member → Coded → ℕ → Refusal → Type 0
IsFrameRefusal pool owner method coded number refusal =
    ((place : ℕ) × (refusal ≡ bad_code number place) × BadStackMap pool owner method coded place)
    ⊎ ((refusal ≡ bad_code number 0) × IsNowhere (BadStackMap pool owner method coded) × TooWide coded 0)
