-- Bodies of a class that were looked at and have room for their probes.
use Rattle.std.specs.Prelude.{◌≡◌, ℕ, ◌≤◌, List, length, Some, slice_get}
use Rattle.jc_methods.specs.ProbeMembers.{most_probes}
use Rattle.jc_methods.specs.VerificationTypes.{AreNumberedFrames, Names}
use Rattle.jc_methods.specs.WellMade.{IsWellMade}
use Rattle.jc_methods.specs.declared.body.Body.{Body}
use Rattle.jc_kinds.specs.Answers.{AreStates}
use Rattle.jc_plan.specs.Plan.{plan_of}
use Rattle.jc_plan.specs.Probed.{first_id}
use Rattle.jc_emit.specs.Refusing.{IsTaken}
use Rattle.jc_instrument.specs.declared.looked.KeptBody.{KeptBody}
use Rattle.jc_instrument.specs.declared.looked.LookedBody.{LookedBody}
use Rattle.jc_instrument.specs.declared.looked.LookedBody.TheVariants.{Kept, Unread}

-- the body has room for its probes, whose ids begin with this one
pub record HasRoomFrom (b : Body) (first : ℕ) : Type 0 where
  pub made : IsWellMade b
  pub taken : IsTaken b
  pub rows : length b.handlers ≤ 65535
  pub next : (plan_of b first).next ≤ most_probes

-- it was kept: its states and its frames have classes by their numbers in these names
pub record IsKeptBody (names : Names) (b : Body) (first : ℕ) (k : KeptBody) : Type 0 where
  pub body : k.body ≡ b
  pub plan : k.plan ≡ plan_of b first
  pub states : AreStates names b k.states
  pub numbered : AreNumberedFrames (length names) b.frames

-- it stands for this body, whose ids begin with this one
abbrev pub IsLookedBody : Names → Body → (first : ℕ) → LookedBody → Type 0
IsLookedBody names b first (Kept k) = HasRoomFrom b first × IsKeptBody names b first k
IsLookedBody names b first (Unread u) = HasRoomFrom b first × (u.method ≡ b.method) × (u.first ≡ first)

-- it stands for the body at this place, whose ids begin behind those of the bodies in front of it
pub record IsLookedAt (names : Names) (bodies : List Body) (i : ℕ) (p : LookedBody) : Type 0 where
  pub body : Body
  pub stands : slice_get bodies i ≡ Some body
  pub is : IsLookedBody names body (first_id bodies i) p

-- one for each of the bodies
pub record AreLookedBodies (names : Names) (bodies : List Body) (looked : List LookedBody) : Type 0 where
  pub count : length looked ≡ length bodies
  pub each : (i : ℕ) (p : LookedBody) → slice_get looked i ≡ Some p → IsLookedAt names bodies i p
