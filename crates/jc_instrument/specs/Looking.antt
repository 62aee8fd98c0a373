-- What is known of the first methods of a class that gets probes.
use Rattle.std.specs.Prelude.{◌≡◌, ◌⊎◌, ℕ, ◌<◌, ◌≤◌, List, [], ◌∷◌, ◌++◌, Option, Some, None, All, MatchOption}
use Rattle.jc_methods.specs.ProbeMembers.{most_probes}
use Rattle.jc_methods.specs.VerificationTypes.{Names}
use Rattle.jc_methods.specs.WellMade.{IsWellMade}
use Rattle.jc_methods.specs.declared.body.Body.{Body}
use Rattle.jc_bytes.specs.declared.refusal.Refusal.{Refusal}
use Rattle.jc_bytes.specs.declared.refusal.RefusalKind.TheVariants as kinds
use Rattle.jc_class.specs.declared.class_file.ClassFile.{ClassFile}
use Rattle.jc_kinds.specs.Answers.{IsKindRefusal}
use Rattle.jc_kinds.specs.Checked.{Checked}
use Rattle.jc_plan.specs.Analysed.{all_probes}
use Rattle.jc_plan.specs.Plan.{plan_of}
use Rattle.jc_instrument.specs.Bodies.{AreBodiesBelow}
use Rattle.jc_instrument.specs.Causes.{InMethod}
use Rattle.jc_instrument.specs.Found.{AreFramesFine, FramesSoFar, HasRoomSoFar, KeepsLack, noted}
use Rattle.jc_instrument.specs.Looked.{AreLookedBodies, IsLookedBody}
use Rattle.jc_instrument.specs.Reasons.{IsFaulty}
use Rattle.jc_instrument.specs.Room.{AreFirstLacks}
use Rattle.jc_instrument.specs.declared.looking.Looking.{Looking}
use Rattle.jc_instrument.specs.declared.looked.LookedBody.{LookedBody}

-- ---- bodies so far

-- the first lack of room of each kind, how many probes there are, and, where there is room, what is kept of the bodies
pub record RoomSoFar (names : Names) (bodies : List Body) (s : Looking) : Type 0 where
  pub lacks : AreFirstLacks bodies s.room
  pub probes : s.probes ≡ all_probes bodies
  pub looked : HasRoomSoFar s.room → s.probes ≤ most_probes → AreLookedBodies names bodies s.bodies

-- what is known of these bodies
pub record AreLookedAt (names : Names) (bodies : List Body) (s : Looking) : Type 0 where
  pub made : All IsWellMade bodies
  pub frames : FramesSoFar names bodies s.frames.missing s.frames.clash
  pub room : AreFramesFine s.frames → RoomSoFar names bodies s

-- ---- methods so far

-- the methods below this number have these bodies
pub record HaveBodies (names : Names) (c : ClassFile) (number : ℕ) (s : Looking) : Type 0 where
  pub bodies : List Body
  pub are : AreBodiesBelow names c number bodies
  pub so : AreLookedAt names bodies s

-- What is known of the methods below this number, in none of which a subroutine instruction stands: the refusal of the first
-- one whose code has a fault, or else what is known of their bodies.
pub record IsLooking (names : Names) (c : ClassFile) (number : ℕ) (s : Looking) : Type 0 where
  pub no_subroutine : (before place : ℕ) → before < number → IsFaulty c kinds.Subroutine before place → ⊥
  pub found : MatchOption s.bad (HaveBodies names c number s) (InMethod kinds.BadCode (IsFaulty c kinds.BadCode))

-- ---- one body more

-- the body with this first id is put last
pub record PutsLooked (names : Names) (b : Body) (first : ℕ) (old new : List LookedBody) : Type 0 where
  pub looked : LookedBody
  pub put : new ≡ old ++ looked ∷ []
  pub is : IsLookedBody names b first looked

-- one more body that passes the kind check is looked at
pub record LooksOn (names : Names) (b : Body) (old new : Looking) : Type 0 where
  pub straddling : KeepsLack kinds.StraddlingLocal b old.room.straddling new.room.straddling
  pub locals : KeepsLack kinds.LocalsFull b old.room.locals new.room.locals
  pub stack : KeepsLack kinds.StackFull b old.room.stack new.room.stack
  pub probes : new.probes ≡ (plan_of b old.probes).next
  pub looked : HasRoomSoFar new.room → new.probes ≤ most_probes → PutsLooked names b old.probes old.bodies new.bodies

-- it passes the kind check, and is looked at where all bodies did
pub record PassesOn (names : Names) (b : Body) (old new : Looking) : Type 0 where
  pub checked : Checked names b
  pub frames : new.frames ≡ old.frames
  pub on : AreFramesFine old.frames → LooksOn names b old new

-- it doesn't, and its refusal is kept where it is the first one
pub record RefusedOn (names : Names) (b : Body) (old new : Looking) : Type 0 where
  pub refusal : Refusal
  pub is : IsKindRefusal names b refusal
  pub frames : new.frames ≡ noted refusal.kind refusal old.frames

abbrev pub LooksAtBody : Names → Body → (old new : Looking) → Type 0
LooksAtBody names b old new = PassesOn names b old new ⊎ RefusedOn names b old new
