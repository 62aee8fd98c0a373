-- The first refusals that are found while the bodies of a class are looked at.
use Rattle.std.specs.Prelude.{◌≡◌, ◌⊎◌, ℕ, List, Option, Some, None, slice_get, unwrap_or}
use Rattle.jc_methods.specs.VerificationTypes.{Names}
use Rattle.jc_methods.specs.declared.body.Body.{Body}
use Rattle.jc_bytes.specs.declared.refusal.Refusal.{Refusal}
use Rattle.jc_bytes.specs.declared.refusal.RefusalKind.{RefusalKind}
use Rattle.jc_bytes.specs.declared.refusal.RefusalKind.TheVariants as kinds
use Rattle.jc_kinds.specs.Answers.{IsKindRefusal}
use Rattle.jc_kinds.specs.Checked.{Checked, FirstMissing, FirstClash}
use Rattle.jc_instrument.specs.Causes.{of_method}
use Rattle.jc_instrument.specs.Room.{LacksRoom}
use Rattle.jc_instrument.specs.Steps.{InBodies, NoneMissing}
use Rattle.jc_instrument.specs.declared.found.FrameRefusals.{FrameRefusals}
use Rattle.jc_instrument.specs.declared.found.RoomRefusals.{RoomRefusals}

-- the kind check refused no body
abbrev pub AreFramesFine : FrameRefusals → Type 0
AreFramesFine first = (first.missing ≡ None) × (first.clash ≡ None)

-- no body lacks room
abbrev pub HasRoomSoFar : RoomRefusals → Type 0
HasRoomSoFar first = (first.straddling ≡ None) × (first.locals ≡ None) × (first.stack ≡ None)

-- one more refusal of the kind check is kept, where it is the first one
abbrev pub noted : RefusalKind → Refusal → FrameRefusals → FrameRefusals
noted kinds.FrameMissing r first = record { missing = Some (unwrap_or first.missing r); clash = first.clash }
noted kind r first = record { missing = first.missing; clash = Some (unwrap_or first.clash r) }

-- the first missing frame; or none is missing, and this is the first clash; or each body passes the kind check
abbrev pub FramesSoFar : Names → List Body → (missing clash : Option Refusal) → Type 0
FramesSoFar names bodies (Some r) clash = InBodies kinds.FrameMissing FirstMissing bodies r
FramesSoFar names bodies None (Some r) = NoneMissing bodies × InBodies kinds.FrameClash (FirstClash names) bodies r
FramesSoFar names bodies None None = (i : ℕ) (b : Body) → slice_get bodies i ≡ Some b → Checked names b

-- One more body is checked. Behind a missing frame nothing more is asked; or it passes the kind check; or its refusal is kept where
-- it is the first one.
abbrev pub ChecksOn : Names → Body → (old new : FrameRefusals) → Type 0
ChecksOn names b old new =
    ((r : Refusal) × (old.missing ≡ Some r) × (new ≡ old))
    ⊎ ((Checked names b × (new ≡ old)) ⊎ ((r : Refusal) × IsKindRefusal names b r × (new ≡ noted r.kind r old)))

-- what was kept stays; or else the body's lack of room of this kind is kept, if it has one
abbrev pub KeepsLack : RefusalKind → Body → Option Refusal → Option Refusal → Type 0
KeepsLack kind b (Some r) new = new ≡ Some r
KeepsLack kind b None None = (place : ℕ) → LacksRoom kind b place → ⊥
KeepsLack kind b None (Some r) = (place : ℕ) × (r ≡ of_method kind b.method place) × LacksRoom kind b place

-- the first one there is
abbrev pub first_of : Option Refusal → Option Refusal → Option Refusal
first_of (Some r) o = Some r
first_of None o = o
