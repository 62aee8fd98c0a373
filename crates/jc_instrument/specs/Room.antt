-- Whether the bodies of a class have room for its probes.
use Rattle.std.specs.Prelude.{◌≡◌, ℕ, ◌+◌, ◌<◌, List, Option, Some, None, slice_get}
use Rattle.jc_methods.specs.declared.body.Body.{Body}
use Rattle.jc_bytes.specs.declared.refusal.Refusal.{Refusal}
use Rattle.jc_bytes.specs.declared.refusal.RefusalKind.{RefusalKind}
use Rattle.jc_bytes.specs.declared.refusal.RefusalKind.TheVariants as kinds
use Rattle.jc_emit.specs.Straddling.{IsFirstStraddling}
use Rattle.jc_instrument.specs.Steps.{InBodies}
use Rattle.jc_instrument.specs.declared.found.RoomRefusals.{RoomRefusals}

-- The body has no room for its probes, at this place: a long or a double has one half in the last local variable of the
-- arguments; no number is left for one more local variable; or there is no room on the stack for the three operands of a
-- probe (JVM Specification 4.7.3).
abbrev pub LacksRoom : RefusalKind → Body → ℕ → Type 0
LacksRoom kinds.StraddlingLocal b place = IsFirstStraddling b (Some place)
LacksRoom kinds.LocalsFull b place = (b.max_locals ≡ 65535) × (place ≡ 65536)
LacksRoom kinds.StackFull b place = (65532 < b.max_stack) × (place ≡ b.max_stack + 3)
LacksRoom kind b place = ⊥

-- where it lacks room of this kind, if it does
abbrev pub IsWhereItLacks : RefusalKind → Body → Option ℕ → Type 0
IsWhereItLacks kind b None = (place : ℕ) → LacksRoom kind b place → ⊥
IsWhereItLacks kind b (Some place) = LacksRoom kind b place

-- none of the bodies lacks room of this kind
abbrev pub NoneLacks : RefusalKind → List Body → Type 0
NoneLacks kind bodies = (i place : ℕ) (b : Body) → slice_get bodies i ≡ Some b → LacksRoom kind b place → ⊥

-- the refusal of the first body that lacks room of this kind, if one does
abbrev pub IsFirstThatLacks : RefusalKind → List Body → Option Refusal → Type 0
IsFirstThatLacks kind bodies None = NoneLacks kind bodies
IsFirstThatLacks kind bodies (Some r) = InBodies kind (LacksRoom kind) bodies r

-- the first refusals of all kinds
pub record AreFirstLacks (bodies : List Body) (first : RoomRefusals) : Type 0 where
  pub straddling : IsFirstThatLacks kinds.StraddlingLocal bodies first.straddling
  pub locals : IsFirstThatLacks kinds.LocalsFull bodies first.locals
  pub stack : IsFirstThatLacks kinds.StackFull bodies first.stack
