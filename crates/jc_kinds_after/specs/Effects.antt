-- What the things that a body uses do to types, kept under numbers of class names.
use Rattle.std.specs.Prelude.{◌≡◌, ◌++◌, ℕ, Option, Some, option_map}
use Rattle.jc_methods.specs.declared.body.Body.{Body}
use Rattle.jc_methods.specs.declared.body.What.{What}
use Rattle.jc_methods.specs.declared.insn.Insn.{Insn}
use Rattle.jc_methods.specs.declared.kind.Kind.{Kind}
use Rattle.jc_methods.specs.declared.kind.State.{State}
use Rattle.jc_methods.specs.VerificationTypes.{Names, object, verification_type, type_state}
use Rattle.jc_methods.specs.WellMade.{IsWellMadeOfAnySize, what_used}
use Rattle.jc_kinds_after.specs.declared.effect.Effect.{Effect}
use Rattle.jc_kinds_after.specs.declared.effects.Effects.{Effects}
use Rattle.jc_kinds_after.specs.declared.step.Step.{Step as KeptStep}
use Rattle.jc_kinds_after.specs.After.{ground_of, insn_at, new_class, return_op, returns_of, step_of}
use Rattle.jc_kinds_after.specs.Does.{AllSay, IsDescribed, does, does_of}
use Rattle.jc_kinds_after.specs.Elements.{AreElements}
use Rattle.jc_kinds_after.specs.Step.{StackEffect, built, class_built}
use Rattle.jc_kinds_after.specs.Steps.{step_in}

-- the body whose effects they are
abbrev pub body_of : Effects → Body
body_of e = e.body.now

-- they are those of a well made body, under these names and when more are numbered
pub record AreEffects (names : Names) (e : Effects) : Type 0 where
  pub body : IsWellMadeOfAnySize (body_of e)
  pub uses : AllSay names (body_of e).uses e.uses
  pub elements : AreElements names e.elements
  pub owner : (more : Names) → verification_type (names ++ more) e.owner ≡ object (body_of e).owner
  pub returns : e.returns ≡ return_op (returns_of (body_of e))

-- there are names under which they are those of the body
abbrev pub IsRead : Effects → Type 0
IsRead e = (names : Names) × AreEffects names e

-- ---- under all names under which the effects are those of the body

-- what the entry for a place does to types
abbrev pub DoesAt : Effects → ℕ → Effect → Type 0
DoesAt e place effect = (names : Names) (what : What) → AreEffects names e →
    what_used (body_of e).uses place ≡ Some what → IsDescribed what → does names effect ≡ does_of what

-- what an instruction does to types
abbrev pub StepsAs : Effects → Insn → KeptStep → Type 0
StepsAs e insn st = (names : Names) → AreEffects names e → step_in names st ≡ step_of (body_of e).uses (returns_of (body_of e)) insn

-- the class of the objects that a `new` makes
abbrev pub IsClassMade : Effects → ℕ → Option Kind → Type 0
IsClassMade e at found = (names : Names) → AreEffects names e →
    option_map (verification_type names) found ≡ Some (object (new_class (body_of e).uses (insn_at (body_of e) at)))

-- the class of an object whose constructor is called, wherever that is
abbrev pub IsClassBuilt : Effects → Kind → Option Kind → Type 0
IsClassBuilt e old found = (names : Names) (place : ℕ) → AreEffects names e →
    option_map (verification_type names) found ≡ option_map object (class_built (ground_of (body_of e) place) (verification_type names old))

-- the state after a constructor was called by this form, wherever that is
abbrev pub IsBuilt : Effects → State → (Names → StackEffect) → Option State → Type 0
IsBuilt e before form after = (names : Names) (place : ℕ) → AreEffects names e →
    option_map (type_state names) after ≡ built (ground_of (body_of e) place) (form names) (type_state names before)
