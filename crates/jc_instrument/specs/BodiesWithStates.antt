-- The bodies of a class with what their instrumented code is made of.
use Rattle.std.specs.Prelude.{◌≡◌, ℕ, List, map, Some, slice_get}
use Rattle.std.specs.List.{flat_map}
use Rattle.jc_methods.specs.VerificationTypes.{Names, TypeStateAt}
use Rattle.jc_methods.specs.declared.body.Body.{Body}
use Rattle.jc_methods.specs.declared.emitted.Emitted.{Emitted}
use Rattle.jc_methods.specs.declared.kind.State.{State}
use Rattle.jc_class.specs.declared.class_file.ClassFile.{ClassFile}
use Rattle.jc_kinds.specs.Answers.{AreStates}
use Rattle.jc_plan.specs.Probed.{first_id}
use Rattle.jc_emit.specs.Emission.{IsArrayNumber}
use Rattle.jc_instrument_code.specs.TwinCode.{written_frames}
use Rattle.jc_instrument_reread.specs.WrittenCode.{ready_emission}
use Rattle.jc_instrument.specs.Bodies.{AreBodies}
use Rattle.jc_instrument.specs.Constants.{given_with}
use Rattle.jc_instrument.specs.declared.constants.ProbeConstants.{ProbeConstants}

-- a body, the states before its instructions, and its first id
pub record BodyWithStates : Type 0 where
  pub body : Body
  pub states : List State
  pub first : ℕ

abbrev pub bodies_of : List BodyWithStates → List Body
bodies_of works = map (λ w. w.body) works

-- the states are those of the body with this number, and its first id counts the probed edges of the bodies in front of it
pub record IsBodyWithStates (names : Names) (bodies : List Body) (number : ℕ) (w : BodyWithStates) : Type 0 where
  pub first : w.first ≡ first_id bodies number
  pub states : AreStates names w.body w.states

-- one for each body of the class, in their order; `array` is the number of the class of the probe array
pub record AreBodiesWithStates (names : Names) (array : ℕ) (c : ClassFile) (works : List BodyWithStates) : Type 0 where
  pub bodies : AreBodies names c (bodies_of works)
  pub array_is : IsArrayNumber names array
  pub each : (i : ℕ) (w : BodyWithStates) → slice_get works i ≡ Some w → IsBodyWithStates names (bodies_of works) i w

-- ---- what is written of a body

-- its instrumented code, ready for its layout, and what belongs to it
abbrev pub emitted_of : ProbeConstants → (array : ℕ) → BodyWithStates → Emitted
emitted_of constants array w = ready_emission w.body w.first w.states (given_with constants array) constants.giver

-- the frames of the layouts of all bodies, in their order, with classes by their names
abbrev pub all_frames : Names → ProbeConstants → (array : ℕ) → List BodyWithStates → List TypeStateAt
all_frames names constants array works = flat_map (λ w. written_frames names (emitted_of constants array w)) works
