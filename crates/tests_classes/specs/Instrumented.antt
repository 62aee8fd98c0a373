-- Instrumented code of a body.
use Rattle.std.specs.Prelude.{◌≡◌, ℕ, List}
use Rattle.jc_instrument_code.specs.Given.{AreFrames, IsLaid}
use Rattle.jc_instrument_code.specs.TwinCode.{chosen_frames}
use Rattle.jc_layout.specs.declared.layouts.Laid.{Laid}
use Rattle.jc_methods.specs.VerificationTypes.{Names}
use Rattle.jc_methods.specs.declared.body.Body.{Body}
use Rattle.jc_methods.specs.declared.emitted.Emitted.{Emitted}
use Rattle.jc_methods.specs.declared.kind.State.{State}
use Rattle.jc_methods.specs.declared.probe_members.Fetch.{Fetch}
use Rattle.jc_kinds.specs.Answers.{AreStates}
use Rattle.jc_emit.specs.Emission.{IsArrayNumber, emission}
use Rattle.jc_emit.specs.Twin.{IsEmitted}
use Rattle.jc_emit.specs.Written.{given, integer_in}

-- this is the instrumented code of the body with its states, which gets its array so, from this id on, with the Integers of ids at
-- these places
pub record IsInstrumented (names : Names) (b : Body) (fetch : Fetch) (first : ℕ) (constants : List ℕ) (e : Emitted) : Type 0 where
  pub states : List State
  pub are : AreStates names b states
  pub array : ℕ
  pub array_is : IsArrayNumber names array
  pub made : e ≡ emission b first states (given fetch array constants)
  pub told : IsEmitted names names states fetch (integer_in constants) first b e

-- in its layout the frames can be written, which name classes of which there are so many
pub record FitsInLayout (names : ℕ) (e : Emitted) : Type 0 where
  pub frames : (l : Laid) → IsLaid e l → AreFrames e names (chosen_frames e)
