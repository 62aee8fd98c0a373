-- Bodies of a class that are ready for their instrumented code to be written: each with its plan and its layout.
use Rattle.std.specs.Prelude.{◌≡◌, ℕ, ◌+◌, ◌≤◌, Bool, true, false, List, length, Option, Some, None, All, slice_get, MatchOption, if◌then◌else◌}
use Rattle.std.specs.List.{AllByRecursion, list_any}
use Rattle.jc_bytes.specs.Reader.{most_read}
use Rattle.jc_methods.specs.ProbeMembers.{most_probes, most_short}
use Rattle.jc_methods.specs.VerificationTypes.{AreNumberedFrames, Names}
use Rattle.jc_methods.specs.WellMade.{IsWellMade}
use Rattle.jc_methods.specs.declared.body.Body.{Body}
use Rattle.jc_methods.specs.declared.kind.State.{State}
use Rattle.jc_methods.specs.declared.plan.Plan.{Plan}
use Rattle.jc_class.specs.Sizes.{BodiesWithin}
use Rattle.jc_class.specs.Writable.{IsClassFile}
use Rattle.jc_class.specs.declared.class_file.ClassFile.{ClassFile}
use Rattle.jc_body.specs.BodyOf.{BodyOf}
use Rattle.jc_kinds.specs.Answers.{AreStates}
use Rattle.jc_kinds.specs.Checked.{Checked}
use Rattle.jc_plan.specs.Plan.{plan_of}
use Rattle.jc_plan.specs.Probed.{first_id}
use Rattle.jc_emit.specs.Placing.{HasPlan, ArePlacesFor}
use Rattle.jc_emit.specs.Refusing.{HasRoom}
use Rattle.jc_layout.specs.Layout.{chosen_length}
use Rattle.jc_layout.specs.declared.layouts.Laid.{Laid}
use Rattle.jc_instrument_code.specs.Given.{IsLaid}
use Rattle.jc_instrument_reread.specs.WrittenCode.{ready_emission}
use Rattle.jc_instrument.specs.Constants.{given_with, probed_code}
use Rattle.jc_instrument.specs.Looked.{HasRoomFrom}
use Rattle.jc_instrument.specs.Probing.{AreShortBelow}
use Rattle.jc_instrument.specs.declared.constants.ProbeConstants.{ProbeConstants}
use Rattle.jc_instrument.specs.declared.ready.ReadyBody.{ReadyBody}
use Rattle.jc_instrument.specs.declared.ready.PlannedBody.{PlannedBody}
use Rattle.jc_instrument.specs.declared.ready.PlannedBody.TheVariants.{Ready, Unread}
use Rattle.jc_instrument.specs.declared.ready.UnreadBody.{UnreadBody}

-- ---- a body that was kept

-- this is the layout of the instrumented code of the body with this plan, for which no states are needed
abbrev pub IsLaidFor : ProbeConstants → Body → Plan → Laid → Type 0
IsLaidFor constants b plan l =
    (first : ℕ) (states : List State) (array : ℕ) → plan ≡ plan_of b first
    → IsLaid (ready_emission b first states (given_with constants array) constants.giver) l

-- its states and its frames have classes by their numbers in these names
pub record IsReady (names : Names) (constants : ProbeConstants) (r : ReadyBody) : Type 0 where
  pub made : IsWellMade r.body
  pub numbered : AreNumberedFrames (length names) r.body.frames
  pub plan : HasPlan r.body r.plan
  pub next : r.plan.next ≤ most_probes
  pub room : HasRoom r.body
  pub rows : length r.body.handlers ≤ 65535
  pub laid : IsLaidFor constants r.body r.plan r.laid
  pub placed : ArePlacesFor r.body r.plan constants.fetch r.insn_places
  pub states : AreStates names r.body r.states

-- ---- a body that is read again

-- there is a place for each Integer that these ids need
abbrev pub HasEnough : ProbeConstants → (next : ℕ) → Type 0
HasEnough constants next = next ≤ most_short + 1 + length constants.integers

-- the body has room for its probes, whose ids begin with this one, and its instrumented code isn't too large
pub record TakesProbes (constants : ProbeConstants) (b : Body) (first : ℕ) : Type 0 where
  pub room : HasRoomFrom b first
  pub enough : HasEnough constants (plan_of b first).next
  pub short : chosen_length (probed_code constants b first) ≤ 65535

-- the class file can be read from, body by body
pub record IsSource (c : ClassFile) : Type 0 where
  pub class : IsClassFile c
  pub sizes : All (λ m. BodiesWithin most_read m.attributes) c.methods

-- the body of its method in this class file passes the kind check and takes its probes
pub record IsReadAgain (names : Names) (constants : ProbeConstants) (c : ClassFile) (u : UnreadBody) : Type 0 where
  pub source : IsSource c
  pub body : Body
  pub is : BodyOf names c u.method body
  pub checked : Checked names body
  pub takes : TakesProbes constants body u.first

-- ---- a body that was kept or is read again

abbrev pub method_of : PlannedBody → ℕ
method_of (Ready r) = r.body.method
method_of (Unread u) = u.method

abbrev pub is_unread : PlannedBody → Bool
is_unread (Ready r) = false
is_unread (Unread u) = true

-- it was kept and is ready, or there is a class file from which it is read again
abbrev pub IsReadyFrom : Names → ProbeConstants → Option ClassFile → PlannedBody → Type 0
IsReadyFrom names constants source (Ready r) = IsReady names constants r
IsReadyFrom names constants source (Unread u) = MatchOption source ⊥ (λ c. IsReadAgain names constants c u)

abbrev pub AreReadyFrom : Names → ProbeConstants → Option ClassFile → List PlannedBody → Type 0
AreReadyFrom names constants source planned = AllByRecursion (IsReadyFrom names constants source) planned

-- the class as it was given, if one of its bodies is to be read again
abbrev pub source_of : List PlannedBody → ClassFile → Option ClassFile
source_of planned c = if list_any is_unread planned then Some c else None

-- it stands for this body, whose ids begin with this one
abbrev pub IsPlannedBody : Names → ProbeConstants → Body → (first : ℕ) → PlannedBody → Type 0
IsPlannedBody names constants b first (Ready r) = IsReady names constants r × (r.body ≡ b) × (r.plan ≡ plan_of b first)
IsPlannedBody names constants b first (Unread u) = (u.method ≡ b.method) × (u.first ≡ first) × TakesProbes constants b first

-- ---- lists of them

-- it stands for the body at this place, whose ids begin behind those of the bodies in front of it
pub record IsPlannedAt (names : Names) (constants : ProbeConstants) (bodies : List Body) (i : ℕ) (p : PlannedBody) : Type 0 where
  pub body : Body
  pub stands : slice_get bodies i ≡ Some body
  pub is : IsPlannedBody names constants body (first_id bodies i) p

-- one for each of the bodies, none of which has too large code
pub record ArePlanned (names : Names) (constants : ProbeConstants) (bodies : List Body) (planned : List PlannedBody) : Type 0 where
  pub count : length planned ≡ length bodies
  pub each : (i : ℕ) (p : PlannedBody) → slice_get planned i ≡ Some p → IsPlannedAt names constants bodies i p
  pub short : AreShortBelow constants bodies (length bodies)
