-- What the laws on twins tell of each.
use Rattle.std.specs.Prelude.{ℕ, List, map}
use Rattle.jc_methods.specs.VerificationTypes.{Names}
use Rattle.jc_methods.specs.WellMade.{IsWellMadeOfAnySize}
use Rattle.jc_methods.specs.Widened.{WideSet}
use Rattle.jc_methods.specs.declared.body.Body.{Body}
use Rattle.jc_methods.specs.declared.body.FrameAt.{FrameAt}
use Rattle.jc_methods.specs.declared.body.Use.{Use}
use Rattle.jc_methods.specs.declared.body.What.{What}
use Rattle.jc_methods.specs.declared.insn.Insn.{Insn}
use Rattle.jc_methods.specs.declared.kind.State.{State}
use Rattle.jc_kinds.specs.Checked.{Checked}
use Rattle.jc_plan.specs.Probed.{probe_count}
use Rattle.jc_emit.specs.Sizes.{TwinForm}
use Rattle.jc_emit.specs.Marks.{Marks, TwinPlaces, IsProbeBy}
use Rattle.jc_emit.specs.TwinCode.{IsProbeIn}
use Rattle.jc_emit.specs.Twin.{Twin, NamesIntegers}
use Rattle.jc_emit.specs.Items.{insn_of, twin_items}
use Rattle.jc_emit.specs.Emission.{Emitting, emission, form_by, AreWidened, AreFramesInForm}
use Rattle.jc_emit.specs.TwinBody.{twin_body, HasFreePlaces}
use Rattle.jc_emit.specs.Straddling.{NoneStraddles}

-- the code of a twin in a form, where the pool has at these places what it names
abbrev pub twin_code : Body → (first : ℕ) → TwinForm → TwinPlaces → List Insn
twin_code b first form named = map (insn_of named b.arg_slots) (twin_items b first form)

-- the Integers of the ids of the body stand at these places
abbrev pub NamesIds : Body → (first : ℕ) → List Use → TwinPlaces → Type 0
NamesIds b first uses named = NamesIntegers first (probe_count b) uses named.integer

-- each probe in the code is that of a probed edge
abbrev pub HasEdges : Body → (first : ℕ) → TwinForm → TwinPlaces → List Insn → Marks → List Use → Type 0
HasEdges b first form named code m uses =
    (q id at : ℕ) → IsProbeBy uses code m b.arg_slots q id at → IsProbeIn b first form named code m q id at

-- the frames of the narrow code and those behind wide jumps, in the wide code, are the frames of a twin in this form
abbrev pub HasWideFrames : Names → Body → (first : ℕ) → List State → Emitting → WideSet → Type 0
HasWideFrames names b first states given wide =
    (frames : List FrameAt) → AreWidened wide (emission b first states given) frames
    → AreFramesInForm names states first b (form_by b first given.fetch wide) frames

-- the body has a twin without wide jumps, wherever what the twin names has places of its own
abbrev pub HasTwin : Names → Body → (first : ℕ) → List State → Emitting → Type 0
HasTwin names b first states given =
    (places : TwinPlaces) (giver : What) (integers : ℕ) → HasFreePlaces b first given.fetch places giver integers
    → Twin names names states given.fetch giver first b (twin_body b first states given places giver integers)

-- a well made body that passes the kind check, and no local variable of which straddles the end of the arguments
pub record CanHaveTwin (names : Names) (b : Body) : Type 0 where
  pub well_made : IsWellMadeOfAnySize b
  pub checked : Checked names b
  pub none_straddles : NoneStraddles b
