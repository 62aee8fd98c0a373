-- The twin of a body: the same method with its probes.
use Rattle.std.specs.Prelude.{◌≡◌, ⊤, Bool, ℕ, ◌+◌, ◌<◌, ◌≤◌, pos, List, Some}
use Rattle.jc_methods.specs.VerificationTypes.{Names}
use Rattle.jc_methods.specs.WellMade.{what_used}
use Rattle.jc_methods.specs.declared.kind.State.{State}
use Rattle.jc_methods.specs.declared.body.Body.{Body}
use Rattle.jc_methods.specs.declared.body.FrameAt.{FrameAt}
use Rattle.jc_methods.specs.declared.body.What.{What}
use Rattle.jc_methods.specs.declared.body.What.TheVariants as whats
use Rattle.jc_methods.specs.declared.emitted.Emitted.{Emitted}
use Rattle.jc_methods.specs.declared.body.Use.{Use}
use Rattle.jc_methods.specs.declared.probe_members.Fetch.{Fetch}
use Rattle.jc_methods.specs.declared.probe_members.Fetch.TheVariants as fetches
use Rattle.jc_methods.specs.ProbeMembers.{data_type, most_short}
use Rattle.jc_plan.specs.Probed.{probe_count}
use Rattle.jc_emit.specs.Sizes.{TwinForm, narrow}
use Rattle.jc_emit.specs.Marks.{Marks, TwinPlaces, unplaced, image_place, land_place, lead_place}
use Rattle.jc_emit.specs.TwinCode.{IsTwinCode}
use Rattle.jc_emit.specs.TwinTables.{AreMovedTables}
use Rattle.jc_emit.specs.TwinFrames.{IsFrame, IsFrameBehind, AreTwinFrames}

-- the method is the same
pub record IsSameMethod (b b' : Body) : Type 0 where
  pub method : b'.method ≡ b.method
  pub owner : b'.owner ≡ b.owner
  pub name : b'.name ≡ b.name
  pub desc : b'.desc ≡ b.desc
  pub flags : b'.flags ≡ b.flags
  pub arg_slots : b'.arg_slots ≡ b.arg_slots

-- ---- what it names

-- a twin that gets its array by a constant names the class of the array, too
abbrev pub NamesArray : Fetch → List Use → (place : ℕ) → Type 0
NamesArray fetches.Member uses place = ⊤
NamesArray fetches.Constant uses place = what_used uses place ≡ Some (whats.Class data_type)

-- for each of so many ids from the first one on that no shorter instruction pushes stands its Integer at this place
abbrev pub NamesIntegers : (first count : ℕ) → List Use → (integer : ℕ → ℕ) → Type 0
NamesIntegers first count uses integer =
    (id : ℕ) → most_short < id → first ≤ id → id < first + count → what_used uses (integer id) ≡ Some (whats.Int (pos id))

-- At these places stand what gives the array, the class of the array, and the Integers of ids.
pub record NamesProbes (fetch : Fetch) (giver : What) (first count : ℕ) (uses : List Use) (p : TwinPlaces) : Type 0 where
  pub giver_is : what_used uses p.giver ≡ Some giver
  pub array_is : NamesArray fetch uses p.array
  pub integers : NamesIntegers first count uses p.integer

-- what stands at each place of the pool that the body uses stands there still
abbrev pub KeepsUses : Body → Body → Type 0
KeepsUses b b' = (place : ℕ) (what : What) → what_used b.uses place ≡ Some what → what_used b'.uses place ≡ Some what

-- the frames of code with these own instructions, in this form
abbrev pub AreFramesOf : Names → Names → List State → ℕ → Body → TwinForm → List Bool → List FrameAt → Type 0
AreFramesOf names new_names states first b form own frames =
    AreTwinFrames names new_names b.arg_slots (image_place own)
    (IsFrame b first states (image_place own) (land_place b first own) (lead_place b first own) form) frames

-- The twin of a body whose first id is `first`, with the states before the instructions of the body. It gets its array as its class
-- does, from what gives it there. The lists of names are those of the one body and of the other; classes are compared by their names.
pub record Twin (names new_names : Names) (states : List State) (fetch : Fetch) (giver : What) (first : ℕ) (b b' : Body) : Type 0 where
  -- what is said of each instruction of the twin
  pub marks : Marks
  -- which conditional jumps are wide
  pub form : TwinForm
  pub fetch_is : form.fetch ≡ fetch
  -- where the pool has what it names
  pub places : TwinPlaces
  pub names_probes : NamesProbes fetch giver first (probe_count b) b'.uses places
  pub method : IsSameMethod b b'
  pub uses : KeepsUses b b'
  pub code : IsTwinCode b first form places b'.code marks
  pub tables : AreMovedTables b (lead_place b first marks.own) (land_place b first marks.own) b'.handlers b'.lines b'.vars b'.kind_vars
  pub frames : AreFramesOf names new_names states first b form marks.own b'.frames
  -- a probe puts three values on the stack, and the array of probes has a local variable
  pub max_stack : b'.max_stack ≡ b.max_stack + 3
  pub max_locals : b'.max_locals ≡ b.max_locals + 1

-- the second body is a twin of the first one, and this is said of each of its instructions
pub record AreTwinMarks (fetch : Fetch) (first : ℕ) (b b' : Body) (m : Marks) : Type 0 where
  pub names : Names
  pub new_names : Names
  pub states : List State
  pub giver : What
  pub twin : Twin names new_names states fetch giver first b b'
  pub marks : m ≡ twin.marks

-- ---- before the layout is chosen

abbrev pub marks_of : Emitted → Marks
marks_of e = record { at = e.at; own = e.own; extra = e.extra }

-- a frame that is used where the conditional jump is wide, behind its image in the narrow code
pub record IsWideFrameOf (b : Body) (first : ℕ) (states : List State) (e : Emitted) (q : ℕ) (state : State) : Type 0 where
  pub behind : IsFrameBehind b first states (image_place e.own) (land_place b first e.own) (lead_place b first e.own) 1 q state

-- The code where no jump is wide yet, and before the pool has what the prelude names. The Integers of ids have their places.
pub record IsEmitted (names new_names : Names) (states : List State) (fetch : Fetch) (integer : ℕ → ℕ) (first : ℕ) (b : Body) (e : Emitted) : Type 0 where
  pub code : IsTwinCode b first (narrow fetch) (unplaced integer) e.code (marks_of e)
  pub tables : AreMovedTables b (lead_place b first e.own) (land_place b first e.own) e.handlers e.lines e.vars e.kind_vars
  pub frames : AreFramesOf names new_names states first b (narrow fetch) e.own e.frames
  -- one for each conditional jump, in order
  pub wide_frames : AreTwinFrames names new_names b.arg_slots (image_place e.own) (IsWideFrameOf b first states e) e.wide_frames
  pub max_stack : e.max_stack ≡ b.max_stack + 3
  pub max_locals : e.max_locals ≡ b.max_locals + 1
