-- What is written of the bodies of a class, one after the other, while the pool takes the classes that their frames name.
use Rattle.std.specs.Prelude.{◌≡◌, ⊤, ℕ, ◌≤◌, List, [], ◌∷◌, ◌++◌, length, map, Option, IfSome, codes}
use Rattle.std.specs.List.{AllByRecursion, AllZip}
use Rattle.jc_bytes.specs.declared.fail.Fail.{Fail}
use Rattle.jc_bytes.specs.declared.fail.Fail.TheVariants as fails
use Rattle.jc_methods.specs.VerificationTypes.{AreNumberedFrames, Names, TypeStateAt, type_state_at}
use Rattle.jc_methods.specs.declared.body.Body.{Body}
use Rattle.jc_methods.specs.declared.body.FrameAt.{FrameAt}
use Rattle.jc_methods.specs.declared.emitted.Emitted.{Emitted}
use Rattle.jc_methods.specs.Widened.{WideSet}
use Rattle.jc_methods.specs.declared.kind.State.{State}
use Rattle.jc_methods.specs.declared.probe_members.Fetch.{Fetch}
use Rattle.jc_methods.specs.declared.probe_members.Fetch.TheVariants as fetches
use Rattle.jc_pool.specs.Adding.{HasUtf8, KeepsFirst}
use Rattle.jc_pool.specs.Lookup.{class_name_of}
use Rattle.jc_pool.specs.Pool.{PoolValue}
use Rattle.jc_pool.specs.declared.add.PoolFull.{PoolFull}
use Rattle.jc_bytes.specs.ByteLists.{AreBytes}
use Rattle.jc_class.specs.ClassText.{ClassText}
use Rattle.jc_class.specs.declared.class_file.ClassFile.{ClassFile}
use Rattle.jc_class.specs.declared.class_file.Member.{Member}
use Rattle.jc_body.specs.BodyOf.{BodyOf}
use Rattle.jc_frames.specs.FullTable.{TakesClasses, named_by_all}
use Rattle.jc_kinds.specs.Answers.{AreStates}
use Rattle.jc_plan.specs.Plan.{plan_of}
use Rattle.jc_emit.specs.Emission.{IsArrayNumber}
use Rattle.jc_emit.specs.Stages.{AreLayoutFrames}
use Rattle.jc_instrument_code.specs.Given.{AreNamed}
use Rattle.jc_instrument_code.specs.TwinCode.{twin_code, written_frames}
use Rattle.jc_instrument_code.specs.declared.code.CodePlaces.{CodePlaces}
use Rattle.jc_plan.specs.Analysed.{all_probes}
use Rattle.jc_instrument.specs.BodiesWithStates.{BodyWithStates, all_frames, bodies_of, emitted_of}
use Rattle.jc_instrument.specs.RoomCauses.{NeedsTooMuch}
use Rattle.jc_instrument.specs.Constants.{constants_at}
use Rattle.jc_instrument.specs.Contents.{Content}
use Rattle.jc_instrument.specs.Needed.{EarlyPlaces, frame_needs, frames_needs}
use Rattle.jc_instrument.specs.TwinText.{IsWrittenFor, Writing, twin_class, twin_methods}
use Rattle.jc_instrument.specs.declared.constants.ProbeConstants.{ProbeConstants}
use Rattle.jc_instrument.specs.declared.needs.MemberPlaces.{MemberPlaces}
use Rattle.jc_instrument.specs.Ready.{IsPlannedBody}
use Rattle.jc_instrument.specs.Taking.{RefusesEach}
use Rattle.jc_instrument.specs.declared.members.PlannedBodies.{PlannedBodies}
use Rattle.jc_instrument.specs.declared.ready.PlannedBody.{PlannedBody}
use Rattle.jc_instrument.specs.declared.ready.ReadyBody.{ReadyBody}
use Rattle.jc_instrument.specs.declared.ready_class.ReadyClass.{ReadyClass}
use Rattle.jc_instrument.specs.declared.twin.TwinPlaces.{TwinPlaces}

-- ---- one body

-- the frames of the body's instrumented code where these jumps are wide, from its states under these names
pub record AreFramesOf (names : Names) (b : Body) (first : ℕ) (fetch : Fetch) (wide : WideSet) (frames : List FrameAt) : Type 0 where
  pub states : List State
  pub are : AreStates names b states
  pub framed : AreLayoutFrames names b first states fetch wide frames

-- The body that is ready under these names is that of the work under the others, by which its frames say the same; the class of
-- the probe array has this number there.
pub record IsWorkOf (names others : Names) (array : ℕ) (r : ReadyBody) (w : BodyWithStates) : Type 0 where
  pub body : r.body ≡ w.body
  pub plan : r.plan ≡ plan_of r.body w.first
  pub seen : map (type_state_at names) r.body.frames ≡ map (type_state_at others) r.body.frames
  pub states : AreStates others w.body w.states
  pub array_is : IsArrayNumber others array

-- What is planned under these names stands for the body of the work under the others, by which its frames say the same. If there is
-- a class file to read from, the body is that of its method.
pub record IsPlannedWork (names others : Names) (constants : ProbeConstants) (array : ℕ) (source : Option ClassFile) (p : PlannedBody)
    (w : BodyWithStates) : Type 0 where
  pub planned : IsPlannedBody names constants w.body w.first p
  pub body : IfSome source (λ c. BodyOf names c w.body.method w.body)
  pub numbered : AreNumberedFrames (length names) w.body.frames
  pub seen : map (type_state_at names) w.body.frames ≡ map (type_state_at others) w.body.frames
  pub states : AreStates others w.body w.states
  pub array_is : IsArrayNumber others array

-- each class that stands in the pool has its first place in the other pool too
abbrev pub KeepsClasses : PoolValue → PoolValue → Type 0
KeepsClasses old new = KeepsFirst (class_name_of old) (class_name_of new)

-- ---- what its frames ask for

-- The name of the attribute of frames stands at this place: at the one that is given, where the members have taken it; else, where
-- there are frames, the pool takes it and has room for it.
abbrev pub HasFramesName : Fetch → PoolValue → List TypeStateAt → (given : ℕ) → PoolValue → (place : ℕ) → Type 0
HasFramesName fetches.Member old frames given new place = (new ≡ old) × (place ≡ given)
HasFramesName fetches.Constant old [] given new place = new ≡ old
HasFramesName fetches.Constant old (frame ∷ frames) given new place = HasUtf8 old (codes "StackMapTable") new place × (length new ≤ 65535)

-- the pool takes that name, and then the classes that the frames name
abbrev pub TakesFrames : Fetch → PoolValue → List TypeStateAt → (given : ℕ) → PoolValue → (place : ℕ) → Type 0
TakesFrames fetch old frames given new place =
    (named : PoolValue) × HasFramesName fetch old frames given named place × TakesClasses named (named_by_all frames) new

-- what it takes
abbrev pub frames_asked : Fetch → List TypeStateAt → List Content
frames_asked fetches.Member frames = frame_needs frames
frames_asked fetches.Constant frames = frames_needs frames ++ frame_needs frames

-- The pool takes what the frames ask for. The text is that of the Code attribute over it, and over each pool with these
-- classes at the same places and with the names of attributes at theirs.
pub record IsWrittenBody (old : PoolValue) (fetch : Fetch) (places : CodePlaces) (names : Names) (e : Emitted) (new : PoolValue)
    (text : List ℕ) : Type 0 where
  pub frames : ℕ
  pub takes : TakesFrames fetch old (written_frames names e) places.frames new frames
  pub text_is : (grown : PoolValue) → KeepsClasses new grown → AreNamed grown e places
      → text ≡ twin_code grown fetch places.giver places.array frames names e

-- the same of a work, whose code loads these constants
abbrev pub IsWrittenWork : PoolValue → ProbeConstants → CodePlaces → Names → (array : ℕ) → BodyWithStates → PoolValue → List ℕ → Type 0
IsWrittenWork old constants places names array w new text =
    IsWrittenBody old constants.fetch places names (emitted_of constants array w) new text

-- memory was refused, or the pool can't take what its frames ask for
abbrev pub RefusesWork : PoolValue → ProbeConstants → Names → (array : ℕ) → BodyWithStates → Fail PoolFull → Type 0
RefusesWork old constants names array w fail =
    RefusesEach old (frames_asked constants.fetch (written_frames names (emitted_of constants array w))) fail

-- ---- all bodies

abbrev pub ArePlannedWorks : (names others : Names) → ProbeConstants → (array : ℕ) → Option ClassFile → List PlannedBody → List BodyWithStates → Type 0
ArePlannedWorks names others constants array source planned works = AllZip (IsPlannedWork names others constants array source) planned works

abbrev pub AreWorksOf : (names others : Names) → PlannedBodies → (array : ℕ) → List BodyWithStates → Type 0
AreWorksOf names others all array works = ArePlannedWorks names others all.constants.now array all.source.now all.bodies works

-- memory was refused, or the pool can't take what the frames of all works ask for
abbrev pub RefusesWorks : PoolValue → ProbeConstants → Names → (array : ℕ) → List BodyWithStates → Fail PoolFull → Type 0
RefusesWorks old constants names array works fail = RefusesEach old (frames_asked constants.fetch (all_frames names constants array works)) fail

-- each name that the Code attributes need stands first at its place
abbrev pub AreAllNamed : PoolValue → ProbeConstants → (array : ℕ) → List BodyWithStates → CodePlaces → Type 0
AreAllNamed pool constants array works places = AllByRecursion (λ w. AreNamed pool (emitted_of constants array w) places) works

-- what the Code attribute of a work holds, over this pool
abbrev pub code_over : PoolValue → CodePlaces → (frames : ℕ) → Names → ProbeConstants → (array : ℕ) → BodyWithStates → List ℕ
code_over pool places frames names constants array w =
    twin_code pool constants.fetch places.giver places.array frames names (emitted_of constants array w)

-- The pool takes what the frames of all works ask for, and these are the methods with their code over it.
pub record ArePut (old : PoolValue) (places : CodePlaces) (names : Names) (constants : ProbeConstants) (array : ℕ) (works : List BodyWithStates)
    (methods : List Member) (new : PoolValue) (put : List Member) : Type 0 where
  pub frames : ℕ
  pub takes : TakesFrames constants.fetch old (all_frames names constants array works) places.frames new frames
  pub methods_are : AreAllNamed new constants array works places → put ≡ twin_methods old (code_over new places frames names constants array) works methods

-- ---- the class

-- the places, where the name of the attribute of frames stands at this one
abbrev pub with_frames_at : MemberPlaces → (place : ℕ) → MemberPlaces
with_frames_at p place = record p { frames = place }

-- what a class with these constants is written with
abbrev pub written_with : ProbeConstants → (bootstrap : ℕ) → EarlyPlaces → MemberPlaces → PoolValue → Writing
written_with constants bootstrap early places pool =
    record { fetch = constants.fetch; bootstrap = bootstrap; early = early; places = places; pool = pool }

-- the works of a class whose bodies are ready; there are so many probes
abbrev pub AreReadyWorks : (names others : Names) → ReadyClass → (array : ℕ) → Option ClassFile → List BodyWithStates → Type 0
AreReadyWorks names others r array source works =
    ArePlannedWorks names others r.constants array source r.bodies works × (r.probes ≡ all_probes (bodies_of works))

-- The class whose pool has taken what the added members need becomes the twin class of these works, whose code loads these constants:
-- the pool takes what their frames ask for, too.
pub record IsTwinFrom (c : ClassFile) (places : TwinPlaces) (r : ReadyClass) (names : Names) (array : ℕ) (works : List BodyWithStates)
    (twin : ClassFile) : Type 0 where
  pub pool : PoolValue
  pub frames : ℕ
  pub takes : TakesFrames r.constants.fetch c.pool (all_frames names r.constants array works) places.codes.frames pool frames
  pub is : (early : EarlyPlaces) → r.constants ≡ constants_at r.constants.fetch early → AreAllNamed pool r.constants array works places.codes
      → twin ≡ twin_class names array c works (written_with r.constants r.bootstrap early (with_frames_at places.members frames) pool)

-- memory was refused, or the pool of the class would be full
abbrev pub IsFullFor : (id : ℕ) → ClassFile → Fail PoolFull → Type 0
IsFullFor id c fails.Memory = ⊤
IsFullFor id c (fails.Said full) = NeedsTooMuch id c

-- the bytes are the text of a twin class that is written for the class with this id
pub record IsTwinText (id : ℕ) (c : ClassFile) (bytes : List ℕ) : Type 0 where
  pub twin : ClassFile
  pub written : IsWrittenFor id c twin
  pub text : ClassText bytes twin
  pub are_bytes : AreBytes bytes
