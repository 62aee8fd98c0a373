-- Why there is no room in a class for its probes.
use Rattle.std.specs.Prelude.{◌≡◌, ◌⊎◌, ℕ, ◌+◌, ◌<◌, List, [], ◌∷◌, ◌++◌, length, Some, slice_get}
use Rattle.jc_methods.specs.ProbeMembers.{fetch_of, most_probes}
use Rattle.jc_methods.specs.VerificationTypes.{Names}
use Rattle.jc_methods.specs.declared.body.Body.{Body}
use Rattle.jc_methods.specs.declared.probe_members.Fetch.{Fetch}
use Rattle.jc_methods.specs.declared.probe_members.Fetch.TheVariants as fetches
use Rattle.jc_bytes.specs.declared.refusal.Refusal.{Refusal}
use Rattle.jc_bytes.specs.declared.refusal.RefusalKind.TheVariants as kinds
use Rattle.jc_class.specs.declared.class_file.ClassFile.{ClassFile}
use Rattle.jc_bootstraps.specs.Bootstraps.{bootstrap_bodies}
use Rattle.jc_plan.specs.Probed.{first_id}
use Rattle.jc_emit.specs.Straddling.{IsFirstStraddling}
use Rattle.jc_layout.specs.Layout.{chosen_length}
use Rattle.jc_plan.specs.Analysed.{all_probes}
use Rattle.jc_instrument.specs.Bodies.{AreBodiesOf}
use Rattle.jc_instrument.specs.Causes.{Cause, of_class, InMethod}
use Rattle.jc_instrument.specs.Constants.{AreConstants, probed_code}
use Rattle.jc_instrument.specs.Bootstraps.{TakesNoBootstrap}
use Rattle.jc_instrument.specs.Reasons.{OfBody}
use Rattle.jc_instrument.specs.BodiesWithStates.{BodyWithStates}
use Rattle.jc_instrument.specs.TwinText.{IsReadyFor, Writing}
use Rattle.jc_instrument.specs.declared.constants.ProbeConstants.{ProbeConstants}

-- ---- the probe array, and the probes

-- a long or a double has one half in the last local variable of the arguments
abbrev pub StraddlesArguments : ClassFile → ℕ → ℕ → Type 0
StraddlesArguments c = OfBody c (λ names body place. IsFirstStraddling body (Some place))

abbrev pub HasStraddling : ClassFile → Cause
HasStraddling c = InMethod kinds.StraddlingLocal (StraddlesArguments c)

-- more probes than a class has at most
pub record HasTooManyProbes (c : ClassFile) (r : Refusal) : Type 0 where
  pub bodies : List Body
  pub are : AreBodiesOf c bodies
  pub many : most_probes < all_probes bodies
  pub refusal : r ≡ of_class kinds.TooManyProbes (all_probes bodies)

-- ---- the added members, and room in methods

-- no number is left for one more method or, where one is added, for one more field (JVM Specification 4.1)
abbrev pub IsFull : Fetch → ClassFile → Type 0
IsFull fetches.Member c = (length c.fields ≡ 65535) ⊎ (length c.methods ≡ 65535)
IsFull fetches.Constant c = length c.methods ≡ 65535

pub record HasFullMembers (c : ClassFile) (r : Refusal) : Type 0 where
  pub full : IsFull (fetch_of c.major) c
  pub refusal : r ≡ of_class kinds.MembersFull 65536

-- no bootstrap method can be added, of a class whose methods load a constant (JVM Specification 4.7.23)
pub record HasBadBootstraps (c : ClassFile) (r : Refusal) : Type 0 where
  pub by_constant : fetch_of c.major ≡ fetches.Constant
  pub place : ℕ
  pub none : TakesNoBootstrap c.pool (length c.attributes) (bootstrap_bodies c.pool c.attributes) place
  pub refusal : r ≡ of_class kinds.BadBootstraps place

-- no number is left for one more local variable (JVM Specification 4.7.3)
abbrev pub FillsLocals : ClassFile → ℕ → ℕ → Type 0
FillsLocals c = OfBody c (λ names body place. (body.max_locals ≡ 65535) × (place ≡ 65536))

abbrev pub HasFullLocals : ClassFile → Cause
HasFullLocals c = InMethod kinds.LocalsFull (FillsLocals c)

-- there is no room on the stack for the three operands of a probe (JVM Specification 4.7.3)
abbrev pub FillsStack : ClassFile → ℕ → ℕ → Type 0
FillsStack c = OfBody c (λ names body place. (65532 < body.max_stack) × (place ≡ body.max_stack + 3))

abbrev pub HasFullStack : ClassFile → Cause
HasFullStack c = InMethod kinds.StackFull (FillsStack c)

-- ---- code that is too large

-- the layout that is chosen for the instrumented code of the method with this number has so many bytes, more than 65,535
pub record IsTooLarge (c : ClassFile) (number place : ℕ) : Type 0 where
  pub bodies : List Body
  pub are : AreBodiesOf c bodies
  pub bootstrap : ℕ
  pub constants : ProbeConstants
  pub loads : AreConstants c (all_probes bodies) bootstrap constants
  pub index : ℕ
  pub body : Body
  pub stands : slice_get bodies index ≡ Some body
  pub number_is : body.method ≡ number
  pub size : place ≡ chosen_length (probed_code constants body (first_id bodies index))
  pub large : 65535 < place

abbrev pub HasTooLargeCode : ClassFile → Cause
HasTooLargeCode c = InMethod kinds.CodeTooLarge (IsTooLarge c)

-- ---- the constant pool

-- the pool with what a class with this id needs would have a count above 65,535 (JVM Specification 4.1)
pub record NeedsTooMuch (id : ℕ) (c : ClassFile) : Type 0 where
  pub names : Names
  pub array : ℕ
  pub works : List BodyWithStates
  pub with : Writing
  pub ready : IsReadyFor id names array works c with
  pub many : 65535 < length with.pool

pub record HasFullPool (id : ℕ) (c : ClassFile) (r : Refusal) : Type 0 where
  pub full : NeedsTooMuch id c
  pub refusal : r ≡ of_class kinds.PoolFull 65536

-- ---- their order

-- those that are looked for before code is made
abbrev pub early_room_causes : ClassFile → List Cause
early_room_causes c =
    HasStraddling c
    ∷ HasTooManyProbes c
    ∷ HasFullMembers c
    ∷ HasBadBootstraps c
    ∷ HasFullLocals c
    ∷ HasFullStack c
    ∷ []

-- that of the pool comes last
abbrev pub room_causes : (id : ℕ) → ClassFile → List Cause
room_causes id c = early_room_causes c ++ (HasTooLargeCode c ∷ HasFullPool id c ∷ [])
