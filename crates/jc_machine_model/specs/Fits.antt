-- The worlds of a program: what holds of the world in which a case begins, and stays true with each turn.
use Rattle.std.specs.Prelude.{◌≡◌, ◌≢◌, ⊤, ℕ, ◌+◌, ◌<◌, ◌≤◌, Bool, true, false, List, [], ◌∷◌, ◌++◌, length, reverse, Option, Some, None, IsTrue, slice_get, nat_eq, if◌then◌else◌}
use Rattle.std.specs.List.{AllByRecursion}
use Rattle.jc_bytes.specs.Descriptor.{FieldType}
use Rattle.jc_methods.specs.declared.insn.Insn.TheVariants as insns
use Rattle.jc_methods.specs.declared.body.What.TheVariants as whats
use Rattle.jc_methods.specs.VerificationTypes as verification
use Rattle.jc_methods.specs.Opcode as opcode
use Rattle.jc_methods.specs.declared.insn.Insn.{Insn}
use Rattle.jc_methods.specs.declared.body.Body.{Body}
use Rattle.jc_methods.specs.declared.body.What.{What}
use Rattle.jc_methods.specs.DescriptorTypes.{field_type_in, method_type_in}
use Rattle.jc_methods.specs.VerificationTypes.{VerificationType, TypeState}
use Rattle.jc_methods.specs.EntryState.{held_of}
use Rattle.jc_methods.specs.WellMade.{what_used}
use Rattle.jc_programs.specs.declared.program.Program.{Program}
use Rattle.jc_programs.specs.declared.program.Linked.{Linked}
use Rattle.jc_programs.specs.declared.program.StaticField.{StaticField}
use Rattle.jc_programs.specs.declared.program.ProbeInit.{ProbeInit}
use Rattle.jc_programs.specs.declared.run_end.Entry.{Entry}
use Rattle.jc_programs.specs.Members.{class_at, body_of, static_named}
use Rattle.jc_kinds_after.specs.After.{insn_at, new_class}
use Rattle.jc_kinds.specs.States.{state_of}
use Rattle.jc_machine_model.specs.Values.{Value, int, long, object, probes, text, ComputationalType, is_pair, is_reference, is_of, computational_type}
use Rattle.jc_machine_model.specs.Heap.{HeapObject}
use Rattle.jc_machine_model.specs.World.{Frame, Thread, running, stuck, Hit, World}
use Rattle.jc_machine_model.specs.Profile.{Location, has_constant, callee_named}
use Rattle.jc_machine_model.specs.Methods.{is_plain}
use Rattle.jc_machine_model.specs.Step.{LocatedInsn, located, is_init_method, counted_frames}

-- ---- typings

-- Which bodies have frames, and which references a type of references holds: in a heap, and in a body of which the `new` at a
-- place makes objects of the class of this name.
pub record Typing : Type 1 where
  pub enters : Linked → Body → Bool
  pub holds : List HeapObject → (ℕ → List ℕ) → Value → VerificationType → Type 0

-- the class of the objects that a body's `new` makes
abbrev pub made_in : Body → ℕ → List ℕ
made_in b at = new_class b.uses (insn_at b at)

-- no `new` makes anything
abbrev pub nothing_made : ℕ → List ℕ
nothing_made at = []

-- ---- values and verification types

abbrev pub IsInt : Value → Type 0
IsInt (int x) = ⊤
IsInt _ = ⊥

abbrev pub IsLong : Value → Type 0
IsLong (long x) = ⊤
IsLong _ = ⊥

abbrev pub IsReference : Value → Type 0
IsReference v = IsTrue (is_reference v)

-- The value is of the verification type (JVM Specification 4.10.1.2), where `R` says which references a type of references
-- holds. The machine has no floats and no doubles.
abbrev pub IsOfBy : (Value → VerificationType → Type 0) → Value → VerificationType → Type 0
IsOfBy R v verification.top = ⊤
IsOfBy R v verification.int = IsInt v
IsOfBy R v verification.long = IsLong v
IsOfBy R v verification.float = ⊥
IsOfBy R v verification.double = ⊥
IsOfBy R v verification.null = R v verification.null
IsOfBy R v verification.uninit_this = R v verification.uninit_this
IsOfBy R v (verification.object name) = R v (verification.object name)
IsOfBy R v (verification.uninit at) = R v (verification.uninit at)

-- the value in a slot: anything, or nothing, for `top`
abbrev pub IsInSlotBy : (Value → VerificationType → Type 0) → Option Value → VerificationType → Type 0
IsInSlotBy R local verification.top = ⊤
IsInSlotBy R None h = ⊥
IsInSlotBy R (Some v) h = IsOfBy R v h

abbrev pub AreInSlotsBy : (Value → VerificationType → Type 0) → List (Option Value) → List VerificationType → Type 0
AreInSlotsBy R [] [] = ⊤
AreInSlotsBy R (local ∷ locals) (h ∷ types) = IsInSlotBy R local h × AreInSlotsBy R locals types
AreInSlotsBy R _ _ = ⊥

abbrev pub AreOfBy : (Value → VerificationType → Type 0) → List Value → List VerificationType → Type 0
AreOfBy R [] [] = ⊤
AreOfBy R (v ∷ values) (h ∷ types) = IsOfBy R v h × AreOfBy R values types
AreOfBy R _ _ = ⊥

-- a stack, the top value first, against types of which the top one is the last
abbrev pub IsStackBy : (Value → VerificationType → Type 0) → List Value → List VerificationType → Type 0
IsStackBy R stack types = AreOfBy R stack (reverse types)

-- any reference will do
abbrev pub any_reference : Value → VerificationType → Type 0
any_reference v h = IsReference v

abbrev pub IsOfVerificationType : Value → VerificationType → Type 0
IsOfVerificationType v h = IsOfBy any_reference v h

abbrev pub IsInSlot : Option Value → VerificationType → Type 0
IsInSlot local h = IsInSlotBy any_reference local h

abbrev pub AreInSlots : List (Option Value) → List VerificationType → Type 0
AreInSlots locals types = AreInSlotsBy any_reference locals types

abbrev pub AreOfVerificationTypes : List Value → List VerificationType → Type 0
AreOfVerificationTypes values types = AreOfBy any_reference values types

abbrev pub IsStack : List Value → List VerificationType → Type 0
IsStack stack types = IsStackBy any_reference stack types

-- ---- references

-- so many probes of a class
abbrev pub HasProbes : Option Linked → ℕ → Type 0
HasProbes None count = ⊥
HasProbes (Some c) count = (init : ProbeInit) × (c.probes ≡ Some init) × (init.count ≡ count)

-- a probe of a class
abbrev pub HasProbe : Option Linked → ℕ → Type 0
HasProbe None id = ⊥
HasProbe (Some c) id = (init : ProbeInit) × (c.probes ≡ Some init) × (id < init.count)

abbrev pub IsProbe : Program → Hit → Type 0
IsProbe program hit = HasProbe (class_at program hit.class) hit.id

-- a class that asks for its probes with a text
abbrev pub HasText : Option Linked → Type 0
HasText None = ⊥
HasText (Some c) = c.probes ≢ None

-- a reference is to what the world or the program has
abbrev pub IsThere : Program → List HeapObject → Value → Type 0
IsThere program heap (object k) = k < length heap
IsThere program heap (probes class count) = HasProbes (class_at program class) count
IsThere program heap (text class) = HasText (class_at program class)
IsThere program heap _ = ⊤

abbrev pub IsThereInSlot : Program → List HeapObject → Option Value → Type 0
IsThereInSlot program heap None = ⊤
IsThereInSlot program heap (Some v) = IsThere program heap v

pub record AreThereIn (program : Program) (heap : List HeapObject) (f : Frame) : Type 0 where
  pub locals : AllByRecursion (IsThereInSlot program heap) f.locals
  pub stack : AllByRecursion (IsThere program heap) f.stack

-- ---- static fields

-- of a type of which the machine has values, a value of the type's kind
abbrev pub IsOfType : Option FieldType → Option Value → Type 0
IsOfType None v = ⊤
IsOfType (Some type) None = ⊥
IsOfType (Some type) (Some v) = (computational : ComputationalType) → computational_type type ≡ Some computational → IsTrue (is_of computational v)

-- The first field of its name and descriptor, which an instruction may read, has such a value.
abbrev pub IsFieldRight : Linked → List Value → ℕ → StaticField → Type 0
IsFieldRight c values k f = static_named c.statics f.name f.desc ≡ Some k → IsOfType (field_type_in f.desc) (slice_get values k)

pub record AreClassStaticsBy (R : Value → VerificationType → Type 0) (c : Linked) (values : List Value) : Type 0 where
  -- one value for each field
  pub count : length values ≡ length c.statics
  pub right : (k : ℕ) (f : StaticField) → slice_get c.statics k ≡ Some f → IsFieldRight c values k f
  -- a reference is of the field's type
  pub held : (k : ℕ) (f : StaticField) (type : FieldType) (v : Value) → slice_get c.statics k ≡ Some f → static_named c.statics f.name f.desc ≡ Some k
      → field_type_in f.desc ≡ Some type → slice_get values k ≡ Some v → IsReference v → R v (held_of type)

abbrev pub AreStaticsBy : (Value → VerificationType → Type 0) → List Linked → List (List Value) → Type 0
AreStaticsBy R [] [] = ⊤
AreStaticsBy R (c ∷ classes) (values ∷ statics) = AreClassStaticsBy R c values × AreStaticsBy R classes statics
AreStaticsBy R _ _ = ⊥

abbrev pub AreClassStatics : Linked → List Value → Type 0
AreClassStatics c values = AreClassStaticsBy any_reference c values

abbrev pub AreStatics : List Linked → List (List Value) → Type 0
AreStatics classes statics = AreStaticsBy any_reference classes statics

-- ---- frames

-- behind each long in a local variable stands an empty one, which the long takes too (JVM Specification 2.6.1)
abbrev pub KeepsPairs : List (Option Value) → Type 0
KeepsPairs locals = (k : ℕ) (v : Value) → slice_get locals k ≡ Some (Some v) → is_pair v ≡ true → slice_get locals (k + 1) ≡ Some None

-- The frame is of a body that has frames, and stands at an instruction of it, before which the state is this.
pub record StandsInBy (enters : Linked → Body → Bool) (program : Program) (f : Frame) (s : TypeState) : Type 0 where
  pub linked : Linked
  pub class_is : class_at program f.method.class ≡ Some linked
  pub body : Body
  pub body_is : slice_get linked.bodies f.method.method ≡ Some body
  pub entered : IsTrue (enters linked body)
  pub within : f.place < length body.code
  pub state_is : state_of program.names body f.place ≡ Some s

-- the values of the frame on top are of the types of the state before its instruction
pub record FitsTopBy (enters : Linked → Body → Bool) (H : (ℕ → List ℕ) → Value → VerificationType → Type 0) (program : Program) (f : Frame) : Type 0 where
  pub state : TypeState
  pub stands : StandsInBy enters program f state
  pub locals : AreInSlotsBy (H (made_in stands.body)) f.locals state.locals
  pub pairs : KeepsPairs f.locals
  pub stack : IsStackBy (H (made_in stands.body)) f.stack state.stack

-- the method that invokestatic names
abbrev pub named_by : Program → Option What → Option Entry
named_by program (Some (whats.Method class name desc)) = callee_named program class name desc
named_by program _ = None

abbrev pub called_by : Program → Location → Insn → Option Entry
called_by program at (insns.Member op place) = if nat_eq op opcode.invokestatic then named_by program (what_used at.body.uses place) else None
called_by program at insn = None

-- The frame stands at a call of the method.
pub record StandsAtCall (program : Program) (f : Frame) (callee : Entry) : Type 0 where
  pub insn : LocatedInsn
  pub stands : located program f.method f.place ≡ Some insn
  pub calls : called_by program insn.at insn.insn ≡ Some callee

-- how many arguments a method takes
abbrev pub parameter_count : Option Body → ℕ
parameter_count None = 0
parameter_count (Some b) = length (method_type_in b.desc).parameters

-- A waiting frame stands at a call of the method of the frame above it, and has given away that call's arguments: the
-- values that it has left are of the types of the rest of the state.
pub record FitsWaitingBy (enters : Linked → Body → Bool) (H : (ℕ → List ℕ) → Value → VerificationType → Type 0) (program : Program) (f : Frame) (callee : Entry) : Type 0 where
  pub state : TypeState
  pub stands : StandsInBy enters program f state
  pub at_call : StandsAtCall program f callee
  -- no frame of `$jacocoInit` waits
  pub no_init : is_init_method program f.method ≡ false
  -- that method is called by instruction 0 of methods of its class alone
  pub below_init : is_init_method program callee ≡ true → (f.place ≡ 0) × (f.method.class ≡ callee.class)
  -- and of no class that gets its array by a constant
  pub below_member : is_init_method program callee ≡ true → has_constant stands.linked ≡ false
  pub locals : AreInSlotsBy (H (made_in stands.body)) f.locals state.locals
  pub pairs : KeepsPairs f.locals
  pub left : List VerificationType
  pub given : List VerificationType
  pub parts : state.stack ≡ left ++ given
  pub count : length given ≡ parameter_count (body_of program callee)
  pub stack : IsStackBy (H (made_in stands.body)) f.stack left

-- the frames that wait, the first of them for this method
abbrev pub FitEachWaitingBy : (Linked → Body → Bool) → ((ℕ → List ℕ) → Value → VerificationType → Type 0) → Program → Entry → List Frame → Type 0
FitEachWaitingBy enters H program callee [] = ⊤
FitEachWaitingBy enters H program callee (f ∷ waiting) = FitsWaitingBy enters H program f callee × FitEachWaitingBy enters H program f.method waiting

-- 1 to 128 frames of methods not named `$jacocoInit`, and at most one of that name, on top
pub record FitsRunningBy (T : Typing) (program : Program) (heap : List HeapObject) (f : Frame) (waiting : List Frame) : Type 0 where
  pub some : 1 ≤ counted_frames program (f ∷ waiting)
  pub few : counted_frames program (f ∷ waiting) ≤ 128
  pub top : FitsTopBy T.enters (T.holds heap) program f
  pub below : FitEachWaitingBy T.enters (T.holds heap) program f.method waiting
  pub there : AllByRecursion (AreThereIn program heap) (f ∷ waiting)

-- the place is one of a body of the program
pub record IsPlace (program : Program) (method : Entry) (place : ℕ) : Type 0 where
  pub body : Body
  pub body_is : body_of program method ≡ Some body
  pub within : place < length body.code

-- a stuck thread keeps where it stood
abbrev pub FitsThreadBy : Typing → Program → List HeapObject → Thread → Type 0
FitsThreadBy T program heap (running f waiting) = FitsRunningBy T program heap f waiting
FitsThreadBy T program heap (stuck method place) = IsPlace program method place
FitsThreadBy T program heap _ = ⊤

-- ---- the world

pub record FitsWorldBy (T : Typing) (program : Program) (w : World) : Type 0 where
  pub statics : AreStaticsBy (T.holds w.shared.heap nothing_made) program.classes w.shared.statics
  pub threads : AllByRecursion (FitsThreadBy T program w.shared.heap) w.threads
  pub there : AllByRecursion (AllByRecursion (IsThere program w.shared.heap)) w.shared.statics

-- ---- plain bodies and any reference

-- the bodies that the profile lets a thread enter, or would if they weren't synchronized, and any reference
abbrev pub plainly : Typing
plainly = record { enters = is_plain; holds = λ heap made. any_reference }

abbrev pub StandsIn : Program → Frame → TypeState → Type 0
StandsIn program f s = StandsInBy is_plain program f s

abbrev pub FitsTop : Program → Frame → Type 0
FitsTop program f = FitsTopBy is_plain (λ made. any_reference) program f

abbrev pub FitsWaiting : Program → Frame → Entry → Type 0
FitsWaiting program f callee = FitsWaitingBy is_plain (λ made. any_reference) program f callee

abbrev pub FitEachWaiting : Program → Entry → List Frame → Type 0
FitEachWaiting program callee waiting = FitEachWaitingBy is_plain (λ made. any_reference) program callee waiting

abbrev pub FitsRunning : Program → List HeapObject → Frame → List Frame → Type 0
FitsRunning program heap f waiting = FitsRunningBy plainly program heap f waiting

abbrev pub FitsThread : Program → List HeapObject → Thread → Type 0
FitsThread program heap thread = FitsThreadBy plainly program heap thread

abbrev pub FitsWorld : Program → World → Type 0
FitsWorld program w = FitsWorldBy plainly program w
