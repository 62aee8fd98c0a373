-- What is asked of a typing, so that each turn keeps worlds fitting by it.
use Rattle.std.specs.Prelude.{◌≡◌, ℕ, true, List, [], ◌∷◌, ◌++◌, length, ℤ, Some, IsTrue, slice_get, codes}
use Rattle.jc_bytes.specs.Descriptor.{FieldType}
use Rattle.jc_methods.specs.EntryState.{held_of}
use Rattle.jc_methods.specs.declared.body.Body.{Body}
use Rattle.jc_methods.specs.declared.body.Handler.{Handler}
use Rattle.jc_methods.specs.VerificationTypes.{VerificationType, TypeState}
use Rattle.jc_methods.specs.VerificationTypes as verification
use Rattle.jc_methods.specs.ProbeMembers.{data_type}
use Rattle.jc_programs.specs.declared.program.Program.{Program}
use Rattle.jc_programs.specs.declared.program.Linked.{Linked}
use Rattle.jc_programs.specs.declared.run_end.Entry.{Entry}
use Rattle.jc_programs.specs.declared.run_end.Thrown.{Thrown}
use Rattle.jc_programs.specs.Members.{class_at}
use Rattle.jc_kinds_after.specs.Step.{upper}
use Rattle.jc_kinds_after.specs.Wants.{is_anything, accepts}
use Rattle.jc_kinds_after.specs.After.{want_of, element_letter}
use Rattle.jc_kinds.specs.Fits.{Fits}
use Rattle.jc_kinds.specs.States.{state_of}
use Rattle.jc_kinds.specs.Checked.{caught}
use Rattle.jc_machine_model.specs.Methods.{is_plain, is_enterable}
use Rattle.jc_machine_model.specs.Values.{Value, null, object, print_stream, probes, text}
use Rattle.jc_machine_model.specs.Heap.{HeapObject, array, throwable}
use Rattle.jc_machine_model.specs.Operations.{Operation, puts, invokes, returns, makes_array}
use Rattle.jc_machine_model.specs.Profile.{made_class, array_operation}
use Rattle.jc_machine_model.specs.Objects.{thrown_of}
use Rattle.jc_machine_model.specs.Step.{located, operation_at, catches}
use Rattle.jc_machine_model.specs.Fits.{Typing, IsReference, IsOfBy}
use Rattle.jc_kinds.specs.Flows.{FlowsBy}

-- ---- heaps

abbrev pub IsOfSameClass : HeapObject → HeapObject → Type 0
IsOfSameClass (array a elements) (array b others) = a ≡ b
IsOfSameClass (throwable c) (throwable d) = c ≡ d
IsOfSameClass _ _ = ⊥

-- each object of the heap is in the other one, with its number and its class
abbrev pub KeepsObjects : List HeapObject → List HeapObject → Type 0
KeepsObjects heap more = (k : ℕ) (x : HeapObject) → slice_get heap k ≡ Some x → (y : HeapObject) × (slice_get more k ≡ Some y) × IsOfSameClass x y

-- ---- operands

-- the types for which an instruction takes operands that are kept: in a static field, as arguments, or as what is returned
abbrev pub kept_types : Operation → List FieldType
kept_types (puts at type) = type ∷ []
kept_types (invokes callee parameters max_locals) = parameters
kept_types (returns computational (Some type)) = type ∷ []
kept_types _ = []

-- The operands on top, the last of which is the top one, stand in the relation to these types, if they are of their kinds.
abbrev pub TakesBy : (VerificationType → VerificationType → Type 0) → List FieldType → List VerificationType → Type 0
TakesBy S types stack = (i : ℕ) (type : FieldType) (h : VerificationType) → slice_get types i ≡ Some type
    → slice_get (upper (length types) stack) i ≡ Some h → accepts (want_of type) h ≡ true → S h (held_of type)

-- a body of a class of the program
pub record IsBodyOf (program : Program) (method : Entry) (c : Linked) (b : Body) : Type 0 where
  pub class_is : class_at program method.class ≡ Some c
  pub body_is : slice_get c.bodies method.method ≡ Some b

-- ---- what is asked of a program

-- The bodies that have frames by the typing flow along the relation `S` of types, and so do the operands that are kept.
pub record IsFlowing (T : Typing) (S : VerificationType → VerificationType → Type 0) (program : Program) : Type 0 where
  pub fits : (h k : VerificationType) → S h k → Fits h k
  pub plain : (c : Linked) (b : Body) → IsTrue (T.enters c b) → IsTrue (is_plain c b)
  pub enterable : (c : Linked) (b : Body) → IsTrue (is_enterable c b) → IsTrue (T.enters c b)
  pub flows : (method : Entry) (c : Linked) (b : Body) → IsBodyOf program method c b → IsTrue (T.enters c b) → FlowsBy S program.names b
  pub operands : (method : Entry) (c : Linked) (b : Body) (i : ℕ) (s : TypeState) → IsBodyOf program method c b → IsTrue (T.enters c b)
      → state_of program.names b i ≡ Some s → TakesBy S (kept_types (operation_at program (located program method i))) s.stack

-- ---- what is asked of the typing

-- A reference is of each type where an instruction makes it, and stays so where it goes along the relation.
pub record IsHolding (T : Typing) (S : VerificationType → VerificationType → Type 0) : Type 0 where
  -- no other values are held
  pub reference : (heap : List HeapObject) (made : ℕ → List ℕ) (v : Value) (h : VerificationType) → T.holds heap made v h → IsReference v
  -- it goes where its type does
  pub on : (heap : List HeapObject) (made : ℕ → List ℕ) (v : Value) (h k : VerificationType) → is_anything h ≡ true → T.holds heap made v h → S h k
      → IsOfBy (T.holds heap made) v k
  -- a field's type is the same in each body
  pub anywhere : (heap : List HeapObject) (made others : ℕ → List ℕ) (type : FieldType) (v : Value)
      → T.holds heap made v (held_of type) → T.holds heap others v (held_of type)
  -- a heap that has more holds no less
  pub grows : (heap more : List HeapObject) (made : ℕ → List ℕ) (v : Value) (h : VerificationType) → KeepsObjects heap more
      → T.holds heap made v h → T.holds more made v h
  -- where a constructor was called
  pub built : (heap : List HeapObject) (made : ℕ → List ℕ) (v : Value) (at : ℕ)
      → T.holds heap made v (verification.uninit at) → T.holds heap made v (verification.object (made at))
  pub built_this : (heap : List HeapObject) (made : ℕ → List ℕ) (v : Value) (name : List ℕ)
      → T.holds heap made v verification.uninit_this → T.holds heap made v (verification.object name)
  -- null, of its own type and of each class
  pub null_is : (heap : List HeapObject) (made : ℕ → List ℕ) → T.holds heap made null verification.null
  pub null_held : (heap : List HeapObject) (made : ℕ → List ℕ) (name : List ℕ) → T.holds heap made null (verification.object name)
  -- the print stream, a text, and the probe array of a class, as what it is and as the constant that gives it
  pub stream : (heap : List HeapObject) (made : ℕ → List ℕ) → T.holds heap made print_stream (verification.object (codes "java/io/PrintStream"))
  pub of_text : (heap : List HeapObject) (made : ℕ → List ℕ) (class : ℕ) → T.holds heap made (text class) (verification.object (codes "java/lang/String"))
  pub of_probes : (heap : List HeapObject) (made : ℕ → List ℕ) (class count : ℕ) → T.holds heap made (probes class count) (verification.object data_type)
  pub of_constant : (heap : List HeapObject) (made : ℕ → List ℕ) (class count : ℕ)
      → T.holds heap made (probes class count) (verification.object (codes "java/lang/Object"))
  -- new objects
  pub new_array : (heap : List HeapObject) (made : ℕ → List ℕ) (code : ℕ) (element : FieldType) (elements : List ℤ)
      → array_operation code ≡ makes_array element
      → T.holds (heap ++ array element elements ∷ []) made (object (length heap)) (verification.object (91 ∷ element_letter code ∷ []))
  pub new_throwable : (heap : List HeapObject) (made : ℕ → List ℕ) (at : ℕ) (c : Thrown) → made_class (made at) ≡ Some c
      → T.holds (heap ++ throwable c ∷ []) made (object (length heap)) (verification.uninit at)
  -- a throwable at the handler of a row that catches it
  pub caught_is : (heap : List HeapObject) (made : ℕ → List ℕ) (b : Body) (row : Handler) (c : Thrown) (v : Value) → thrown_of heap v ≡ Some c
      → IsTrue (catches b row c) → T.holds heap made v (caught b row)
