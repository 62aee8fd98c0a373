-- What instructions need, on types as they are kept.
use Rattle.std.specs.Prelude.{◌≡◌, ⊤, ℕ, Bool, true, false, ◌&&◌, List, [], ◌∷◌, length, Option, Some, None, codes, bytes_eq, slice_get}
use Rattle.std.specs.List.{list_all}
use Rattle.jc_bytes.specs.Descriptor.{FieldType, DescribesField}
use Rattle.jc_methods.specs.declared.body.Body.{Body}
use Rattle.jc_methods.specs.EntryState.{held_of}
use Rattle.jc_methods.specs.VerificationTypes.{Names, VerificationType, verification_type, object, IsNumbered, TypeState, Grows}
use Rattle.jc_programs.specs.declared.program.Program.{Program}
use Rattle.jc_programs.specs.declared.program.Linked.{Linked}
use Rattle.jc_programs.specs.declared.program.StaticField.{StaticField}
use Rattle.jc_programs.specs.declared.run_end.Thrown.{Thrown}
use Rattle.jc_programs.specs.Members.{class_at}
use Rattle.jc_programs.specs.Throwables.{name_of}
use Rattle.jc_machine_model.specs.Programs.{IsProgram}
use Rattle.jc_machine_model.specs.Profile.{made_class}
use Rattle.jc_machine_code.specs.declared.operation.Operation.{Operation}
use Rattle.jc_machine_code.specs.declared.operation.Operation.TheVariants as shown
use Rattle.jc_machine_code.specs.declared.operation.ElementTypes.{ElementTypes}
use Rattle.jc_machine_code.specs.declared.operation.ElementTypes.TheVariants as elements
use Rattle.jc_machine_code.specs.declared.operation.PrimitiveType.{PrimitiveType}
use Rattle.jc_machine_code.specs.declared.operation.PrimitiveType.TheVariants as primitives
use Rattle.jc_machine_code.specs.Types.{element_types}
use Rattle.jc_machine_code.specs.Prepared.{IsPrepared}
use Rattle.jc_refs_check.specs.declared.operands.Need.{Need as KeptNeed}
use Rattle.jc_refs_check.specs.declared.operands.Need.TheVariants as kept
use Rattle.jc_refs_check.specs.declared.operands.NeededAt.{NeededAt}
use Rattle.jc_refs_check.specs.declared.operands.CheckedMethod.{CheckedMethod}
use Rattle.jc_refs_check.specs.Suits.{object_class, class_suits}
use Rattle.jc_refs_check.specs.Needs.{Need, no_class, any_class, is_array_of, is_any_array, is_throwable, need_held}
use Rattle.jc_refs_check.specs.RefsOk.{is_taken, operand}
use Rattle.jc_refs_check.specs.HeldTypes.{AreTypes}

-- ---- what is kept as a value of a type

abbrev pub held_takes : VerificationType → List ℕ → Bool
held_takes (object other) name = class_suits name other
held_takes h name = true

abbrev pub held_takes_fresh : VerificationType → Bool
held_takes_fresh (object other) = bytes_eq other object_class
held_takes_fresh h = true

-- ---- needs

-- the classes that will do
abbrev pub need_takes : Names → KeptNeed → List ℕ → Bool
need_takes names (kept.Array elements) = is_array_of (element_types elements)
need_takes names kept.AnyArray = is_any_array
need_takes names kept.Throwable = is_throwable
need_takes names kept.PrintStream = bytes_eq (codes "java/io/PrintStream")
need_takes names kept.Text = λ name. class_suits name (codes "java/lang/String")
need_takes names (kept.Held want) = held_takes (verification_type names want)
need_takes names (kept.Built c) = bytes_eq (name_of c)

-- those of an object whose constructor wasn't called
abbrev pub need_takes_fresh : Names → KeptNeed → List ℕ → Bool
need_takes_fresh names (kept.Array elements) = no_class
need_takes_fresh names kept.AnyArray = no_class
need_takes_fresh names kept.Throwable = any_class
need_takes_fresh names kept.PrintStream = no_class
need_takes_fresh names kept.Text = no_class
need_takes_fresh names (kept.Held want) = λ name. held_takes_fresh (verification_type names want)
need_takes_fresh names (kept.Built c) = bytes_eq (name_of c)

abbrev pub need_of_kept : Names → ℕ → KeptNeed → Need
need_of_kept names above need = record { above = above; takes = need_takes names need; fresh = need_takes_fresh names need }

abbrev pub needs_of_kept : Names → Option NeededAt → List Need
needs_of_kept names None = []
needs_of_kept names (Some n) = need_of_kept names n.above n.need ∷ []

-- the number of a class in it is one of so many
abbrev pub IsNumberedNeed : ℕ → KeptNeed → Type 0
IsNumberedNeed count (kept.Held want) = IsNumbered count want
IsNumberedNeed count need = ⊤

-- there are objects of the class of throwables
unfoldable pub IsMadeClass : Thrown → Type 0
IsMadeClass c = made_class (name_of c) ≡ Some c

-- there are objects of a class whose constructor is called
abbrev pub IsMadeNeed : KeptNeed → Type 0
IsMadeNeed (kept.Built c) = IsMadeClass c
IsMadeNeed need = ⊤

-- what an instruction takes hangs on descriptors
abbrev pub is_by_descriptor : Operation → Bool
is_by_descriptor (shown.Puts class field kind narrowing) = true
is_by_descriptor (shown.Invokes callee) = true
is_by_descriptor (shown.Returns kind narrowing) = true
is_by_descriptor operation = false

-- the constructor is of a class of which there are objects
abbrev pub IsMadeOperation : Operation → Type 0
IsMadeOperation (shown.Builds c) = IsMadeClass c
IsMadeOperation operation = ⊤

abbrev pub is_element : ElementTypes → PrimitiveType → Bool
is_element elements.Int primitives.Int = true
is_element elements.Long primitives.Long = true
is_element elements.ByteOrBoolean primitives.Byte = true
is_element elements.ByteOrBoolean primitives.Boolean = true
is_element elements.Char primitives.Char = true
is_element elements.Short primitives.Short = true
is_element elements element = false

-- ---- needs as tests

-- the operand is what is needed
abbrev pub takes_at : Body → TypeState → Need → Bool
takes_at b s n = is_taken b n (operand n.above s.stack)

abbrev pub takes_all : Body → TypeState → List Need → Bool
takes_all b s needs = list_all (takes_at b s) needs

-- what is kept as values of these types, the last of which is the top operand
abbrev pub held_need : ℕ → VerificationType → Need
held_need above h = record { above = above; takes = held_takes h; fresh = λ name. held_takes_fresh h }

abbrev pub all_held : Body → TypeState → List VerificationType → Bool
all_held b s [] = true
all_held b s (h ∷ hs) = takes_at b s (held_need (length hs) h) && all_held b s hs

-- what a method returns that returns something
abbrev pub returned_needs : Option FieldType → List Need
returned_needs None = []
returned_needs (Some type) = need_held 0 (held_of type)

-- a static field of the type that its descriptor describes
pub record IsFieldOf (program : Program) (class field : ℕ) (type : FieldType) : Type 0 where
  pub linked : Linked
  pub class_is : class_at program class ≡ Some linked
  pub static : StaticField
  pub static_is : slice_get linked.statics field ≡ Some static
  pub described : DescribesField static.desc type

-- ---- a method that is checked

-- it is one of the program, whose instructions and types are at hand
pub record IsCheckedMethod (names : Names) (m : CheckedMethod) : Type 0 where
  pub program : IsProgram m.program.now
  pub operations : IsPrepared m.program.now m.operations.now
  pub types : AreTypes names m.program.now m.types.now
  pub linked : Linked
  pub class_is : class_at m.program.now m.method.class ≡ Some linked
  pub body_is : slice_get linked.bodies m.method.method ≡ Some m.body.now
  pub grown : Grows m.program.now.names names
