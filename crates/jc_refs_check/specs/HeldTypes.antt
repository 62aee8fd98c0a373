-- The types of the members of a program's classes, with classes by their numbers.
use Rattle.std.specs.Prelude.{◌≡◌, ⊤, ℕ, Bool, List, [], ◌∷◌, length, map, Option, Some, None, is_some, option_map, option_and_then, slice_get}
use Rattle.std.specs.List.{AllByRecursion}
use Rattle.jc_methods.specs.declared.kind.Kind.{Kind}
use Rattle.jc_methods.specs.declared.body.Body.{Body}
use Rattle.jc_methods.specs.DescriptorTypes.{method_type_in}
use Rattle.jc_methods.specs.EntryState.{held_of}
use Rattle.jc_bytes.specs.Descriptor.{FieldType, DescribesField}
use Rattle.jc_methods.specs.VerificationTypes.{Names, VerificationType, verification_type, IsNumbered}
use Rattle.jc_programs.specs.declared.program.Program.{Program}
use Rattle.jc_programs.specs.declared.program.Linked.{Linked}
use Rattle.jc_programs.specs.declared.program.StaticField.{StaticField}
use Rattle.jc_programs.specs.declared.run_end.Entry.{Entry}
use Rattle.jc_programs.specs.Members.{class_at, body_of}
use Rattle.jc_refs_check.specs.declared.members.ProgramTypes.{ProgramTypes}
use Rattle.jc_refs_check.specs.declared.members.Signature.{Signature}
use Rattle.jc_refs_check.specs.declared.members.MemberTypes.{MemberTypes}

-- the verification types of the parameters and of the result of a method, by its descriptor (JVM Specification 4.3.3)
pub record HeldTypes : Type 0 where
  pub parameters : List VerificationType
  pub returns : Option VerificationType

abbrev pub held_types : Body → HeldTypes
held_types b = record { parameters = map held_of (method_type_in b.desc).parameters; returns = option_map held_of (method_type_in b.desc).returns }

-- the same, as they are kept
abbrev pub said_types : Names → Signature → HeldTypes
said_types names s = record { parameters = map (verification_type names) s.parameters; returns = option_map (verification_type names) s.returns }

-- the number of each class is one of so many
abbrev pub IsNumberedResult : ℕ → Option Kind → Type 0
IsNumberedResult count None = ⊤
IsNumberedResult count (Some kind) = IsNumbered count kind

pub record IsNumberedSignature (count : ℕ) (s : Signature) : Type 0 where
  pub parameters : AllByRecursion (IsNumbered count) s.parameters
  pub returns : IsNumberedResult count s.returns

-- it says the types of the method
pub record IsSignatureOf (names : Names) (b : Body) (s : Signature) : Type 0 where
  pub says : said_types names s ≡ held_types b
  pub numbered : IsNumberedSignature (length names) s

-- it says the type of the field, where the field's descriptor describes one (JVM Specification 4.3.2)
pub record IsTypeOf (names : Names) (f : StaticField) (kind : Kind) : Type 0 where
  pub says : (type : FieldType) → DescribesField f.desc type → verification_type names kind ≡ held_of type
  pub numbered : IsNumbered (length names) kind

-- one for each, in order
abbrev pub EachSays : {X Y : Type 0} → (X → Y → Type 0) → List X → List Y → Type 0
EachSays R [] [] = ⊤
EachSays R (x ∷ xs) (y ∷ ys) = R x y × EachSays R xs ys
EachSays R _ _ = ⊥

pub record AreTypesOf (names : Names) (c : Linked) (m : MemberTypes) : Type 0 where
  pub methods : EachSays (IsSignatureOf names) c.bodies m.methods
  pub statics : EachSays (IsTypeOf names) c.statics m.statics

-- ---- by number

-- a method of the program, whose types it says
pub record SaysMethod (names : Names) (program : Program) (method : Entry) (s : Signature) : Type 0 where
  pub body : Body
  pub body_is : body_of program method ≡ Some body
  pub says : IsSignatureOf names body s

-- a static field of the program, whose type it says
pub record SaysField (names : Names) (program : Program) (class field : ℕ) (kind : Kind) : Type 0 where
  pub linked : Linked
  pub class_is : class_at program class ≡ Some linked
  pub static : StaticField
  pub static_is : slice_get linked.statics field ≡ Some static
  pub says : IsTypeOf names static kind

-- the program has no such field
abbrev pub has_field : Program → (class field : ℕ) → Bool
has_field program class field = is_some (option_and_then (λ (c : Linked). slice_get c.statics field) (class_at program class))

abbrev pub AreTypes : Names → Program → ProgramTypes → Type 0
AreTypes names program types = EachSays (AreTypesOf names) program.classes types.classes
