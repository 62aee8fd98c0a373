-- What one thing that a body uses does to types, read once and kept under numbers of class names.
use Rattle.std.specs.Prelude.{◌≡◌, ⊤, ℕ, ◌++◌, Bool, false, List, ◌∷◌, length, map, Option, Some, None, option_map, nat_le, codes, bytes_eq, nat_eq}
use Rattle.std.specs.Prelude.{if◌then◌else◌}
use Rattle.std.specs.HashMap.{HashMap, get}
use Rattle.jc_methods.specs.declared.body.Use.{Use}
use Rattle.jc_methods.specs.declared.body.What.{What}
use Rattle.jc_methods.specs.declared.body.What.TheVariants as whats
use Rattle.jc_bytes.specs.Descriptor.{FieldType, MethodType, IsFieldDescriptor, IsMethodDescriptor}
use Rattle.jc_methods.specs.DescriptorTypes.{field_type_in, method_type_in}
use Rattle.jc_methods.specs.EntryState.{held_of}
use Rattle.jc_methods.specs.WellMade.{what_used}
use Rattle.jc_methods.specs.VerificationTypes.{Names, VerificationType, int, float, double, long, object, verification_type}
use Rattle.jc_kinds_after.specs.declared.want.Want.{Want}
use Rattle.jc_kinds_after.specs.declared.want.Want.TheVariants as wants
use Rattle.jc_kinds_after.specs.declared.effect.Effect.{Effect}
use Rattle.jc_kinds_after.specs.declared.effect.Effect.TheVariants as effects
use Rattle.jc_kinds_after.specs.After.{want_of, array_of}

-- ---- one use

-- what a use does to types: a value of a type with the operand for it, a call on an object with its arguments and
-- result, which is a constructor's or not, or a class with its arrays and its constant
pub data Does : Type 0 where
  nothing : Does
  value : Want → VerificationType → Does
  call : List Want → Option VerificationType → Bool → Does
  of_class : VerificationType → Option VerificationType → VerificationType → Does

abbrev pub value_of : Option FieldType → Does
value_of None = nothing
value_of (Some type) = value (want_of type) (held_of type)

abbrev pub call_of : Bool → MethodType → Does
call_of builds type = call (wants.Reference ∷ map want_of type.parameters) (option_map held_of type.returns) builds

-- no Class entry can have a longer name
abbrev pub arrays_of : List ℕ → Option VerificationType
arrays_of name = if nat_le (length (array_of name)) 65535 then Some (object (array_of name)) else None

abbrev pub does_of : What → Does
does_of (whats.Field class name desc) = value_of (field_type_in desc)
does_of (whats.Method class name desc) = call_of (bytes_eq name (codes "<init>")) (method_type_in desc)
does_of (whats.Call name desc) = call_of false (method_type_in desc)
does_of (whats.Class name) = of_class (object name) (arrays_of name) (object (codes "java/lang/Class"))
does_of (whats.Int n) = value wants.Int int
does_of (whats.Long n) = value wants.Long long
does_of whats.Float = value wants.Float float
does_of whats.Double = value wants.Double double
does_of whats.Text = value wants.Reference (object (codes "java/lang/String"))
does_of whats.Handle = value wants.Reference (object (codes "java/lang/invoke/MethodHandle"))
does_of whats.MethodKind = value wants.Reference (object (codes "java/lang/invoke/MethodType"))
does_of (whats.Computed name desc bootstrap) = value_of (field_type_in desc)

-- each descriptor is one of its kind
abbrev pub IsDescribed : What → Type 0
IsDescribed (whats.Field class name desc) = IsFieldDescriptor desc
IsDescribed (whats.Method class name desc) = IsMethodDescriptor desc
IsDescribed (whats.Call name desc) = IsMethodDescriptor desc
IsDescribed (whats.Computed name desc bootstrap) = IsFieldDescriptor desc
IsDescribed what = ⊤

-- ---- the same, as it is kept

abbrev pub does : Names → Effect → Does
does names effects.Nothing = nothing
does names (effects.Value want kind) = value want (verification_type names kind)
does names (effects.Call wanted result builds) = call wanted (option_map (verification_type names) result) builds
does names (effects.Class itself array constant) =
    of_class (verification_type names itself) (option_map (verification_type names) array) (verification_type names constant)

-- under these names, and when more were numbered
abbrev pub Says : Names → What → Effect → Type 0
Says names what effect = (more : Names) → IsDescribed what → does (names ++ more) effect ≡ does_of what

-- the same of what stands at a place, or nothing where nothing does
abbrev pub SaysThere : Names → Option What → Option Effect → Type 0
SaysThere names None None = ⊤
SaysThere names (Some what) (Some effect) = Says names what effect
SaysThere names _ _ = ⊥

-- by place, whatever the order of the entries is
pub record AllSay {S : Type 0} (names : Names) (uses : List Use) (effects : HashMap ℕ Effect S) : Type 0 where
  pub there : (place : ℕ) → SaysThere names (what_used uses place) (get nat_eq effects place)
