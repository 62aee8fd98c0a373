-- The step of an instruction, by what its use does.
use Rattle.std.proofs.Common.{◌≡◌, inl, inr, ℕ, Bool, true, false, ◌&&◌, List, [], ◌∷◌, length, map, Option, Some, None, option_map, if◌then◌else◌}
use Rattle.std.proofs.Common.{refl, ap, nat_eq, nat_le}
use Rattle.std.specs.Prelude.{codes, bytes_eq}
use Rattle.jc_methods.specs.Opcode as opcode
use Rattle.jc_methods.specs.declared.body.What.{What}
use Rattle.jc_methods.specs.declared.body.What.TheVariants as whats
use Rattle.jc_bytes.specs.Descriptor.{FieldType}
use Rattle.jc_methods.specs.DescriptorTypes.{field_type_in, method_type_in}
use Rattle.jc_methods.specs.EntryState.{held_of}
use Rattle.jc_methods.specs.VerificationTypes.{int, object}
use Rattle.jc_methods.specs.InsnUse.{IsOneSlotConstant, IsTwoSlotConstant, IsMemberFor, IsMethod, IsCall, IsClass}
use Rattle.jc_kinds_after.specs.declared.want.Want.{Want}
use Rattle.jc_kinds_after.specs.declared.want.Want.TheVariants as wants
use Rattle.jc_kinds_after.specs.Step.{Gives, Step, moves, makes, builds, fails}
use Rattle.jc_kinds_after.specs.Table.{form, turns}
use Rattle.jc_kinds_after.specs.After.{want_of, result_of, array_of, array_step, class_step, computed_step, constant_step, dynamic_step, field_step}
use Rattle.jc_kinds_after.specs.After.{interface_step, member_step, multi_step}
use Rattle.jc_kinds_after.specs.Does.{does_of, arrays_of, value_of}
use Rattle.jc_kinds_after.specs.Steps.{results, constant_by, static_by, object_by, member_by, array_by, class_by, multi_by}

results_are : (returns : Option FieldType) → results (option_map held_of returns) ≡ result_of returns
results_are None = refl
results_are (Some type) = refl

computed_is : (type : Option FieldType) → constant_by (value_of type) ≡ computed_step type
computed_is None = refl
computed_is (Some type) = refl

pub constant_is : (what : What) → IsOneSlotConstant what → constant_by (does_of what) ≡ constant_step (Some what)
constant_is (whats.Computed name desc bootstrap) fits = computed_is (field_type_in desc)
constant_is (whats.Field class name desc) fits = elim fits [ ]
constant_is _ fits = refl

pub wide_constant_is : (what : What) → IsTwoSlotConstant what → constant_by (does_of what) ≡ constant_step (Some what)
wide_constant_is (whats.Computed name desc bootstrap) fits = computed_is (field_type_in desc)
wide_constant_is (whats.Field class name desc) fits = elim fits [ ]
wide_constant_is _ fits = refl

pub object_is : (what : What) → IsMethod what → object_by (does_of what) ≡ interface_step (Some what)
object_is (whats.Method class name desc) fits =
    ap (λ (given : List Gives). moves (form (wants.Reference ∷ map want_of (method_type_in desc).parameters) given ∷ []))
    (results_are (method_type_in desc).returns)
object_is _ fits = elim fits [ ]

pub static_is : (what : What) → IsCall what → static_by (does_of what) ≡ dynamic_step (Some what)
static_is (whats.Call name desc) fits =
    ap (λ (given : List Gives). moves (form (map want_of (method_type_in desc).parameters) given ∷ [])) (results_are (method_type_in desc).returns)
static_is _ fits = elim fits [ ]

field_is : (op : ℕ) (type : Option FieldType) → member_by op (value_of type) ≡ (if nat_le op opcode.putfield then field_step op type else fails)
field_is op None = by (nat_le op opcode.putfield)
  where
    by : (b : Bool) → fails ≡ (if b then fails else fails)
    by true = refl
    by false = refl
field_is op (Some type) = refl

-- a call, by its results
called : ℕ → Bool → List Want → List Gives → Step
called op build wanted given =
    if nat_le op opcode.putfield then fails
    else if nat_eq op opcode.invokestatic then moves (form wanted given ∷ [])
    else if nat_eq op opcode.invokespecial && build then builds (form wanted given)
    else moves (form (wants.Reference ∷ wanted) given ∷ [])

pub member_is : (op : ℕ) (what : What) → IsMemberFor op what → member_by op (does_of what) ≡ member_step op (Some what)
unfolding called
member_is op (whats.Field class name desc) fits = field_is op (field_type_in desc)
member_is op (whats.Method class name desc) fits =
    ap (called op (bytes_eq name (codes "<init>")) (map want_of (method_type_in desc).parameters)) (results_are (method_type_in desc).returns)
member_is op _ (inl h) = elim h.1 [ ]
member_is op _ (inr h) = elim h.1 [ ]

array_is : (name : List ℕ) → array_by (arrays_of name) ≡ array_step name
array_is name = by (nat_le (length (array_of name)) 65535)
  where
    by : (b : Bool) → array_by (if b then Some (object (array_of name)) else None)
        ≡ (if b then moves (turns (wants.Int ∷ []) (object (array_of name))) else fails)
    by true = refl
    by false = refl

pub class_is : (op : ℕ) (what : What) → IsClass what → class_by op (does_of what) ≡ class_step op (Some what)
class_is op (whats.Class name) fits =
    ap (λ (st : Step). if nat_eq op opcode.new then makes else if nat_eq op opcode.anewarray then st else if nat_eq op opcode.checkcast then moves
    (turns (wants.Reference ∷ []) (object name)) else moves (turns (wants.Reference ∷ []) int)) (array_is name)
class_is op _ fits = elim fits [ ]

pub multi_is : (dims : ℕ) (what : What) → IsClass what → multi_by dims (does_of what) ≡ multi_step (Some what) dims
multi_is dims (whats.Class name) fits = refl
multi_is dims _ fits = elim fits [ ]
