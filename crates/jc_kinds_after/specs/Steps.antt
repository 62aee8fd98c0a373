-- What an instruction does to types, by what its use does: the same steps as in the table, as they are kept.
use Rattle.std.specs.Prelude.{◌≢◌, ⊤, ℕ, ◌<◌, Bool, false, ◌&&◌, List, [], ◌∷◌, drop, replicate, Option, Some, None, option_map, nat_eq, nat_le, if◌then◌else◌}
use Rattle.jc_methods.specs.Opcode as opcode
use Rattle.jc_methods.specs.declared.insn.Insn.{Insn}
use Rattle.jc_methods.specs.declared.insn.Insn.TheVariants as insns
use Rattle.jc_methods.specs.VerificationTypes.{Names, VerificationType, int, verification_type}
use Rattle.jc_kinds_after.specs.declared.want.Want.{Want}
use Rattle.jc_kinds_after.specs.declared.want.Want.TheVariants as wants
use Rattle.jc_kinds_after.specs.declared.step.Step.{Step as KeptStep}
use Rattle.jc_kinds_after.specs.declared.step.Step.TheVariants as steps
use Rattle.jc_kinds_after.specs.Step.{Gives, kind, Step, moves, loads, stores, counts, makes, builds, fails}
use Rattle.jc_kinds_after.specs.Table.{form, gives, takes, turns, forms_at}
use Rattle.jc_kinds_after.specs.Does.{Does, value, call, of_class}

-- ---- steps as they are kept

abbrev pub results : Option VerificationType → List Gives
results None = []
results (Some h) = kind h ∷ []

abbrev pub step_in : Names → KeptStep → Step
step_in names (steps.Opcode op) = moves (forms_at op)
step_in names (steps.Push k) = moves (gives (verification_type names k))
step_in names (steps.Take want) = moves (takes (want ∷ []))
step_in names (steps.Put want) = moves (takes (wants.Target ∷ want ∷ []))
step_in names (steps.Turn want k) = moves (turns (want ∷ []) (verification_type names k))
step_in names (steps.Dimensions count k) = moves (turns (replicate count wants.Int) (verification_type names k))
step_in names (steps.Call wanted result) = moves (form wanted.now (results (option_map (verification_type names) result)) ∷ [])
step_in names (steps.Load slot want) = loads slot want
step_in names (steps.Store slot want) = stores slot want
step_in names (steps.Count slot) = counts slot
step_in names steps.Make = makes
step_in names (steps.Build wanted result) = builds (form wanted.now (results (option_map (verification_type names) result)))
step_in names steps.Fail = fails

-- ---- by what a use does

abbrev pub constant_by : Does → Step
constant_by (value want h) = moves (gives h)
constant_by (of_class itself array constant) = moves (gives constant)
constant_by _ = fails

abbrev pub static_by : Does → Step
static_by (call wanted result build) = moves (form (drop 1 wanted) (results result) ∷ [])
static_by _ = fails

abbrev pub object_by : Does → Step
object_by (call wanted result build) = moves (form wanted (results result) ∷ [])
object_by _ = fails

abbrev pub field_by : ℕ → Want → VerificationType → Step
field_by op want h =
    if nat_eq op opcode.getstatic then moves (gives h)
    else if nat_eq op opcode.putstatic then moves (takes (want ∷ []))
    else if nat_eq op opcode.getfield then moves (turns (wants.Reference ∷ []) h)
    else moves (takes (wants.Target ∷ want ∷ []))

abbrev pub method_by : ℕ → List Want → Option VerificationType → Bool → Step
method_by op wanted result build =
    if nat_eq op opcode.invokestatic then moves (form (drop 1 wanted) (results result) ∷ [])
    else if nat_eq op opcode.invokespecial && build then builds (form (drop 1 wanted) (results result))
    else moves (form wanted (results result) ∷ [])

abbrev pub member_by : ℕ → Does → Step
member_by op (value want h) = if nat_le op opcode.putfield then field_by op want h else fails
member_by op (call wanted result build) = if nat_le op opcode.putfield then fails else method_by op wanted result build
member_by op _ = fails

abbrev pub array_by : Option VerificationType → Step
array_by None = fails
array_by (Some h) = moves (turns (wants.Int ∷ []) h)

abbrev pub class_by : ℕ → Does → Step
class_by op (of_class itself array constant) =
    if nat_eq op opcode.new then makes
    else if nat_eq op opcode.anewarray then array_by array
    else if nat_eq op opcode.checkcast then moves (turns (wants.Reference ∷ []) itself)
    else moves (turns (wants.Reference ∷ []) int)
class_by op _ = fails

abbrev pub multi_by : ℕ → Does → Step
multi_by count (of_class itself array constant) = moves (turns (replicate count wants.Int) itself)
multi_by count _ = fails

-- ---- instructions that number a class when they are reached

abbrev pub NumbersNothing : Insn → Type 0
NumbersNothing (insns.Simple op) = op ≢ opcode.aaload
NumbersNothing (insns.NewArray elem) = ⊥
NumbersNothing insn = ⊤

abbrev pub is_picking : Insn → Bool
is_picking (insns.Simple op) = nat_eq op opcode.aaload
is_picking insn = false

-- the local variable is one of so many
abbrev pub HasLocal : ℕ → KeptStep → Type 0
HasLocal count (steps.Load slot want) = slot < count
HasLocal count (steps.Store slot want) = slot < count
HasLocal count (steps.Count slot) = slot < count
HasLocal count st = ⊤
