-- The parameters of a method, as the code has them.
use Rattle.std.specs.Prelude.{◌≡◌, ℕ, ◌+◌, Bool, false, List, [], ◌∷◌, Option, Some, map, slice_set}
use Rattle.std.specs.Option.{option_map}
use Rattle.jc_bytes.specs.Descriptor.{FieldType}
use Rattle.jc_machine_model.specs.Values.{Value, ComputationalType, is_of, computational_type}
use Rattle.jc_machine_code.specs.declared.operation.ComputationalType.{ComputationalType as Kind}
use Rattle.jc_machine_code.specs.Types.{computational}

-- the computational type of each; a float or a double has none here
abbrev pub AreParameters : List FieldType → List (Option Kind) → Type 0
AreParameters types parameters = map (option_map computational) parameters ≡ map computational_type types

-- the operand, if there is one, may stand where one of the type is expected
abbrev pub is_argument : Option Value → Option ComputationalType → Bool
is_argument (Some v) (Some computational) = is_of computational v
is_argument _ _ = false

-- these in the slots from one on, as far as there are slots
abbrev pub with_slots : List (Option Value) → ℕ → List (Option Value) → List (Option Value)
with_slots locals from [] = locals
with_slots locals from (x ∷ xs) = with_slots (slice_set locals from x) (from + 1) xs
