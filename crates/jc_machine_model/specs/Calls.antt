-- Calls and returns (JVM Specification 2.6.4, 2.11.8; 6.5, invokestatic, ireturn, lreturn, areturn).
use Rattle.std.specs.Prelude.{ℕ, ◌-◌, List, [], ◌∷◌, ◌++◌, length, replicate, Option, Some, None, if◌then◌else◌}
use Rattle.jc_bytes.specs.Descriptor.{FieldType}
use Rattle.jc_programs.specs.declared.run_end.Entry.{Entry}
use Rattle.jc_machine_model.specs.Values.{Value, ComputationalType, is_of, is_pair, stored_as}
use Rattle.jc_machine_model.specs.World.{Frame}
use Rattle.jc_machine_model.specs.Results.{Result, calls, leaves, gets_stuck}
use Rattle.jc_machine_model.specs.Statics.{is_of_type}

-- ---- calls

-- the operands for these parameters, the last of which stands on top, and what stands below them
pub record Arguments : Type 0 where
  pub values : List Value
  pub rest : List Value

-- one argument more, in front of these
abbrev pub argument_before : FieldType → Option Arguments → Option Arguments
argument_before type None = None
argument_before type (Some a) =
    elim a.rest [ [] ↦ None | v ∷ rest ↦ if is_of_type type v then Some (record { values = v ∷ a.values; rest = rest }) else None ]

-- The operands are taken from the top, for the last parameter first. The values stand in the order of the parameters.
abbrev pub taken_for : List FieldType → List Value → Option Arguments
taken_for [] stack = Some (record { values = []; rest = stack })
taken_for (type ∷ types) stack = argument_before type (taken_for types stack)

-- a value in its slots (JVM Specification 2.6.1)
abbrev pub spread_value : Value → List (Option Value)
spread_value v = if is_pair v then Some v ∷ None ∷ [] else Some v ∷ []

abbrev pub spread_values : List Value → List (Option Value)
spread_values [] = []
spread_values (v ∷ values) = spread_value v ++ spread_values values

-- the arguments in their slots, and nothing in the rest
abbrev pub locals_for : ℕ → List Value → List (Option Value)
locals_for max_locals values = spread_values values ++ replicate (max_locals - length (spread_values values)) None

-- the frame that waits stands at its call and has given the arguments away
abbrev pub by_call : Entry → ℕ → Option Arguments → Frame → Result
by_call callee max_locals None f = gets_stuck
by_call callee max_locals (Some a) f = calls callee (locals_for max_locals a.values) (record f { stack = a.rest })

-- ---- returns

-- an int as the type that the method returns has it
abbrev pub returned_as : Option FieldType → Value → Value
returned_as None v = v
returned_as (Some type) v = stored_as type v

-- the top value is returned, if it is of the type
abbrev pub by_return : ComputationalType → Option FieldType → List Value → Result
by_return computational type [] = gets_stuck
by_return computational type (v ∷ stack) = if is_of computational v then leaves (Some (returned_as type v)) else gets_stuck
