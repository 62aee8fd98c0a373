-- Static fields (JVM Specification 6.5, getstatic and putstatic).
use Rattle.std.specs.Prelude.{Bool, false, List, [], ◌∷◌, Option, Some, None, slice_get, slice_set, slice_index_or, if◌then◌else◌}
use Rattle.jc_bytes.specs.Descriptor.{FieldType}
use Rattle.jc_machine_model.specs.Values.{Value, is_of, computational_type, stored_as}
use Rattle.jc_machine_model.specs.World.{Frame, Shared}
use Rattle.jc_machine_model.specs.Operations.{FieldAt}
use Rattle.jc_machine_model.specs.Results.{Result, goes_with, gets_stuck}

-- the value of a static field
abbrev pub static_at : List (List Value) → FieldAt → Option Value
static_at statics at = slice_get (slice_index_or statics at.class []) at.field

-- the static fields, with this value in one of them
abbrev pub with_static : List (List Value) → FieldAt → Value → List (List Value)
with_static statics at v = slice_set statics at.class (slice_set (slice_index_or statics at.class []) at.field v)

-- it is pushed
abbrev pub by_get : Option Value → Shared → Frame → Result
by_get None s f = gets_stuck
by_get (Some v) s f = goes_with s f (v ∷ f.stack)

-- the value may stand where one of the type is expected
abbrev pub is_of_type : FieldType → Value → Bool
is_of_type type v = elim (computational_type type) [ None ↦ false | Some computational ↦ is_of computational v ]

-- the top value is stored, an int as the field's type has it
abbrev pub by_put : FieldAt → FieldType → List Value → Shared → Frame → Result
by_put at type [] s f = gets_stuck
by_put at type (v ∷ stack) s f =
    if is_of_type type v then goes_with (record s { statics = with_static s.statics at (stored_as type v) }) f stack else gets_stuck
