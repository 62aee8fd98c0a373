-- The types of the machine, as the code names them.
use Rattle.std.specs.Prelude.{◌≡◌, List, [], ◌∷◌, Option, Some, None}
use Rattle.jc_bytes.specs.Descriptor.{FieldType}
use Rattle.jc_bytes.specs.Descriptor as types
use Rattle.jc_methods.specs.declared.value_type.ValueType.{ValueType}
use Rattle.jc_methods.specs.declared.value_type.ValueType.TheVariants as given
use Rattle.jc_machine_model.specs.Values as values
use Rattle.jc_machine_model.specs.Operations as operations
use Rattle.jc_machine_numbers.specs.declared.narrowing.Narrowing.{Narrowing}
use Rattle.jc_machine_numbers.specs.declared.narrowing.Narrowing.TheVariants as narrowings
use Rattle.jc_machine_numbers.specs.Narrowings.{narrowing_of}
use Rattle.jc_machine_code.specs.declared.operation.ComputationalType.{ComputationalType}
use Rattle.jc_machine_code.specs.declared.operation.ComputationalType.TheVariants as kinds
use Rattle.jc_machine_code.specs.declared.operation.PrimitiveType.{PrimitiveType}
use Rattle.jc_machine_code.specs.declared.operation.PrimitiveType.TheVariants as primitives
use Rattle.jc_machine_code.specs.declared.operation.ElementTypes.{ElementTypes}
use Rattle.jc_machine_code.specs.declared.operation.ElementTypes.TheVariants as elements
use Rattle.jc_machine_code.specs.declared.operation.Printed.{Printed}
use Rattle.jc_machine_code.specs.declared.operation.Printed.TheVariants as lines

abbrev pub computational : ComputationalType → values.ComputationalType
computational kinds.Int = values.int_type
computational kinds.Long = values.long_type
computational kinds.Reference = values.reference_type

abbrev pub primitive : PrimitiveType → FieldType
primitive primitives.Boolean = types.Boolean
primitive primitives.Byte = types.Byte
primitive primitives.Char = types.Char
primitive primitives.Short = types.Short
primitive primitives.Int = types.Int
primitive primitives.Long = types.Long

-- iaload, laload, baload, caload, saload, and the stores of the same types
abbrev pub element_types : ElementTypes → List FieldType
element_types elements.Int = types.Int ∷ []
element_types elements.Long = types.Long ∷ []
element_types elements.ByteOrBoolean = types.Byte ∷ types.Boolean ∷ []
element_types elements.Char = types.Char ∷ []
element_types elements.Short = types.Short ∷ []

abbrev pub printed : Printed → operations.Printed
printed lines.IntLine = operations.an_int_line
printed lines.LongLine = operations.a_long_line
printed lines.BooleanLine = operations.a_boolean_line
printed lines.EmptyLine = operations.an_empty_line

-- how an int is narrowed that a method returns
abbrev pub return_narrowing : Option FieldType → Narrowing
return_narrowing None = narrowings.Unchanged
return_narrowing (Some type) = narrowing_of type

-- what the machine keeps of a type that is read from a descriptor
abbrev pub stored_of : ValueType → Option (ComputationalType × Narrowing)
stored_of given.Boolean = Some (kinds.Int, narrowings.ToBoolean)
stored_of given.Byte = Some (kinds.Int, narrowings.ToByte)
stored_of given.Char = Some (kinds.Int, narrowings.ToChar)
stored_of given.Short = Some (kinds.Int, narrowings.ToShort)
stored_of given.Int = Some (kinds.Int, narrowings.Unchanged)
stored_of given.Long = Some (kinds.Long, narrowings.Unchanged)
stored_of (given.Object name) = Some (kinds.Reference, narrowings.Unchanged)
stored_of (given.Array desc) = Some (kinds.Reference, narrowings.Unchanged)
stored_of given.Float = None
stored_of given.Double = None

-- the values of the type are of the kind, and an int among them is narrowed so; or the machine has none
abbrev pub IsStoredAs : FieldType → Option (ComputationalType × Narrowing) → Type 0
IsStoredAs type None = values.computational_type type ≡ None
IsStoredAs type (Some s) = (values.computational_type type ≡ Some (computational s.0)) × (narrowing_of type ≡ s.1)
