-- The static fields of integral types (JVM Specification 2.3.1) of a program, in the order of classes and fields.
use Rattle.std.specs.Prelude.{ℕ, ◌+◌, Bool, true, false, ◌&&◌, ◌||◌, not, nat_eq, List, [], ◌∷◌, ◌++◌, Option, Some, None, if◌then◌else◌}
use Rattle.jc_bytes.specs.Descriptor.{FieldType, Double, Float, Object, Array}
use Rattle.jc_methods.specs.DescriptorTypes.{base_type, field_type_in}
use Rattle.jc_programs.specs.declared.program.Program.{Program}
use Rattle.jc_programs.specs.declared.program.Linked.{Linked}
use Rattle.jc_programs.specs.declared.program.StaticField.{StaticField}
use Rattle.jc_machine.specs.declared.integral_fields.IntegralField.{IntegralField}

-- a boolean, byte, char, short, int or long
abbrev pub is_integral : Option FieldType → Bool
is_integral None = false
is_integral (Some Float) = false
is_integral (Some Double) = false
is_integral (Some (Object name)) = false
is_integral (Some (Array component)) = false
is_integral (Some type) = true

-- the letter alone describes such a type, as descriptors are read
abbrev pub is_integral_letter : ℕ → Bool
is_integral_letter b = not (nat_eq b 91 || (nat_eq b 76 || nat_eq b 41)) && is_integral (Some (base_type b))

-- the field, if it is of such a type
abbrev pub field_if : ℕ → ℕ → StaticField → List IntegralField
field_if class field f = if is_integral (field_type_in f.desc) then record { class = class; field = field } ∷ [] else []

-- those of a class, from a field on
abbrev pub fields_from : ℕ → ℕ → List StaticField → List IntegralField
fields_from class field [] = []
fields_from class field (f ∷ fields) = field_if class field f ++ fields_from class (field + 1) fields

-- those of classes, from one on
abbrev pub classes_from : ℕ → List Linked → List IntegralField
classes_from class [] = []
classes_from class (c ∷ classes) = fields_from class 0 c.statics ++ classes_from (class + 1) classes

abbrev pub integral_fields : Program → List IntegralField
integral_fields program = classes_from 0 program.classes
