-- How ints are narrowed to the types of the language, as the code names it.
use Rattle.jc_bytes.specs.Descriptor.{FieldType, Byte, Char, Short, Boolean}
use Rattle.jc_machine_numbers.specs.declared.narrowing.Narrowing.{Narrowing}
use Rattle.jc_machine_numbers.specs.declared.narrowing.Narrowing.TheVariants.{ToBoolean, ToByte, ToChar, ToShort, Unchanged}

-- where values of the type are kept
abbrev pub narrowing_of : FieldType → Narrowing
narrowing_of Boolean = ToBoolean
narrowing_of Byte = ToByte
narrowing_of Char = ToChar
narrowing_of Short = ToShort
narrowing_of _ = Unchanged
