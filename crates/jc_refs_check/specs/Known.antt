-- What the name of a class tells of the class.
use Rattle.std.specs.Prelude.{List, ℕ, Some, None, codes, bytes_eq, if◌then◌else◌}
use Rattle.jc_programs.specs.Throwables.{thrown_named}
use Rattle.jc_machine_code.specs.declared.operation.PrimitiveType.TheVariants as primitives
use Rattle.jc_refs_check.specs.declared.known.Known.{Known}
use Rattle.jc_refs_check.specs.declared.known.Known.TheVariants as known
use Rattle.jc_refs_check.specs.Suits.{object_class}

-- the class of arrays with this descriptor (JVM Specification 4.3.2)
abbrev pub known_array : List ℕ → Known
known_array desc =
    if bytes_eq desc (codes "[Z") then known.Array primitives.Boolean
    else if bytes_eq desc (codes "[B") then known.Array primitives.Byte
    else if bytes_eq desc (codes "[C") then known.Array primitives.Char
    else if bytes_eq desc (codes "[S") then known.Array primitives.Short
    else if bytes_eq desc (codes "[I") then known.Array primitives.Int
    else if bytes_eq desc (codes "[J") then known.Array primitives.Long
    else known.Other

-- a class that is no throwable of the machine's
abbrev pub known_other : List ℕ → Known
known_other name =
    if bytes_eq name object_class then known.Object
    else if bytes_eq name (codes "java/io/PrintStream") then known.PrintStream
    else if bytes_eq name (codes "java/lang/String") then known.Text
    else known_array name

unfoldable pub known_by : List ℕ → Known
known_by name = elim (thrown_named name) [ Some c ↦ known.Throwable c | None ↦ known_other name ]
