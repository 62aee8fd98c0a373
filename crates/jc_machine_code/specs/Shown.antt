-- Which operation of the machine the code shows.
use Rattle.std.specs.Prelude.{◌≡◌, ℕ, ℤ, List, Option, Some}
use Rattle.jc_bytes.specs.Descriptor.{FieldType}
use Rattle.jc_methods.specs.declared.insn.Arm.{Arm}
use Rattle.jc_machine_model.specs.Values as values
use Rattle.jc_machine_model.specs.Operations as operations
use Rattle.jc_machine_numbers.specs.Narrowings.{narrowing_of}
use Rattle.jc_machine_code.specs.declared.operation.Operation.{Operation}
use Rattle.jc_machine_code.specs.declared.operation.Operation.TheVariants as shown
use Rattle.jc_machine_code.specs.Types.{computational, primitive, element_types, printed, return_narrowing}

-- The code's operation is this one of the machine. The arms of a switch, the parameters of a callee and the types of
-- fields and results, but for what their values are, stand in the program.
abbrev pub Shows : Operation → operations.Operation → Type 0
Shows (shown.PushInt x) d = d ≡ operations.pushes (values.int x)
Shows (shown.PushLong x) d = d ≡ operations.pushes (values.long x)
Shows shown.PushPrintStream d = d ≡ operations.pushes values.print_stream
Shows (shown.PushText class) d = d ≡ operations.pushes (values.text class)
Shows (shown.PushProbes class count) d = d ≡ operations.pushes (values.probes class count)
Shows (shown.Computes op) d = d ≡ operations.computes op
Shows (shown.Loads kind slot) d = d ≡ operations.loads (computational kind) slot
Shows (shown.Stores kind slot) d = d ≡ operations.stores (computational kind) slot
Shows (shown.Counts slot by) d = d ≡ operations.counts slot by
Shows (shown.Tests op to) d = d ≡ operations.tests op to
Shows (shown.Jumps to) d = d ≡ operations.jumps to
Shows shown.Indexes d = (low : ℤ) × (default : ℕ) × (arms : List ℕ) × (d ≡ operations.indexes low default arms)
Shows shown.Matches d = (default : ℕ) × (arms : List Arm) × (d ≡ operations.matches default arms)
Shows (shown.Reads elements) d = d ≡ operations.reads (element_types elements)
Shows (shown.Writes elements) d = d ≡ operations.writes (element_types elements)
Shows (shown.MakesArray element) d = d ≡ operations.makes_array (primitive element)
Shows shown.Measures d = d ≡ operations.measures
Shows (shown.Gets class field) d = (type : FieldType) × (d ≡ operations.gets (record { class = class; field = field }) type)
Shows (shown.Puts class field kind narrowing) d =
    (type : FieldType) × (d ≡ operations.puts (record { class = class; field = field }) type)
    × (values.computational_type type ≡ Some (computational kind)) × (narrowing_of type ≡ narrowing)
Shows (shown.Invokes callee) d = (parameters : List FieldType) × (max_locals : ℕ) × (d ≡ operations.invokes callee parameters max_locals)
Shows (shown.Makes c) d = d ≡ operations.makes c
Shows (shown.Builds c) d = d ≡ operations.builds c
Shows (shown.Prints line) d = d ≡ operations.prints (printed line)
Shows (shown.Fetches class init) d = d ≡ operations.fetches class init
Shows (shown.Casts class) d = d ≡ operations.casts class
Shows (shown.Returns kind narrowing) d =
    (type : Option FieldType) × (d ≡ operations.returns (computational kind) type) × (return_narrowing type ≡ narrowing)
Shows shown.ReturnsNothing d = d ≡ operations.returns_nothing
Shows shown.ThrowsTop d = d ≡ operations.throws_top
Shows shown.Outside d = d ≡ operations.outside
