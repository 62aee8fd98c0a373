-- Values as the machine keeps them.
use Rattle.jc_machine_memory.specs.declared.value.Value as kept
use Rattle.jc_machine_memory.specs.declared.value.Value.TheVariants as kepts
use Rattle.jc_machine_model.specs.Values.{Value, int, long, null, object, memory_error, print_stream, probes, text}

abbrev pub value_of : kept.Value → Value
value_of (kepts.Int x) = int x
value_of (kepts.Long x) = long x
value_of kepts.Null = null
value_of (kepts.Object k) = object k
value_of kepts.MemoryError = memory_error
value_of kepts.PrintStream = print_stream
value_of (kepts.Probes class count) = probes class count
value_of (kepts.Text class) = text class
