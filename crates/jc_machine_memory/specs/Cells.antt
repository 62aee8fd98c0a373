-- The values in the cells of a frame.
use Rattle.std.specs.Prelude.{Option, Some, None}
use Rattle.jc_machine_memory.specs.declared.cell.Cell.{Cell}
use Rattle.jc_machine_memory.specs.declared.cell.Cell.TheVariants as cells
use Rattle.jc_machine_model.specs.Values.{Value, int, long, null, object, memory_error, print_stream, probes, text}

-- in a cell of the operand stack, each of which has a value
abbrev pub on_stack : Cell → Value
on_stack cells.Empty = null
on_stack (cells.Int x) = int x
on_stack (cells.Long x) = long x
on_stack cells.Null = null
on_stack (cells.Object k) = object k
on_stack cells.MemoryError = memory_error
on_stack cells.PrintStream = print_stream
on_stack (cells.Probes class count) = probes class count
on_stack (cells.Text class) = text class

-- in the cell of a local variable, if a value begins there
abbrev pub held : Cell → Option Value
held cells.Empty = None
held cell = Some (on_stack cell)
