-- The operands on top of a stack, as the code sees them.
use Rattle.std.specs.Prelude.{Option, Some, None}
use Rattle.jc_machine_model.specs.Values.{Value}
use Rattle.jc_machine_numbers.specs.declared.operand.Operand.{Operand}
use Rattle.jc_machine_numbers.specs.declared.operand.Operand.TheVariants as operands
use Rattle.jc_machine_numbers.specs.Operands.{operand_of}

abbrev pub operand_at : Option Value → Operand
operand_at None = operands.Absent
operand_at (Some v) = operand_of v
