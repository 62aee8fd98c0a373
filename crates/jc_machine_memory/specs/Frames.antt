-- A frame in its cells: the local variables, and behind them the operand stack from its bottom on.
use Rattle.std.specs.Prelude.{◌≡◌, ◌+◌, ◌≤◌, List, length, map, take, drop, reverse}
use Rattle.jc_region.specs.Memory.{Allocation, allocation_of}
use Rattle.jc_machine_model.specs.World as world
use Rattle.jc_machine_memory.specs.declared.frame.Frame.TheInside.{Inside}
use Rattle.jc_machine_memory.specs.declared.cell.Cell.{Cell}
use Rattle.jc_machine_memory.specs.Cells.{held, on_stack}

-- what the frame has, and the memory of its cells
pub record FrameSeen : Type 0 where
  pub content : world.Frame
  pub memory : Allocation

-- the cells of the stack, the top one first
abbrev pub stack_cells : Inside → List Cell
stack_cells f = reverse (take f.height (drop f.locals f.cells.items))

abbrev pub content_of : Inside → world.Frame
content_of f =
    record { method = f.method; place = f.place; locals = map held (take f.locals f.cells.items); stack = map on_stack (stack_cells f) }

abbrev pub frame_of : Inside → FrameSeen
frame_of f = record { content = content_of f; memory = allocation_of f.cells }

-- the cells are six more than the widest method has slots, and those of the frame are among them
pub record IsFrame (f : Inside) : Type 0 where
  pub cells : length f.cells.items ≡ 1010
  pub within : f.locals + f.height ≤ 1010
