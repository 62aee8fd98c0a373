-- How large the frames of a thread are.
use Rattle.std.specs.Prelude.{◌+◌, ◌^◌, ◌≤◌, ◌<◌, List, length}
use Rattle.std.specs.List.{AllByRecursion}
use Rattle.jc_machine_model.specs.World.{Frame}

-- The local variables and the operands are at most as many as the widest method has slots, and the number of the instruction
-- behind is one of four bytes.
pub record IsBounded (f : Frame) : Type 0 where
  pub room : length f.locals + length f.stack ≤ 1004
  pub place : f.place + 1 < 2 ^ 32

-- a running thread has at most 129 such frames
pub record AreBounded (top : Frame) (waiting : List Frame) : Type 0 where
  pub above : IsBounded top
  pub below : AllByRecursion IsBounded waiting
  pub few : length waiting ≤ 128
