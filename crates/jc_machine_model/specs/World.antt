-- The world of a case: its threads, what they share, and the probes that were hit.
use Rattle.std.specs.Prelude.{ℕ, Bool, List, Option}
use Rattle.jc_programs.specs.declared.run_end.Entry.{Entry}
use Rattle.jc_programs.specs.declared.run_end.Thrown.{Thrown}
use Rattle.jc_programs.specs.declared.run_end.Value.{Value as Outside}
use Rattle.jc_machine_model.specs.Values.{Value}
use Rattle.jc_machine_model.specs.Heap.{HeapObject}

-- a frame (JVM Specification 2.6)
pub record Frame : Type 0 where
  -- the body of its method
  pub method : Entry
  -- the instruction that comes next; of a frame that waits for a callee, its call
  pub place : ℕ
  -- the value that begins in each slot, if one does
  pub locals : List (Option Value)
  -- the operand stack by values, the top one first
  pub stack : List Value

pub data Thread : Type 0 where
  -- the frame on top, and the frames that wait, each for the one before it
  running : (top : Frame) (waiting : List Frame) → Thread
  returned : Option Outside → Thread
  threw : Thrown → Thread
  -- where the frame on top stood
  stuck : (method : Entry) (place : ℕ) → Thread

-- what all threads share
pub record Shared : Type 0 where
  -- the values of the static fields, by class and field
  pub statics : List (List Value)
  -- the arrays and throwables in the order in which they were made
  pub heap : List HeapObject
  -- the bytes that were printed
  pub output : List ℕ
  -- whether a turn raised a throwable
  pub raised : Bool

-- a probe of a class
pub record Hit : Type 0 where
  pub class : ℕ
  pub id : ℕ

pub record World : Type 0 where
  pub threads : List Thread
  pub shared : Shared
  -- the hits, the latest first
  pub hits : List Hit
