-- Where a thread stands, as those see it who decide on its turn: its instruction, how deep it is, and the operand on top (JVM
-- Specification 2.6).
use Rattle.std.specs.Prelude.{ℕ, List, [], ◌∷◌, take, Option, Some, None, option_and_then, slice_get}
use Rattle.jc_programs.specs.declared.program.Program.{Program}
use Rattle.jc_programs.specs.declared.run_end.Entry.{Entry}
use Rattle.jc_machine_model.specs.Values.{Value, null, object}
use Rattle.jc_machine_model.specs.Heap.{HeapObject, heap_words}
use Rattle.jc_machine_model.specs.World.{Thread, running, World}
use Rattle.jc_machine_model.specs.Step.{counted_frames}

-- ---- the frame on top

pub record Standing : Type 0 where
  -- the method of the frame on top, and the instruction that comes next
  pub method : Entry
  pub place : ℕ
  -- how many frames there are, those of `$jacocoInit` not counted
  pub depth : ℕ

abbrev pub standing_of : Program → Thread → Option Standing
standing_of program (running f waiting) =
    Some (record { method = f.method; place = f.place; depth = counted_frames program (f ∷ waiting) })
standing_of program thread = None

-- none where the thread doesn't run
abbrev pub stands : Program → World → ℕ → Option Standing
stands program w t = option_and_then (standing_of program) (slice_get w.threads t)

-- ---- the operand on top

pub data TopValue : Type 0 where
  no_value : TopValue
  a_null : TopValue
  -- an array or a throwable of the heap, by how many words those take that were made before it
  an_object : ℕ → TopValue
  -- a number, or a reference to something that takes no word of the heap
  another : TopValue

-- No two objects have one number, since each takes a word at least.
abbrev pub object_number : List HeapObject → ℕ → ℕ
object_number heap k = heap_words (take k heap)

abbrev pub top_of : List HeapObject → List Value → TopValue
top_of heap [] = no_value
top_of heap (null ∷ stack) = a_null
top_of heap (object k ∷ stack) = an_object (object_number heap k)
top_of heap (v ∷ stack) = another

abbrev pub top_of_thread : List HeapObject → Option Thread → TopValue
top_of_thread heap (Some (running f waiting)) = top_of heap f.stack
top_of_thread heap thread = no_value

-- a thread that doesn't run has none
abbrev pub top_in : World → ℕ → TopValue
top_in w t = top_of_thread w.shared.heap (slice_get w.threads t)
