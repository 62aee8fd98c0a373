-- What turns leave, as the machine keeps it.
use Rattle.std.specs.Prelude.{Bool, true, false, List, [], ◌∷◌, Option, Some, None, ◌≡◌}
use Rattle.jc_programs.specs.declared.program.Program.{Program}
use Rattle.jc_programs.specs.declared.run_end.Thrown.{Thrown}
use Rattle.jc_methods.specs.declared.insn.Insn.{Insn}
use Rattle.jc_machine_model.specs.World.{Thread, running, threw, Shared, Hit, World}
use Rattle.jc_machine_model.specs.Step.{LocatedInsn, After, Raised}
use Rattle.jc_machine_model.specs.Fits.{FitsThread}
use Rattle.jc_machine.specs.declared.thread_turn.ProbeHit.{ProbeHit}
use Rattle.jc_machine.specs.declared.thread_turn.ThreadTurn.{ThreadTurn}
use Rattle.jc_machine.specs.declared.throwing.Throwable.{Throwable}
use Rattle.jc_machine_memory.specs.Values.{value_of}
use Rattle.jc_machine.specs.Threads.{ThreadFrames, thread_of}

-- ---- worlds

-- the world, as if nothing had been hit
abbrev pub without_hits : World → World
without_hits w = record w { hits = [] }

-- a world of one thread
abbrev pub alone : Shared → ThreadFrames → World
alone s frames = record { threads = running frames.top frames.waiting ∷ []; shared = s; hits = [] }

-- ---- the turn of a thread

abbrev pub hits_in : Option ProbeHit → List Hit
hits_in None = []
hits_in (Some hit) = record { class = hit.class; id = hit.id } ∷ []

-- what a turn came to, with the frames and with what all threads share as they are then
abbrev pub after_of : ThreadTurn → ThreadFrames → Shared → After
after_of turn frames s = record { thread = thread_of turn.end frames; shared = s; hits = hits_in turn.hit }

-- a throwable, with what all threads share once it is there
abbrev pub raised_with : Throwable → Shared → Raised
raised_with throwable s = record { thrown = throwable.thrown; value = value_of throwable.value; shared = s }

-- a handler was found, or none and the thread has ended
abbrev pub thrown_to : Bool → Thrown → ThreadFrames → Thread
thrown_to true c frames = running frames.top frames.waiting
thrown_to false c frames = threw c

-- it is the instruction that was located
abbrev pub StandsBefore : Option LocatedInsn → Insn → Type 0
StandsBefore located insn = (i : LocatedInsn) × (located ≡ Some i) × (i.insn ≡ insn)

-- ---- what fits

-- the thread fits the program then
abbrev pub FitsAfter : Program → After → Type 0
FitsAfter program a = FitsThread program a.shared.heap a.thread
