use Rattle.std.proofs.Common.{◌≡◌, ◌∷◌, length}
use Rattle.jc_programs.specs.declared.program.Program.{Program}
use Rattle.jc_machine_code.specs.Prepared.{IsPrepared}
use Rattle.jc_machine_memory.specs.Values.{value_of}
use Rattle.jc_machine_model.specs.Step.{unwound}
use Rattle.jc_machine.specs.Room.{AreBounded}
use Rattle.jc_machine.proofs.throwing.unwind.Given as goal

abbrev pub invariant-leaving : goal.invariant-leaving
invariant-leaving l = record {
  same : (program : Program) → IsPrepared program l.prepared
      → unwound program l.throwable.thrown (value_of l.throwable.value) (l.frames.top ∷ l.frames.waiting)
      ≡ unwound program l.throwable.thrown (value_of l.throwable.value) (l.initial.frames.top ∷ l.initial.frames.waiting);
  bounds : AreBounded l.frames.top l.frames.waiting;
  memory : l.frames.memory ≡ l.initial.frames.memory;
}

abbrev pub decreases-leaving : goal.decreases-leaving
decreases-leaving l = length l.frames.waiting
