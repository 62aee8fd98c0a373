-- A turn of a thread's own is that by what its instruction does.
use Rattle.std.proofs.Common.{◌≡◌, ℕ, Option, Some, None, refl, slice_get}
use Rattle.jc_programs.specs.declared.program.Program.{Program}
use Rattle.jc_machine_model.specs.World.{Thread, running, returned, threw, stuck, World}
use Rattle.jc_machine_model.specs.Step.{step, step_of, result_of}
use Rattle.jc_machine_model.specs.Locked.{turn_by_of, StepIsTurnBy}

pub step_of_is : (program : Program) (w : World) (t : ℕ) (o : Option Thread) → step_of program w t o ≡ turn_by_of program (result_of program) w t o
step_of_is program w t None = refl
step_of_is program w t (Some (running f waiting)) = refl
step_of_is program w t (Some (returned v)) = refl
step_of_is program w t (Some (threw c)) = refl
step_of_is program w t (Some (stuck method place)) = refl

pub step_is_turn_by : StepIsTurnBy
unfolding step
step_is_turn_by program w t = step_of_is program w t (slice_get w.threads t)
