-- Turns at monitor instructions and at calls of synchronized methods, and turns in which a throwable is raised, keep a world fitting.
use Rattle.std.proofs.Common.{◌≡◌, ℕ, Option, Some, None, sym, ◌∙◌, ap}
use Rattle.jc_programs.specs.declared.program.Program.{Program}
use Rattle.jc_programs.specs.declared.run_end.Entry.{Entry}
use Rattle.jc_programs.specs.declared.run_end.Thrown.{Thrown}
use Rattle.jc_machine_model.specs.Programs.{IsProgram}
use Rattle.jc_machine_model.specs.World.{World}
use Rattle.jc_machine_model.specs.Fits.{FitsWorld}
use Rattle.jc_machine_model.specs.Locked.{turn_by, MonitorInsn, monitor_of_thread, monitor_at, dropping, raising, callee_of_thread, callee, calling}
use Rattle.jc_machine_laws.proofs.LockedLaws.{raises_lands, drops_land, calling_lands, shared_fits, turn_by_fits}

module _ (program : Program) (p : IsProgram program) (w : World) (t : ℕ) (fits : FitsWorld program w) where
  pub raising_fits : (c : Thrown) → FitsWorld program (turn_by program (raising c) w t)
  raising_fits c = turn_by_fits program p w t fits (raising c) (λ f waiting e r. raises_lands program p w.shared f waiting (shared_fits program p w t fits) r c)

  pub dropping_fits : (m : MonitorInsn) → monitor_at program w t ≡ Some m → FitsWorld program (turn_by program dropping w t)
  dropping_fits m e =
      turn_by_fits program p w t fits dropping (λ f waiting q r. drops_land program p w.shared f waiting (shared_fits program p w t fits) r m
      (sym (ap (λ o. elim o [ None ↦ None | Some thread ↦ monitor_of_thread program thread ]) q) ∙ e))

  pub calling_fits : (method : Entry) → callee program w t ≡ Some method → FitsWorld program (turn_by program (calling program) w t)
  calling_fits method e =
      turn_by_fits program p w t fits (calling program) (λ f waiting q r. calling_lands program p w.shared f waiting (shared_fits program p w t fits) r method
      (sym (ap (λ o. elim o [ None ↦ None | Some thread ↦ callee_of_thread program thread ]) q) ∙ e))
