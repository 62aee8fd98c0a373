-- A thread that goes by its instruction alone is stuck at a monitor instruction, and at a call of a synchronized method.
use Rattle.std.proofs.Common.{◌≡◌, ◌⊎◌, inl, inr, ℕ, List, ◌∷◌, Option, Some, None, refl, ap, ◌∙◌}
use Rattle.std.proofs.lemmas.Option.{none-some}
use Rattle.jc_methods.specs.Opcode as opcode
use Rattle.jc_methods.specs.declared.insn.Insn.{Insn}
use Rattle.jc_methods.specs.declared.insn.Insn.TheVariants as insns
use Rattle.jc_programs.specs.declared.program.Program.{Program}
use Rattle.jc_programs.specs.declared.run_end.Entry.{Entry}
use Rattle.jc_machine_model.specs.Values.{Value, int, long}
use Rattle.jc_machine_model.specs.World.{Frame, Shared}
use Rattle.jc_machine_model.specs.Operations.{Operation, outside}
use Rattle.jc_machine_model.specs.Results.{gets_stuck}
use Rattle.jc_machine_model.specs.Effects.{unfit, int_bits, int_pair, long_pair, long_shift, pair, effect}
use Rattle.jc_machine_model.specs.Perform.{by_effect, perform}
use Rattle.jc_machine_model.specs.Profile.{Location, operation_of}
use Rattle.jc_machine_model.specs.Step.{LocatedInsn, located, operation_at, result_of}
use Rattle.jc_machine_model.specs.Locked.{MonitorInsn, monitor_of, monitor_in, monitor_of_frame, locked_call, callee_of_frame}
use Rattle.jc_machine_code.proofs.LockedLaws.{locked_outside}
use Rattle.jc_monitor_laws.proofs.FormLaws.{monitor_is}

-- ---- monitor instructions

enter_unfit : (stack : List Value) → effect opcode.monitorenter stack ≡ unfit
unfolding effect pair int_pair int_bits long_pair long_shift
enter_unfit (int y ∷ int x ∷ stack) = refl
enter_unfit (long y ∷ long x ∷ stack) = refl
enter_unfit (int y ∷ long x ∷ stack) = refl
enter_unfit stack = refl

exit_unfit : (stack : List Value) → effect opcode.monitorexit stack ≡ unfit
unfolding effect pair int_pair int_bits long_pair long_shift
exit_unfit (int y ∷ int x ∷ stack) = refl
exit_unfit (long y ∷ long x ∷ stack) = refl
exit_unfit (int y ∷ long x ∷ stack) = refl
exit_unfit stack = refl

module _ (program : Program) (s : Shared) (f : Frame) where
  monitor_stuck : (at : Location) (op : ℕ) → (op ≡ opcode.monitorenter) ⊎ (op ≡ opcode.monitorexit)
      → perform (operation_of program at (insns.Simple op)) s f ≡ gets_stuck
  unfolding operation_of perform
  monitor_stuck at op (inl e) =
      ap (λ k. perform (operation_of program at (insns.Simple k)) s f) e ∙ ap (λ x. by_effect x s f) (enter_unfit f.stack)
  monitor_stuck at op (inr e) =
      ap (λ k. perform (operation_of program at (insns.Simple k)) s f) e ∙ ap (λ x. by_effect x s f) (exit_unfit f.stack)

  insn_stuck : (at : Location) (insn : Insn) (x : MonitorInsn) → monitor_of insn ≡ Some x → perform (operation_of program at insn) s f ≡ gets_stuck
  insn_stuck at (insns.Simple op) x e = monitor_stuck at op (monitor_is op x e)
  insn_stuck at insn x e = absurd (none-some x e)

  pub stuck_at_monitor : (x : MonitorInsn) → monitor_of_frame program f ≡ Some x → result_of program s f ≡ gets_stuck
  stuck_at_monitor x e = by (located program f.method f.place) e
    where
      by : (o : Option LocatedInsn) → monitor_in o ≡ Some x → perform (operation_at program o) s f ≡ gets_stuck
      by None e = absurd (none-some x e)
      by (Some i) e = insn_stuck i.at i.insn x e

  -- ---- calls of synchronized methods

  not_performed : (op : Operation) → op ≡ outside → perform op s f ≡ gets_stuck
  unfolding perform
  not_performed op e = ap (λ x. perform x s f) e

  pub stuck_at_call : (callee : Entry) → callee_of_frame program f ≡ Some callee → result_of program s f ≡ gets_stuck
  stuck_at_call callee e = by (located program f.method f.place) e
    where
      by : (o : Option LocatedInsn) → locked_call program o ≡ Some callee → perform (operation_at program o) s f ≡ gets_stuck
      by None e = absurd (none-some callee e)
      by (Some i) e = not_performed (operation_of program i.at i.insn) (locked_outside program i.at callee i.insn e)
