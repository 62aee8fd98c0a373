-- What turns keep: worlds that fit their program, hits of probes, room on stacks, and the types of effects.
use Rattle.std.specs.Prelude.{◌≡◌, ⊤, ℕ, ◌≤◌, List, ◌++◌, length, drop, Some}
use Rattle.std.specs.List.{AllByRecursion}
use Rattle.jc_methods.specs.declared.body.Body.{Body}
use Rattle.jc_methods.specs.VerificationTypes.{VerificationType}
use Rattle.jc_programs.specs.declared.program.Program.{Program}
use Rattle.jc_programs.specs.declared.run_plan.Case.{Case}
use Rattle.jc_programs.specs.declared.run_end.Entry.{Entry}
use Rattle.jc_programs.specs.Members.{body_of}
use Rattle.jc_programs.specs.Entries.{AreEntries}
use Rattle.jc_kinds_after.specs.Step.{moved_by}
use Rattle.jc_kinds_after.specs.Table.{forms_at}
use Rattle.jc_machine_model.specs.Programs.{IsProgram}
use Rattle.jc_machine_model.specs.Values.{Value}
use Rattle.jc_machine_model.specs.Effects.{Effect, gives, effect}
use Rattle.jc_machine_model.specs.World.{Frame, World}
use Rattle.jc_machine_model.specs.Step.{step}
use Rattle.jc_machine_model.specs.Run.{run}
use Rattle.jc_machine_model.specs.Fits.{Typing, any_reference, IsStackBy, IsStack, IsProbe, FitsTop, FitsWorldBy, FitsWorld}
use Rattle.jc_machine_laws.specs.Typings.{IsHolding, IsFlowing}

-- ---- effects

-- What an effect leaves of a stack is of the types that the kind check gives the opcode.
abbrev pub LeavesBy : (Value → VerificationType → Type 0) → List VerificationType → List Value → Effect → Type 0
LeavesBy R types stack (gives taken results) = IsStackBy R (results ++ drop taken stack) types
LeavesBy R types stack _ = ⊤

-- with any reference
abbrev pub Leaves : List VerificationType → List Value → Effect → Type 0
Leaves types stack e = LeavesBy any_reference types stack e

-- it does so wherever the kind check has a state after the opcode
abbrev pub EffectFits : Type 0
EffectFits =
    (most op : ℕ) (stack : List Value) (before after : List VerificationType) → IsStack stack before
    → moved_by most (forms_at op) before ≡ Some after → Leaves after stack (effect op stack)

-- ---- turns

-- Each turn of a world that fits by a typing gives one that fits by it, where the typing holds along a relation, and the program flows
-- along it.
abbrev pub StepFitsBy : (T : Typing) → (VerificationType → VerificationType → Type 0) → Type 0
StepFitsBy T S =
    (program : Program) (w : World) (t : ℕ) → IsHolding T S → IsProgram program → IsFlowing T S program
    → FitsWorldBy T program w → FitsWorldBy T program (step program w t)

-- so each turn of a world that fits gives one that fits
abbrev pub StepFits : Type 0
StepFits = (program : Program) (w : World) (t : ℕ) → IsProgram program → FitsWorld program w → FitsWorld program (step program w t)

-- what it hits is a probe of a class
abbrev pub StepHits : Type 0
StepHits =
    (program : Program) (w : World) (t : ℕ) → IsProgram program → FitsWorld program w
    → AllByRecursion (IsProbe program) w.hits → AllByRecursion (IsProbe program) (step program w t).hits

-- so each world of a run fits, and what was hit until then is probes
abbrev pub RunFits : Type 0
RunFits =
    (program : Program) (case : Case) (entries : List Entry) (turns : List ℕ) → IsProgram program → AreEntries program case.threads entries
    → FitsWorld program (run program case turns) × AllByRecursion (IsProbe program) (run program case turns).hits

-- ---- stacks

-- No more values lie on the stack of a frame on top than its method's stack has slots. Their slots can be more: where a
-- frame of the class file says `top` of a stack entry, a long may lie there.
abbrev pub RoomFits : Type 0
RoomFits =
    (program : Program) (f : Frame) (b : Body) → IsProgram program → FitsTop program f → body_of program f.method ≡ Some b
    → length f.stack ≤ b.max_stack
