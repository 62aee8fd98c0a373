-- Monitor instructions, and calls of synchronized methods, in a program without frames.
use Rattle.std.proofs.Common.{◌≡◌, ◌+◌, Bool, ◌&&◌, not, Option, None, Some, option_map, nat_eq, nat_lt, refl, ap, ◌∙◌, if◌then◌else◌}
use Rattle.std.specs.List.{slice_get}
use Rattle.jc_methods.specs.declared.body.Body.{Body}
use Rattle.jc_methods.specs.declared.body.What.{What}
use Rattle.jc_methods.specs.declared.body.What.TheVariants as whats
use Rattle.jc_methods.specs.declared.insn.Insn.{Insn}
use Rattle.jc_methods.specs.declared.insn.Insn.TheVariants as insns
use Rattle.jc_methods.specs.EntryState.{is_static}
use Rattle.jc_methods.specs.Opcode as opcode
use Rattle.jc_methods.specs.WellMade.{what_used}
use Rattle.jc_programs.specs.declared.program.Program.{Program}
use Rattle.jc_programs.specs.declared.program.Linked.{Linked}
use Rattle.jc_programs.specs.declared.run_end.Entry.{Entry}
use Rattle.jc_programs.specs.Members.{class_at, body_of}
use Rattle.jc_machine_model.specs.Methods.{is_init_name, is_native, is_synchronized}
use Rattle.jc_machine_model.specs.Profile.{Location, in_init}
use Rattle.jc_machine_model.specs.World.{Frame, Shared}
use Rattle.jc_machine_model.specs.Step.{LocatedInsn, located}
use Rattle.jc_machine_model.specs.Fits.{named_by, called_by}
use Rattle.jc_machine_model.specs.Locked.{monitor_in, monitor_of_frame, is_locked, locked_if, locked_body, locked_class}
use Rattle.jc_machine_model.specs.Locked.{locked_method, locked_call, callee_of_frame, call_of, call_to, calling}
use Rattle.jc_machine_laws.specs.Frameless.{frameless_body, frameless_class, frameless}
use Rattle.jc_machine_laws.proofs.FramelessLookupLaws.{same_class_at, same_body_at, same_body_of, same_declares, same_callee}
use Rattle.jc_machine_laws.proofs.FramelessOperationLaws.{frameless_at}
use Rattle.jc_machine_laws.proofs.FramelessStepLaws.{frameless_insn, same_located}

same_locked : (c : Linked) (b : Body) → is_locked (frameless_class c) (frameless_body b) ≡ is_locked c b
same_locked c b =
    ap (λ (d : Bool). (is_static b.flags && (not
    (is_native b) && (not c.has_clinit && not (nat_lt (if d then 1004 else 1000) (b.max_locals + b.max_stack)))))
    && (is_synchronized b && not (is_init_name b.name)))
    (same_declares c)

module _ (p : Program) where
  -- ---- monitor instructions

  pub same_monitor : (f : Frame) → monitor_of_frame (frameless p) f ≡ monitor_of_frame p f
  same_monitor f = ap monitor_in (same_located p f.method f.place) ∙ by (located p f.method f.place)
    where
      by : (o : Option LocatedInsn) → monitor_in (option_map frameless_insn o) ≡ monitor_in o
      by None = refl
      by (Some i) = refl

  -- ---- calls of synchronized methods

  same_locked_method : (o : Option Entry) → locked_method (frameless p) o ≡ locked_method p o
  same_locked_method None = refl
  same_locked_method (Some method) = ap (locked_class method) (same_class_at p method.class) ∙ by (class_at p method.class)
    where
      in_class : (c : Linked) (o : Option Body) → locked_body method (frameless_class c) (option_map frameless_body o) ≡ locked_body method c o
      in_class c None = refl
      in_class c (Some b) = ap (λ (z : Bool). locked_if z method) (same_locked c b)

      by : (o : Option Linked) → locked_class method (option_map frameless_class o) ≡ locked_class method o
      by None = refl
      by (Some c) = ap (locked_body method (frameless_class c)) (same_body_at c method.method) ∙ in_class c (slice_get c.bodies method.method)

  same_named : (o : Option What) → named_by (frameless p) o ≡ named_by p o
  same_named (Some (whats.Method class name desc)) = same_callee p class name desc
  same_named o = refl

  same_called : (at : Location) (insn : Insn) → called_by (frameless p) (frameless_at at) insn ≡ called_by p at insn
  same_called at (insns.Member op place) =
      ap (λ (o : Option Entry). if nat_eq op opcode.invokestatic then o else None) (same_named (what_used at.body.uses place))
  same_called at insn = refl

  same_locked_call : (o : Option LocatedInsn) → locked_call (frameless p) (option_map frameless_insn o) ≡ locked_call p o
  same_locked_call None = refl
  same_locked_call (Some i) =
      ap (λ (o : Option Entry). if in_init i.at then None else o)
      (ap (locked_method (frameless p)) (same_called i.at i.insn) ∙ same_locked_method (called_by p i.at i.insn))

  pub same_callee_of : (f : Frame) → callee_of_frame (frameless p) f ≡ callee_of_frame p f
  same_callee_of f = ap (locked_call (frameless p)) (same_located p f.method f.place) ∙ same_locked_call (located p f.method f.place)

  pub same_calling : (s : Shared) (f : Frame) → calling (frameless p) s f ≡ calling p s f
  same_calling s f = ap (λ (o : Option Entry). call_to (frameless p) o f) (same_callee_of f) ∙ by (callee_of_frame p f)
    where
      of_body : (method : Entry) (o : Option Body) → call_of (option_map frameless_body o) method f ≡ call_of o method f
      of_body method None = refl
      of_body method (Some b) = refl

      by : (o : Option Entry) → call_to (frameless p) o f ≡ call_to p o f
      by None = refl
      by (Some method) = ap (λ (o : Option Body). call_of o method f) (same_body_of p method) ∙ of_body method (body_of p method)
