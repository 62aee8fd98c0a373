-- Calls of synchronized methods are outside of what the machine executes.
use Rattle.std.proofs.Common.{◌≡◌, ℕ, List, Bool, true, false, ◌&&◌, not, cond, Option, Some, None, nat_eq, refl, sym, ap, ◌∙◌}
use Rattle.std.specs.List.{slice_get}
use Rattle.std.proofs.lemmas.Bool.{and_parts}
use Rattle.jc_bytes.proofs.OptionLaws.{none_some}
use Rattle.jc_methods.specs.declared.insn.Insn.{Insn}
use Rattle.jc_methods.specs.declared.insn.Insn.TheVariants as insns
use Rattle.jc_methods.specs.declared.body.Body.{Body}
use Rattle.jc_methods.specs.declared.body.What.{What}
use Rattle.jc_methods.specs.declared.body.What.TheVariants as whats
use Rattle.jc_methods.specs.Opcode as opcode
use Rattle.jc_methods.specs.WellMade.{what_used}
use Rattle.jc_programs.specs.declared.program.Program.{Program}
use Rattle.jc_programs.specs.declared.program.Linked.{Linked}
use Rattle.jc_programs.specs.declared.run_end.Entry.{Entry}
use Rattle.jc_programs.specs.Members.{class_at}
use Rattle.jc_machine_model.specs.Methods.{is_init_name, is_synchronized, is_plain, is_enterable}
use Rattle.jc_machine_model.specs.Operations.{outside}
use Rattle.jc_machine_model.specs.Profile.{Location, in_init, init_of, may_name_method, callee_named, entered_if, body_entered, class_entered, method_entered, is_fetch, init_call, static_call, virtual_call, special_call, member_operation, operation_of}
use Rattle.jc_machine_model.specs.Fits.{named_by, called_by}
use Rattle.jc_machine_model.specs.Locked.{is_locked, locked_if, locked_body, locked_class, locked_method, locked_call}

-- a method that is synchronized isn't entered
not_enterable : (c : Linked) (b : Body) → is_locked c b ≡ true → is_enterable c b ≡ false
not_enterable c b e =
    let parts = and_parts (is_plain c b) (is_synchronized b && not (is_init_name b.name)) e in
    let synchronized = (and_parts (is_synchronized b) (not (is_init_name b.name)) parts.1).0 in
    ap (λ z. z && not (is_synchronized b)) parts.0 ∙ ap not synchronized

module _ (program : Program) (at : Location) (callee : Entry) where
  in_body : (method : Entry) (c : Linked) (o : Option Body) → locked_body method c o ≡ Some callee → body_entered at method c o ≡ outside
  in_body method c None e = refl
  in_body method c (Some b) e = by (is_locked c b) refl e
    where
      by : (z : Bool) → is_locked c b ≡ z → locked_if z method ≡ Some callee
          → entered_if (is_enterable c b && may_name_method at method.class b.name) method b ≡ outside
      by true q e = ap (λ z. entered_if (z && may_name_method at method.class b.name) method b) (not_enterable c b q)
      by false q e = absurd (none_some e)

  in_class : (method : Entry) (o : Option Linked) → locked_class method o ≡ Some callee → class_entered at method o ≡ outside
  in_class method None e = refl
  in_class method (Some c) e = in_body method c (slice_get c.bodies method.method) e

  of_method : (o : Option Entry) → locked_method program o ≡ Some callee → method_entered at program o ≡ outside
  of_method None e = refl
  of_method (Some method) e = in_class method (class_at program method.class) e

  -- what is named by `invokestatic` outside of `$jacocoInit`
  of_named : (op : ℕ) (o : Option What) → nat_eq op opcode.invokestatic ≡ true → in_init at ≡ false
      → locked_method program (named_by program o) ≡ Some callee → member_operation op at program o ≡ outside
  of_named op (Some (whats.Method class name desc)) call out e =
      ap (λ z. cond z (static_call at program class name desc) (cond (nat_eq op opcode.invokevirtual) (virtual_call at class name desc)
      (cond (nat_eq op opcode.invokespecial) (special_call at class name desc) outside))) call
      ∙ (ap (λ z. cond z (init_call at (is_fetch class name desc) (init_of at)) (method_entered at program (callee_named program class name desc))) out
      ∙ of_method (callee_named program class name desc) e)
  of_named op (Some (whats.Field class name desc)) call out e = absurd (none_some e)
  of_named op o call out e = absurd (none_some e)

  of_insn : (insn : Insn) → in_init at ≡ false → locked_method program (called_by program at insn) ≡ Some callee → operation_of program at insn ≡ outside
  unfolding operation_of
  of_insn (insns.Member op place) out e = by (nat_eq op opcode.invokestatic) refl e
    where
      by : (z : Bool) → nat_eq op opcode.invokestatic ≡ z
          → locked_method program (cond z (named_by program (what_used at.body.uses place)) None) ≡ Some callee
          → member_operation op at program (what_used at.body.uses place) ≡ outside
      by true q e = of_named op (what_used at.body.uses place) q out e
      by false q e = absurd (none_some e)
  of_insn insn out e = absurd (none_some e)

  pub locked_outside : (insn : Insn) → locked_call program (Some (record { at = at; insn = insn })) ≡ Some callee → operation_of program at insn ≡ outside
  locked_outside insn e = by (in_init at) refl e
    where
      by : (z : Bool) → in_init at ≡ z → cond z None (locked_method program (called_by program at insn)) ≡ Some callee → operation_of program at insn ≡ outside
      by true q e = absurd (none_some e)
      by false q e = of_insn insn q e
