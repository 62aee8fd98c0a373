-- What an instruction of a program without frames does.
use Rattle.std.proofs.Common.{◌≡◌, ℕ, Bool, true, false, ◌&&◌, List, [], ◌∷◌, Option, None, Some, option_map, option_and_then, nat_eq, refl, ap, ◌∙◌, if◌then◌else◌}
use Rattle.std.specs.List.{slice_get}
use Rattle.std.specs.Prelude.{bytes_eq, is_some}
use Rattle.jc_methods.specs.declared.body.Body.{Body}
use Rattle.jc_methods.specs.declared.body.What.{What}
use Rattle.jc_methods.specs.declared.body.What.TheVariants as whats
use Rattle.jc_methods.specs.declared.insn.Insn.{Insn}
use Rattle.jc_methods.specs.declared.insn.Insn.TheVariants as insns
use Rattle.jc_methods.specs.Opcode as opcode
use Rattle.jc_methods.specs.ProbeMembers.{data_type}
use Rattle.jc_programs.specs.declared.program.Program.{Program}
use Rattle.jc_programs.specs.declared.program.Linked.{Linked}
use Rattle.jc_programs.specs.declared.program.ProbeInit.{ProbeInit}
use Rattle.jc_programs.specs.declared.run_end.Entry.{Entry}
use Rattle.jc_programs.specs.Members.{class_named, class_at, static_named}
use Rattle.jc_machine_model.specs.Methods.{is_enterable}
use Rattle.jc_machine_model.specs.Operations.{Operation, casts, outside, pushes}
use Rattle.jc_machine_model.specs.Values as value
use Rattle.jc_machine_model.specs.Profile.{Location, in_init, init_of, what_at, declared_field, linked_field, is_print_stream}
use Rattle.jc_machine_model.specs.Profile.{field_named, callee_named, may_name_method, entered_if, body_entered, class_entered}
use Rattle.jc_machine_model.specs.Profile.{method_entered, is_fetch, init_call, static_call, virtual_call, special_call, call_named}
use Rattle.jc_machine_model.specs.Profile.{has_constant, given_by, given_in, computed_operation, constant_operation, made_class, make_operation, begins_with_array, class_operation}
use Rattle.jc_machine_model.specs.Profile.{member_operation, operation_of}
use Rattle.jc_machine_laws.specs.Frameless.{frameless_body, frameless_class, frameless}
use Rattle.jc_machine_laws.proofs.FramelessLookupLaws.{same_class_named, same_class_at, same_body_at, same_declares, same_callee, same_enterable}

-- the place that a location names, in the class without the frames of its bodies
abbrev pub frameless_at : Location → Location
frameless_at at = record { class = at.class; linked = frameless_class at.linked; body = frameless_body at.body; place = at.place }

module _ (p : Program) (at : Location) where
  -- ---- fields

  same_declared : (op k : ℕ) (name desc : List ℕ) (o : Option Linked)
      → declared_field op (frameless_at at) k name desc (option_and_then (λ (c : Linked). static_named c.statics name desc) (option_map frameless_class o))
      ≡ declared_field op at k name desc (option_and_then (λ (c : Linked). static_named c.statics name desc) o)
  same_declared op k name desc None = refl
  same_declared op k name desc (Some c) = by (static_named c.statics name desc)
    where
      by : (f : Option ℕ) → declared_field op (frameless_at at) k name desc f ≡ declared_field op at k name desc f
      by None = refl
      by (Some f) = refl

  same_linked : (op : ℕ) (name desc : List ℕ) (o : Option ℕ) → linked_field op (frameless_at at) (frameless p) name desc o ≡ linked_field op at p name desc o
  same_linked op name desc None = refl
  same_linked op name desc (Some k) =
      ap (λ (o : Option Linked). declared_field op (frameless_at at) k name desc
      (option_and_then (λ (c : Linked). static_named c.statics name desc) o)) (same_class_at p k)
      ∙ same_declared op k name desc (class_at p k)

  same_field : (op : ℕ) (class name desc : List ℕ) → field_named op (frameless_at at) (frameless p) class name desc ≡ field_named op at p class name desc
  same_field op class name desc =
      ap (λ (o : Operation). if is_print_stream op class name desc then pushes value.print_stream else o)
      (ap (linked_field op (frameless_at at) (frameless p) name desc) (same_class_named p class) ∙ same_linked op name desc (class_named p class))

  -- ---- calls

  same_body_entered : (method : Entry) (c : Linked) (o : Option Body)
      → body_entered (frameless_at at) method (frameless_class c) (option_map frameless_body o) ≡ body_entered at method c o
  same_body_entered method c None = refl
  same_body_entered method c (Some b) =
      ap (λ (e : Bool). entered_if (e && may_name_method at method.class b.name) method (frameless_body b)) (same_enterable c b)
      ∙ by (is_enterable c b && may_name_method at method.class b.name)
    where
      by : (e : Bool) → entered_if e method (frameless_body b) ≡ entered_if e method b
      by true = refl
      by false = refl

  same_entered : (o : Option Entry) → method_entered (frameless_at at) (frameless p) o ≡ method_entered at p o
  same_entered None = refl
  same_entered (Some method) = ap (class_entered (frameless_at at) method) (same_class_at p method.class) ∙ by (class_at p method.class)
    where
      by : (o : Option Linked) → class_entered (frameless_at at) method (option_map frameless_class o) ≡ class_entered at method o
      by None = refl
      by (Some c) =
          ap (body_entered (frameless_at at) method (frameless_class c)) (same_body_at c method.method)
          ∙ same_body_entered method c (slice_get c.bodies method.method)

  same_static : (class name desc : List ℕ) → static_call (frameless_at at) (frameless p) class name desc ≡ static_call at p class name desc
  same_static class name desc =
      ap (λ (o : Operation). if in_init at then init_call (frameless_at at) (is_fetch class name desc) (init_of at) else o)
      (ap (method_entered (frameless_at at) (frameless p)) (same_callee p class name desc) ∙ same_entered (callee_named p class name desc))
      ∙ ap (λ (i : Operation). if in_init at then i else method_entered at p (callee_named p class name desc)) (by (is_fetch class name desc) (init_of at))
    where
      by : (b : Bool) (i : Option ProbeInit) → init_call (frameless_at at) b i ≡ init_call at b i
      by true None = refl
      by true (Some init) = refl
      by false None = refl
      by false (Some init) = refl

  same_call : (op : ℕ) (class name desc : List ℕ) → call_named op (frameless_at at) (frameless p) class name desc ≡ call_named op at p class name desc
  same_call op class name desc =
      ap (λ (o : Operation). if nat_eq op opcode.invokestatic then o
      else if nat_eq op opcode.invokevirtual then virtual_call at class name desc
      else if nat_eq op opcode.invokespecial then special_call at class name desc
      else outside)
      (same_static class name desc)

  same_member : (op : ℕ) (o : Option What) → member_operation op (frameless_at at) (frameless p) o ≡ member_operation op at p o
  same_member op None = refl
  same_member op (Some (whats.Field class name desc)) = same_field op class name desc
  same_member op (Some (whats.Method class name desc)) = same_call op class name desc
  same_member op (Some (whats.Call name desc)) = refl
  same_member op (Some (whats.Class name)) = refl
  same_member op (Some (whats.Int n)) = refl
  same_member op (Some (whats.Long n)) = refl
  same_member op (Some whats.Float) = refl
  same_member op (Some whats.Double) = refl
  same_member op (Some whats.Text) = refl
  same_member op (Some whats.Handle) = refl
  same_member op (Some whats.MethodKind) = refl
  same_member op (Some (whats.Computed name desc bootstrap)) = refl

  -- ---- the array by a constant

  same_given : (o : Option What) → given_in (frameless_at at) o ≡ given_in at o
  same_given None = refl
  same_given (Some (whats.Computed name desc bootstrap)) =
      ap (λ (d : Bool). given_by (if has_constant at.linked && d then at.linked.probes else None) name desc bootstrap) (same_declares at.linked)
  same_given (Some what) = refl

  same_begins : (code : List Insn) → begins_with_array (frameless_at at) code ≡ begins_with_array at code
  same_begins [] = refl
  same_begins (insns.Constant place ∷ code) = ap (λ (o : Option ProbeInit). is_some o) (same_given (what_at at place))
  same_begins (insn ∷ code) = refl

  same_constant : (o : Option What) → constant_operation (frameless_at at) o ≡ constant_operation at o
  same_constant None = refl
  same_constant (Some (whats.Computed name desc bootstrap)) =
      ap (computed_operation (frameless_at at)) (same_given (Some (whats.Computed name desc bootstrap)))
      ∙ by (given_in at (Some (whats.Computed name desc bootstrap)))
    where
      by : (o : Option ProbeInit) → computed_operation (frameless_at at) o ≡ computed_operation at o
      by None = refl
      by (Some init) = refl
  same_constant (Some what) = refl

  same_of_class : (op : ℕ) (o : Option What) → class_operation op (frameless_at at) o ≡ class_operation op at o
  same_of_class op None = refl
  same_of_class op (Some (whats.Class name)) =
      ap (λ (z : Bool). if nat_eq op opcode.new then make_operation (made_class name)
      else if nat_eq op opcode.checkcast then (if nat_eq at.place 1 && (bytes_eq name data_type && z) then casts at.class else outside)
      else outside) (same_begins at.body.code)
  same_of_class op (Some what) = refl

  -- ---- all instructions

  pub same_operation : (i : Insn) → operation_of (frameless p) (frameless_at at) i ≡ operation_of p at i
  unfolding operation_of
  same_operation (insns.Member op place) = same_member op (what_at at place)
  same_operation (insns.Constant place) = same_constant (what_at at place)
  same_operation (insns.OfClass op place) = same_of_class op (what_at at place)
  same_operation i = refl
