use Rattle.std.proofs.Common.{◌≡◌, ◌<◌, ℕ, List, length, map, sym, ap, ◌∙◌, subst, refl}
use Rattle.jc_bytes.specs.Descriptor.{MethodType, DescribesMethod}
use Rattle.jc_methods.specs.declared.insn.Insn.{Insn}
use Rattle.jc_methods.specs.declared.body.Body.{Body}
use Rattle.jc_methods.specs.declared.body.Handler.{Handler}
use Rattle.jc_methods.specs.declared.body.Use.{Use}
use Rattle.jc_methods.specs.declared.value_type.ValueType.{ValueType}
use Rattle.jc_methods.specs.DescriptorTypes.{method_type_in}
use Rattle.jc_methods.specs.ValueTypes.{AllSay}
use Rattle.jc_methods.proofs.DescriptorTypesLaws.{method_again}
use Rattle.jc_programs.specs.declared.program.Linked.{Linked}
use Rattle.jc_machine_model.specs.Methods.{is_init_name, is_enterable, most_frame_slots}
use Rattle.jc_machine_model.specs.Profile.{Location, has_constant, begins_with_array}
use Rattle.jc_machine_model.specs.Values.{computational_type}
use Rattle.jc_machine_code.specs.Types.{return_narrowing}
use Rattle.jc_machine_code.specs.Places.{AreWhats}
use Rattle.jc_machine_code.specs.Prepared.{Correspond, TellsInsn, IsRow}
use Rattle.jc_machine_code.proofs.CodeLaws.{few_insns}
use Rattle.jc_machine_code.proofs.prepare.prepared_method.Goals as goal

pub operations-requires-clause-few : goal.operations-requires-clause-few
operations-requires-clause-few c = subst (λ (xs : List Insn). length xs < 4294967296) (sym c.as_slice-5.ensures) (few_insns c.args.body.now.code c.requires.of_any_size.code.few)

pub returns : goal.returns
returns c = λ program linked i index members.
    let b : Body = c.args.body.now in
    let at : Location = record { class = c.args.class; linked = linked; body = b; place = 0 } in
    let type : MethodType = c.requires.of_any_size.arguments.type in
    let described : DescribesMethod b.desc type = c.requires.of_any_size.arguments.described in
    let type_is : method_type_in b.desc ≡ type = method_again b.desc type described in
    let given : DescribesMethod c.as_slice.result.now type = subst (λ (d : List ℕ). DescribesMethod d type) (sym c.as_slice.ensures) described in
    let named = c.is_init_name.ensures ∙ ap is_init_name c.as_slice-3.ensures in
    let whats : AreWhats b.uses c.in_ok-whats.whats.entries = subst (λ (uses : List Use). AreWhats uses c.in_ok-whats.whats.entries) c.as_slice-2.ensures c.in_ok-whats.ensures in
    record {
      operations = subst (λ (code : List Insn). Correspond (TellsInsn program c.args.class linked b) code c.in_ok-operations.operations) c.as_slice-5.ensures
          (c.in_ok-operations.ensures program at (record {
            index = index;
            class = refl;
            is_init = sym named;
            init = sym (c.init_of.ensures at (sym members.linked) refl);
            has_constant_is = sym (c.has_constant.ensures ∙ ap has_constant members.linked);
            given = members.given;
            begins = sym (c.begins_with_array.ensures at members.given whats ∙ ap (begins_with_array at) c.as_slice-4.ensures);
            narrowing = ap (λ (t : MethodType). return_narrowing t.returns) type_is ∙ c.return_narrowing.ensures type.returns (c.in_ok-types.ensures.returns type given);
            whats = whats;
          }));
      parameters =
          c.in_ok-parameters.ensures type.parameters
          (subst (λ (values : List ValueType). AllSay values type.parameters) (sym c.as_slice-6.ensures) (c.in_ok-types.ensures.parameters type given))
          ∙ ap (λ (t : MethodType). map computational_type t.parameters) (sym type_is);
      max_locals = refl;
      is_init = named;
      is_enterable = c.is_enterable.ensures (ap most_frame_slots members.linked ∙ members.most) ∙ ap (λ (l : Linked). is_enterable l b) members.linked;
      rows = subst (λ (handlers : List Handler). Correspond (IsRow b) handlers c.in_ok-rows.rows) c.as_slice-7.ensures (c.in_ok-rows.ensures b whats);
    }
