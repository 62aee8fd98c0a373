-- What the machine keeps of types.
use Rattle.std.proofs.Common.{◌≡◌, ℕ, List, map, length, Option, Some, sym, ap, ◌∙◌}
use Rattle.std.specs.List.{slice_get}
use Rattle.std.specs.Option.{option_map}
use Rattle.std.proofs.lemmas.Option.{slice_get-map, same_Some}
use Rattle.std.proofs.lemmas.List.{length-map}
use Rattle.jc_bytes.specs.Descriptor.{FieldType}
use Rattle.jc_methods.specs.EntryState.{held_of}
use Rattle.jc_methods.specs.ValueTypes.{type_of, held_by, Says, AllSay}
use Rattle.jc_methods.specs.declared.value_type.ValueType.{ValueType}
use Rattle.jc_programs.specs.declared.program.StaticField.{StaticField}
use Rattle.jc_machine_model.specs.Values.{computational_type}
use Rattle.jc_machine_model.specs.Begin.{first_value}
use Rattle.jc_machine_code.specs.declared.operation.ComputationalType.{ComputationalType}
use Rattle.jc_machine_code.specs.declared.prepared.FirstValue.{FirstValue}
use Rattle.jc_machine_code.specs.Types.{computational}
use Rattle.jc_machine_code.specs.Prepared.{Correspond, value_of}
use Rattle.jc_machine_code.proofs.CorrespondLaws.{made_of, same_map}

-- ---- parameters

abbrev pub IsKindOf : ℕ → ValueType → Option ComputationalType → Type 0
IsKindOf i v kind = (type : FieldType) → Says v type → option_map computational kind ≡ computational_type type

-- the types that the values say, one by one
says_at : (values : List ValueType) (types : List FieldType) (i : ℕ) (v : ValueType) (type : FieldType) → AllSay values types
    → slice_get values i ≡ Some v → slice_get types i ≡ Some type → Says v type
says_at values types i v type all there here = record {
  type_is = same_Some (type_of v) type (
      sym (slice_get-map type_of values i ∙ ap (option_map type_of) there) ∙ ap (λ (l : List FieldType). slice_get l i) all.types_are ∙ here);
  held_is = same_Some (held_by v) (held_of type) (
      sym (slice_get-map held_by values i ∙ ap (option_map held_by) there) ∙ ap (λ l. slice_get l i) all.held_are
      ∙ slice_get-map held_of types i ∙ ap (option_map held_of) here);
}

pub kinds_are : (values : List ValueType) (types : List FieldType) (kinds : List (Option ComputationalType)) → AllSay values types → Correspond IsKindOf values kinds
    → map (option_map computational) kinds ≡ map computational_type types
kinds_are values types kinds all made = same_map computational_type (option_map computational) types kinds (record {
  length_is = made.length_is ∙ sym (length-map values type_of) ∙ ap length all.types_are;
  each = λ i type kind there here.
      let v = made_of IsKindOf values kinds made i kind here in
      v.2 type (says_at values types i v.0 type all v.1 there);
})

-- ---- static fields

abbrev pub IsFirstValue : ℕ → StaticField → FirstValue → Type 0
IsFirstValue i field value = value_of value ≡ first_value field
