-- What getstatic and putstatic are to the machine, by the type that the field's descriptor describes.
use Rattle.std.proofs.Common.{◌≡◌, ◌∙◌, ℕ, List, Some, None, ap, refl}
use Rattle.jc_bytes.specs.Descriptor.{FieldType, DescribesField}
use Rattle.jc_methods.specs.Opcode as opcode
use Rattle.jc_methods.specs.DescriptorTypes.{field_type_in}
use Rattle.jc_methods.proofs.DescriptorTypesLaws.{field_again}
use Rattle.jc_machine_model.specs.Values.{ComputationalType, computational_type}
use Rattle.jc_machine_model.specs.Operations.{FieldAt, gets, puts, outside}
use Rattle.jc_machine_model.specs.Profile.{field_operation}

module _ (op : ℕ) (at : FieldAt) (desc : List ℕ) (type : FieldType) (d : DescribesField desc type) where
  described : field_operation op at (field_type_in desc) ≡ field_operation op at (Some type)
  described = ap (field_operation op at) (field_again desc type d)

  pub no_values : computational_type type ≡ None → field_operation op at (field_type_in desc) ≡ outside
  no_values e = described ∙ rw e refl

  module _ (k : ComputationalType) (e : computational_type type ≡ Some k) where
    pub gets_field : op ≡ opcode.getstatic → field_operation op at (field_type_in desc) ≡ gets at type
    gets_field is = described ∙ rw (e, is) refl

    pub puts_field : op ≡ opcode.putstatic → field_operation op at (field_type_in desc) ≡ puts at type
    puts_field is = described ∙ rw (e, is) refl
