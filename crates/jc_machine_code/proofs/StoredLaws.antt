-- What the machine keeps of a type that is read from a descriptor is what it keeps of the type that is described.
use Rattle.std.proofs.Common.{◌≡◌, ℕ, List, Some, None, refl, subst}
use Rattle.jc_bytes.specs.Descriptor.{FieldType, Byte, Char, Double, Float, Int, Long, Short, Boolean, Object, Array}
use Rattle.jc_methods.specs.EntryState.{held_of}
use Rattle.jc_methods.specs.ValueTypes.{Says}
use Rattle.jc_methods.specs.VerificationTypes.{object}
use Rattle.jc_methods.specs.declared.value_type.ValueType.{ValueType}
use Rattle.jc_methods.specs.declared.value_type.ValueType.TheVariants as given
use Rattle.jc_machine_numbers.specs.declared.narrowing.Narrowing.TheVariants as narrowings
use Rattle.jc_machine_code.specs.declared.operation.ComputationalType.TheVariants as kinds
use Rattle.jc_machine_code.specs.Types.{stored_of, IsStoredAs}

of_reference : (type : FieldType) (name : List ℕ) → object name ≡ held_of type → IsStoredAs type (Some (kinds.Reference, narrowings.Unchanged))
of_reference Byte name e = absurd (cc)
of_reference Char name e = absurd (cc)
of_reference Double name e = absurd (cc)
of_reference Float name e = absurd (cc)
of_reference Int name e = absurd (cc)
of_reference Long name e = absurd (cc)
of_reference Short name e = absurd (cc)
of_reference Boolean name e = absurd (cc)
of_reference (Object class) name e = (refl, refl)
of_reference (Array component) name e = (refl, refl)

pub stored_says : (v : ValueType) (type : FieldType) → Says v type → IsStoredAs type (stored_of v)
stored_says given.Boolean type s = subst (λ t. IsStoredAs t (stored_of given.Boolean)) s.type_is (refl, refl)
stored_says given.Byte type s = subst (λ t. IsStoredAs t (stored_of given.Byte)) s.type_is (refl, refl)
stored_says given.Char type s = subst (λ t. IsStoredAs t (stored_of given.Char)) s.type_is (refl, refl)
stored_says given.Short type s = subst (λ t. IsStoredAs t (stored_of given.Short)) s.type_is (refl, refl)
stored_says given.Int type s = subst (λ t. IsStoredAs t (stored_of given.Int)) s.type_is (refl, refl)
stored_says given.Long type s = subst (λ t. IsStoredAs t (stored_of given.Long)) s.type_is (refl, refl)
stored_says (given.Object name) type s = of_reference type name.now s.held_is
stored_says (given.Array desc) type s = of_reference type desc.now s.held_is
stored_says given.Float type s = subst (λ t. IsStoredAs t None) s.type_is refl
stored_says given.Double type s = subst (λ t. IsStoredAs t None) s.type_is refl
