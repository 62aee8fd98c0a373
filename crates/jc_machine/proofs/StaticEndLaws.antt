-- The static fields of integral types at the end, one after another.
use Rattle.std.proofs.Common.{◌≡◌, ℕ, zero, suc, ◌+◌, List, [], ◌∷◌, ◌++◌, length, drop, Option, Some, None, cond, refl, sym, ap, ◌∙◌, arith, slice_get}
use Rattle.std.proofs.Common.{slice_index_or, add-one}
use Rattle.std.proofs.lemmas.List.{map-append}
use Rattle.jc_bytes.specs.Descriptor.{FieldType, Byte, Char, Double, Float, Int, Long, Short, Boolean, Object, Array}
use Rattle.jc_methods.specs.DescriptorTypes.{field_type_in}
use Rattle.jc_programs.specs.declared.program.Program.{Program}
use Rattle.jc_programs.specs.declared.program.Linked.{Linked}
use Rattle.jc_programs.specs.declared.program.StaticField.{StaticField}
use Rattle.jc_programs.specs.declared.run_end.StaticEnd.{StaticEnd}
use Rattle.jc_machine_model.specs.Values.{Value, null}
use Rattle.jc_machine_model.specs.CaseEnds.{number_of, field_end, field_ends, class_ends}
use Rattle.jc_machine_model.specs.Fits.{AreStatics}
use Rattle.jc_machine.specs.IntegralFields.{is_integral, field_if, fields_from, classes_from, integral_fields}
use Rattle.jc_machine.specs.StaticEnds.{value_at, end_at, ends_at}

-- what stands first behind so many
first_behind : {X : Type 0} (xs : List X) (k : ℕ) (x d : X) (rest : List X) → x ∷ rest ≡ drop k xs → slice_index_or xs k d ≡ x
first_behind [] zero x d rest e = absurd (cc)
first_behind [] (suc k) x d rest e = absurd (cc)
first_behind (y ∷ xs) zero x d rest e = cc
first_behind (y ∷ xs) (suc k) x d rest e = first_behind xs k x d rest e

-- and what stands behind that
rest_behind : {X : Type 0} (xs : List X) (k : ℕ) (x : X) (rest : List X) → x ∷ rest ≡ drop k xs → rest ≡ drop (suc k) xs
rest_behind [] zero x rest e = absurd (cc)
rest_behind [] (suc k) x rest e = absurd (cc)
rest_behind (y ∷ xs) zero x rest e = cc
rest_behind (y ∷ xs) (suc k) x rest e = rest_behind xs k x rest e

-- one field
one_end : (statics : List (List Value)) (class field : ℕ) (f : StaticField) (v : Value) → value_at statics (record { class = class; field = field }) ≡ v
    → ends_at statics (field_if class field f) ≡ field_end class field (field_type_in f.desc) v
one_end statics class field f v e = by (field_type_in f.desc)
  where
    ended : Value → List StaticEnd
    ended x = record { class = class; field = field; value = number_of x } ∷ []

    there : ended (value_at statics (record { class = class; field = field })) ≡ ended v
    there = ap ended e

    by : (o : Option FieldType) → ends_at statics (cond (is_integral o) (record { class = class; field = field } ∷ []) []) ≡ field_end class field o v
    by None = refl
    by (Some Byte) = there
    by (Some Char) = there
    by (Some Double) = refl
    by (Some Float) = refl
    by (Some Int) = there
    by (Some Long) = there
    by (Some Short) = there
    by (Some Boolean) = there
    by (Some (Object name)) = refl
    by (Some (Array component)) = refl

-- those of a class
fields_end : (statics : List (List Value)) (values : List Value) (class field : ℕ) (fields : List StaticField) (rest : List Value)
    → slice_index_or statics class [] ≡ values
    → rest ≡ drop field values → length rest ≡ length fields → ends_at statics (fields_from class field fields) ≡ field_ends class field fields rest
fields_end statics values class field [] rest at is many = refl
fields_end statics values class field (f ∷ fields) [] at is many = absurd (omega arith)
fields_end statics values class field (f ∷ fields) (v ∷ rest) at is many =
    let here : value_at statics (record { class = class; field = field }) ≡ v =
    ap (λ (vs : List Value). slice_index_or vs field null) at ∙ first_behind values field v null rest is in
    let more : ends_at statics (fields_from class (field + 1) fields) ≡ field_ends class (field + 1) fields rest =
    fields_end statics values class (field + 1) fields rest at (rest_behind values field v rest is ∙ ap (λ n. drop n values) (sym (add-one field)))
    (omega arith) in
    map-append (end_at statics) (field_if class field f) (fields_from class (field + 1) fields)
    ∙ (ap (λ es. es ++ ends_at statics (fields_from class (field + 1) fields)) (one_end statics class field f v here)
    ∙ ap (λ es. field_end class field (field_type_in f.desc) v ++ es) more)

classes_end : (statics : List (List Value)) (class : ℕ) (classes : List Linked) (rest : List (List Value)) → rest ≡ drop class statics → AreStatics classes rest
    → ends_at statics (classes_from class classes) ≡ class_ends class classes rest
classes_end statics class [] rest is are = refl
classes_end statics class (c ∷ classes) [] is are = absurd are
classes_end statics class (c ∷ classes) (values ∷ rest) is are =
    let at : slice_index_or statics class [] ≡ values = first_behind statics class values [] rest is in
    let here : ends_at statics (fields_from class 0 c.statics) ≡ field_ends class 0 c.statics values =
    fields_end statics values class 0 c.statics values at refl (are.0).count in
    let more : ends_at statics (classes_from (class + 1) classes) ≡ class_ends (class + 1) classes rest =
    classes_end statics (class + 1) classes rest (rest_behind statics class values rest is ∙ ap (λ n. drop n statics) (sym (add-one class))) are.1 in
    map-append (end_at statics) (fields_from class 0 c.statics) (classes_from (class + 1) classes)
    ∙ (ap (λ es. es ++ ends_at statics (classes_from (class + 1) classes)) here ∙ ap (λ es. field_ends class 0 c.statics values ++ es) more)

-- the fields of integral types are those that a case leaves
pub ends_at-integral_fields : (program : Program) (statics : List (List Value)) → AreStatics program.classes statics
    → ends_at statics (integral_fields program) ≡ class_ends 0 program.classes statics
ends_at-integral_fields program statics are = classes_end statics 0 program.classes statics refl are

-- where no value stands a field holds none
pub none_at : (values : List Value) (k : ℕ) → None ≡ slice_get values k → slice_index_or values k null ≡ null
none_at [] k none = refl
none_at (v ∷ values) zero none = absurd (cc)
none_at (v ∷ values) (suc k) none = none_at values k none
