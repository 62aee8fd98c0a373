-- The static fields and the methods of a class, where its constant pool has grown.
use Rattle.std.proofs.Common.{◌≡◌, ◌⊎◌, inl, inr, ℕ, ℤ, ◌+◌, ◌*◌, ◌<◌, pos, Bool, true, false, not, cond, ◌||◌, List, [], ◌∷◌, ◌++◌, length, map, filter, Contains, Option, Some, None, codes, refl, sym, ◌∙◌, ap, ap₂, subst, if◌then◌else◌}
use Rattle.std.specs.Prelude.{◌≢◌}
use Rattle.std.specs.Int.Bits.{bit_and}
use Rattle.std.specs.List.{list_any, AllByRecursion}
use Rattle.std.specs.Option.{option_and_then}
use Rattle.std.proofs.lemmas.Bool.{eq-eqb, true≢false}
use Rattle.std.proofs.lemmas.Option.{none-some, same_Some}
use Rattle.std.proofs.lemmas.List.{append-nil}
use Rattle.std.proofs.lemmas.List.Concat.{flat_map-cons}
use Rattle.jc_bytes.specs.Decoder.{◌>>=◌}
use Rattle.jc_bytes.specs.Descriptor.{FieldType, Byte, Char, Int, Long, Short, Boolean}
use Rattle.jc_bytes.proofs.BooleanLaws.{which_in, none_in}
use Rattle.jc_methods.specs.DescriptorTypes.{field_type_in}
use Rattle.jc_methods.specs.EntryState.{is_static}
use Rattle.jc_methods.specs.ProbeMembers.{data_name, data_type, init_name}
use Rattle.jc_methods.specs.declared.probe_members.Fetch.{Fetch}
use Rattle.jc_methods.specs.declared.probe_members.Fetch.TheVariants as fetches
use Rattle.jc_programs.specs.Narrowing.{narrowed}
use Rattle.jc_programs.specs.declared.program.StaticField.{StaticField}
use Rattle.jc_pool.specs.declared.constant.ConstText.{ConstText}
use Rattle.jc_pool.specs.declared.constant.ConstText.TheVariants as constants
use Rattle.jc_pool.specs.declared.entry.Entry.{Entry}
use Rattle.jc_pool.specs.declared.entry.Entry.TheVariants as entry
use Rattle.jc_pool.specs.Adding.{Extends}
use Rattle.jc_pool.specs.Lookup.{entry_of, utf8_of, const_of, const_in, where_named, reference_of, signature_of}
use Rattle.jc_pool.specs.Pool.{PoolValue}
use Rattle.jc_pool.proofs.AddedLaws.{utf8_kept}
use Rattle.jc_pool.proofs.OneMoreEntryLaws.{entry_stays}
use Rattle.jc_class.specs.ClassFormat.{HasText, HasFieldDescriptor, HasMethodDescriptor, IsConstant, NamesPlace}
use Rattle.jc_class.specs.Writable.{IsAttribute, IsMember, NamesItsConstants}
use Rattle.jc_class.specs.declared.class_file.Attribute.{Attribute}
use Rattle.jc_class.specs.declared.class_file.Member.{Member}
use Rattle.jc_body.specs.Attributes.{bodies_of, has_name, is_text}
use Rattle.jc_emit.specs.Added.{added_statics, data_static}
use Rattle.jc_instrument.specs.SameOutside.{AreAddedFields, IsKeptMethod, AreKeptMethods, IsDataField}
use Rattle.jc_instrument.proofs.TwinLaws.{text_is}
use Rattle.jc_link_programs.specs.Statics.{int_in, long_in, int_at, long_at, number_at, first_by, first_number, single, place_in, constant_place, static_with, as_static, static_of, statics_among, is_clinit}

-- ---- the place of a constant

static_flag : (flags : ℕ) → is_static flags ≡ true → bit_and flags 0x0008 ≢ 0
static_flag flags is none = true≢false (sym is ∙ ap not (eq-eqb _ _ none))

-- a body that names a place of the pool names this one
body_within : (pool : PoolValue) (body : List ℕ) → NamesPlace pool body → (place : ℕ) → place_in body ≡ Some place → place < length pool
body_within pool (high ∷ low ∷ []) names place e = subst (λ (n : ℕ). n < length pool) (same_Some (high * 256 + low) place e) names
body_within pool body names place e = absurd (none-some place e)

single_within : (pool : PoolValue) (bodies : List (List ℕ)) → AllByRecursion (NamesPlace pool) bodies → (place : ℕ)
    → option_and_then place_in (single bodies) ≡ Some place → place < length pool
single_within pool (body ∷ []) all place e = body_within pool body all.0 place e
single_within pool bodies all place e = absurd (none-some place e)

module _ (pool : PoolValue) (flags : ℕ) (set : bit_and flags 0x0008 ≢ 0) where
  abbrev constants_in : List Attribute → List Attribute
  constants_in attributes = filter (has_name pool (codes "ConstantValue")) attributes

  bodies_within : (attributes : List Attribute) → AllByRecursion (λ (a : Attribute). IsConstant pool flags a.name → NamesPlace pool a.body) attributes
      → AllByRecursion (NamesPlace pool) (bodies_of pool (codes "ConstantValue") attributes)
  bodies_within [] all = tt
  bodies_within (a ∷ attributes) all = by (has_name pool (codes "ConstantValue") a) refl (bodies_within attributes all.1)
    where
      by : (t : Bool) → has_name pool (codes "ConstantValue") a ≡ t
          → AllByRecursion (NamesPlace pool) (map (λ (x : Attribute). x.body) (constants_in attributes))
          → AllByRecursion (NamesPlace pool) (map (λ (x : Attribute). x.body) (cond t (a ∷ constants_in attributes) (constants_in attributes)))
      by true is later = (all.0 (set, text_is (codes "ConstantValue") (utf8_of pool a.name) is), later)
      by false is later = later

-- the constant of a static field has a place of the pool
constant_within : (pool : PoolValue) (field : Member) → NamesItsConstants pool field → is_static field.flags ≡ true
    → (place : ℕ) → constant_place pool field.attributes ≡ Some place → place < length pool
constant_within pool field all is place e =
    single_within pool (bodies_of pool (codes "ConstantValue") field.attributes)
    (bodies_within pool field.flags (static_flag field.flags is) field.attributes all) place e

-- ---- numbers

int_of : Option Entry → ℤ
int_of (Some (entry.Integer value)) = value
int_of _ = pos 0

long_of : Option Entry → ℤ
long_of (Some (entry.Long value)) = value
long_of _ = pos 0

-- the number that a constant gives, if what it names stands there
named_number : {X : Type 0} (number : Option ConstText → ℤ) (c : ConstText) (o : Option X) → number None ≡ pos 0 → number (Some c) ≡ pos 0 → number (where_named c o) ≡ pos 0
named_number number c None none some = none
named_number number c (Some x) none some = some

int_by_entry : (pool : PoolValue) (o : Option Entry) → int_in (o >>= const_in pool) ≡ int_of o
unfolding int_of
int_by_entry pool None = refl
int_by_entry pool (Some (entry.Class name)) = named_number int_in constants.Class (utf8_of pool name) refl refl
int_by_entry pool (Some (entry.String text)) = named_number int_in constants.Text (utf8_of pool text) refl refl
int_by_entry pool (Some (entry.MethodHandle kind reference)) = named_number int_in constants.Handle (reference_of pool reference) refl refl
int_by_entry pool (Some (entry.MethodType desc)) = named_number int_in constants.MethodKind (utf8_of pool desc) refl refl
int_by_entry pool (Some (entry.Dynamic bootstrap rest)) = named_number int_in constants.Computed (signature_of pool rest) refl refl
int_by_entry pool (Some other) = refl

long_by_entry : (pool : PoolValue) (o : Option Entry) → long_in (o >>= const_in pool) ≡ long_of o
unfolding long_of
long_by_entry pool None = refl
long_by_entry pool (Some (entry.Class name)) = named_number long_in constants.Class (utf8_of pool name) refl refl
long_by_entry pool (Some (entry.String text)) = named_number long_in constants.Text (utf8_of pool text) refl refl
long_by_entry pool (Some (entry.MethodHandle kind reference)) = named_number long_in constants.Handle (reference_of pool reference) refl refl
long_by_entry pool (Some (entry.MethodType desc)) = named_number long_in constants.MethodKind (utf8_of pool desc) refl refl
long_by_entry pool (Some (entry.Dynamic bootstrap rest)) = named_number long_in constants.Computed (signature_of pool rest) refl refl
long_by_entry pool (Some other) = refl

module _ (old new : PoolValue) (more : Extends old new) where
  entry_same : (place : ℕ) → place < length old → entry_of new place ≡ entry_of old place
  entry_same place less = ap (λ (l : PoolValue). entry_of l place) more.1 ∙ entry_stays old more.0 place less

  int_same : (place : ℕ) → place < length old → int_at new place ≡ int_at old place
  unfolding const_of
  int_same place less = int_by_entry new (entry_of new place) ∙ ap int_of (entry_same place less) ∙ sym (int_by_entry old (entry_of old place))

  long_same : (place : ℕ) → place < length old → long_at new place ≡ long_at old place
  unfolding const_of
  long_same place less = long_by_entry new (entry_of new place) ∙ ap long_of (entry_same place less) ∙ sym (long_by_entry old (entry_of old place))

  number_same : (type : FieldType) (place : ℕ) → place < length old → number_at new type place ≡ number_at old type place
  number_same Boolean place less = ap (narrowed Boolean) (int_same place less)
  number_same Byte place less = ap (narrowed Byte) (int_same place less)
  number_same Short place less = ap (narrowed Short) (int_same place less)
  number_same Char place less = ap (narrowed Char) (int_same place less)
  number_same Int place less = int_same place less
  number_same Long place less = long_same place less
  number_same other place less = refl

  first_same : (type : Option FieldType) (o : Option ℕ) → ((place : ℕ) → o ≡ Some place → place < length old) → first_by new type o ≡ first_by old type o
  first_same (Some type) (Some place) within = number_same type place (within place refl)
  first_same x y within = refl

  -- ---- attributes

  pub text_same : (place : ℕ) → HasText old place → utf8_of new place ≡ utf8_of old place
  text_same place t = utf8_kept old new t.0 place more t.1 ∙ sym t.1

  named_same : (name : List ℕ) (attributes : List Attribute) → AllByRecursion (IsAttribute (HasText old)) attributes
      → bodies_of new name attributes ≡ bodies_of old name attributes
  named_same name [] all = refl
  named_same name (a ∷ attributes) all =
      ap (λ (t : Bool). map (λ (x : Attribute). x.body) (cond t (a ∷ filter (has_name new name) attributes) (filter (has_name new name) attributes)))
      (ap (is_text name) (text_same a.name all.0.name))
      ∙ by (has_name old name a) (named_same name attributes all.1)
    where
      by : (t : Bool) → map (λ (x : Attribute). x.body) (filter (has_name new name) attributes) ≡ map (λ (x : Attribute). x.body) (filter (has_name old name) attributes)
          → map (λ (x : Attribute). x.body) (cond t (a ∷ filter (has_name new name) attributes) (filter (has_name new name) attributes))
          ≡ map (λ (x : Attribute). x.body) (cond t (a ∷ filter (has_name old name) attributes) (filter (has_name old name) attributes))
      by true e = ap (λ (l : List (List ℕ)). a.body ∷ l) e
      by false e = e

  constant_same : (attributes : List Attribute) → AllByRecursion (IsAttribute (HasText old)) attributes → constant_place new attributes ≡ constant_place old attributes
  constant_same attributes all = ap (λ (l : List (List ℕ)). option_and_then place_in (single l)) (named_same (codes "ConstantValue") attributes all)

  -- ---- static fields

  module _ (field : Member) (is : IsMember (HasText old) (HasFieldDescriptor old) field) where
    name_same : utf8_of new field.name ≡ utf8_of old field.name
    name_same = text_same field.name is.name

    desc_same : utf8_of new field.desc ≡ utf8_of old field.desc
    desc_same = utf8_kept old new is.desc.0 field.desc more is.desc.1 ∙ sym is.desc.1

    module _ (within : (place : ℕ) → constant_place old field.attributes ≡ Some place → place < length old) where
      with_same : (n d : Option (List ℕ)) → static_with new field n d ≡ static_with old field n d
      with_same (Some name) (Some desc) =
          ap (λ (z : ℤ). record { name = name; desc = desc; first = z } ∷ [])
          (ap (first_by new (field_type_in desc)) (constant_same field.attributes is.attributes.each)
          ∙ first_same (field_type_in desc) (constant_place old field.attributes) within)
      with_same x y = refl

      as_static_same : as_static new field ≡ as_static old field
      as_static_same =
          ap₂ (λ (n d : Option (List ℕ)). static_with new field n d) name_same desc_same
          ∙ with_same (utf8_of old field.name) (utf8_of old field.desc)

    pub static_same : NamesItsConstants old field → static_of new field ≡ static_of old field
    static_same all = by (is_static field.flags) refl
      where
        by : (t : Bool) → is_static field.flags ≡ t → (if t then as_static new field else []) ≡ (if t then as_static old field else [])
        by true set = as_static_same (constant_within old field all set)
        by false e = refl

  pub statics_same : (fields : List Member) → AllByRecursion (IsMember (HasText old) (HasFieldDescriptor old)) fields
      → AllByRecursion (NamesItsConstants old) fields → statics_among new fields ≡ statics_among old fields
  statics_same [] all hold = refl
  statics_same (f ∷ fields) all hold =
      flat_map-cons (static_of new) f fields
      ∙ ap₂ (λ (a b : List StaticField). a ++ b) (static_same f all.0 hold.0) (statics_same fields all.1 hold.1)
      ∙ sym (flat_map-cons (static_of old) f fields)

  -- ---- methods

  clinit_same : (m n : Member) → IsMember (HasText old) (HasMethodDescriptor old) m → IsKeptMethod old m n → is_clinit new n ≡ is_clinit old m
  clinit_same m n is kept = ap (is_text (codes "<clinit>")) (ap (utf8_of new) kept.name ∙ text_same m.name is.name)

  pub clinits_same : (methods kept : List Member) → AllByRecursion (IsMember (HasText old) (HasMethodDescriptor old)) methods → AreKeptMethods old methods kept
      → list_any (is_clinit new) kept ≡ list_any (is_clinit old) methods
  clinits_same [] [] all same = refl
  clinits_same [] (n ∷ kept) all same = absurd same
  clinits_same (m ∷ methods) [] all same = absurd same
  clinits_same (m ∷ methods) (n ∷ kept) all same =
      ap₂ (λ (s t : Bool). s || t) (clinit_same m n all.0 same.0) (clinits_same methods kept all.1 same.1)

-- ---- the added members

first_of_none : (pool : PoolValue) (type : Option FieldType) → first_by pool type None ≡ pos 0
first_of_none pool (Some type) = refl
first_of_none pool None = refl

data_field_static : (pool : PoolValue) (field : Member) → IsDataField pool field → static_of pool field ≡ data_static ∷ []
data_field_static pool field is =
    ap (λ (f : ℕ). if is_static f then static_with pool field (utf8_of pool field.name) (utf8_of pool field.desc) else []) is.flags
    ∙ ap₂ (λ (n d : Option (List ℕ)). static_with pool field n d) is.name is.desc
    ∙ ap (λ (l : List Attribute). record { name = data_name; desc = data_type; first = first_number pool data_type l } ∷ []) is.attributes
    ∙ ap (λ (z : ℤ). record { name = data_name; desc = data_type; first = z } ∷ []) (first_of_none pool (field_type_in data_type))

-- the static fields that are added
pub added_fields_static : (fetch : Fetch) (pool : PoolValue) (added : List Member) → AreAddedFields fetch pool added
    → statics_among pool added ≡ added_statics fetch
added_fields_static fetches.Member pool added are =
    ap (statics_among pool) are.1 ∙ flat_map-cons (static_of pool) are.0 [] ∙ append-nil (static_of pool are.0) ∙ data_field_static pool are.0 are.2
added_fields_static fetches.Constant pool added are = ap (statics_among pool) are

pub init_no_clinit : (pool : PoolValue) (m : Member) → utf8_of pool m.name ≡ Some init_name → is_clinit pool m ≡ false
init_no_clinit pool m name = ap (is_text (codes "<clinit>")) name

pub any_put : {X : Type 0} (p : X → Bool) (xs : List X) (x : X) → p x ≡ false → list_any p (xs ++ x ∷ []) ≡ list_any p xs
any_put p [] x e = ap (λ (t : Bool). t || false) e
any_put p (y ∷ xs) x e = ap (λ (t : Bool). p y || t) (any_put p xs x e)

-- ---- which field a static is

pub static_name : (pool : PoolValue) (field : Member) (f : StaticField) → (n d : Option (List ℕ)) → Contains (static_with pool field n d) f → n ≡ Some f.name
static_name pool field f (Some name) (Some desc) listed = by (which_in _ [] f listed)
  where
    by : (record { name = name; desc = desc; first = first_number pool desc field.attributes } ≡ f) ⊎ Contains [] f → Some name ≡ Some f.name
    by (inl same) = ap (λ (s : StaticField). Some s.name) same
    by (inr none) = absurd (none_in f none)
static_name pool field f x y listed = absurd (none_in f listed)
