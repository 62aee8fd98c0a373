-- The numbers with which static fields begin are values of their types.
use Rattle.std.proofs.Common.{◌≡◌, ℕ, ◌≤◌, ℤ, pos, negsuc, true, ◌&&◌, Some, List, [], ◌∷◌, ◌++◌, if◌then◌else◌, SFits, w32, refl, sym, ◌∙◌, ap, ap₂, subst, arith}
use Rattle.std.specs.Prelude.{◌≢◌, map, not}
use Rattle.std.specs.Int.Bits.{bit_and}
use Rattle.std.proofs.lemmas.Bool.{le-leb, ne_eqb}
use Rattle.std.proofs.lemmas.Grind.{flat_map-append}
use Rattle.std.proofs.lemmas.List.{append-nil, map-append}
use Rattle.std.proofs.lemmas.List.Concat.{flat_map-cons}
use Rattle.jc_bytes.specs.Descriptor.{FieldType, Byte, Char, Int, Short, Boolean}
use Rattle.jc_bytes.proofs.OptionLaws.{none_some, some_is}
use Rattle.jc_methods.specs.DescriptorTypes.{field_type_in}
use Rattle.jc_methods.specs.EntryState.{is_static}
use Rattle.jc_programs.specs.Entries.{is_between}
use Rattle.jc_programs.specs.Narrowing.{narrowed}
use Rattle.jc_programs.specs.declared.program.StaticField.{StaticField}
use Rattle.jc_pool.specs.Lookup.{utf8_of}
use Rattle.jc_pool.specs.Pool.{PoolValue}
use Rattle.jc_class.specs.declared.class_file.Attribute.{Attribute}
use Rattle.jc_class.specs.declared.class_file.Member.{Member}
use Rattle.jc_machine_model.specs.Arithmetic.{FitsBits, FitsInt}
use Rattle.jc_machine_model.specs.Programs.{IsFirstOf}
use Rattle.jc_machine_model.proofs.ArithmeticLaws.{narrows}
use Rattle.jc_machine_numbers.specs.Narrowings.{narrowing_of}
use Rattle.jc_machine_numbers.specs.declared.narrowing.Narrowing.{Narrowing}
use Rattle.jc_link_programs.specs.Statics.{int_at, int_narrowing, number_at, first_by, first_number, constant_place, static_with, static_of, statics_among}

-- ---- ranges

pub fits_int : (z : ℤ) → SFits w32 z → FitsInt z
fits_int (pos n) f = f.sfits
fits_int (negsuc n) f = f.sfits

between_0 : (m n : ℕ) → n ≤ m → is_between (pos 0) (pos m) (pos n) ≡ true
between_0 m n le = ap₂ (λ s t. s && t) (le-leb 0 n (omega arith)) (le-leb n m le)

between_7 : (z : ℤ) → FitsBits 7 z → is_between (negsuc 127) (pos 127) z ≡ true
between_7 (pos n) f = le-leb n 127 (omega (arith, f))
between_7 (negsuc n) f = ap (λ t. t && true) (le-leb n 127 (omega (arith, f)))

between_15 : (z : ℤ) → FitsBits 15 z → is_between (negsuc 32767) (pos 32767) z ≡ true
between_15 (pos n) f = le-leb n 32767 (omega (arith, f))
between_15 (negsuc n) f = ap (λ t. t && true) (le-leb n 32767 (omega (arith, f)))

between_31 : (z : ℤ) → FitsInt z → is_between (negsuc 2147483647) (pos 2147483647) z ≡ true
between_31 (pos n) f = le-leb n 2147483647 (omega (arith, f))
between_31 (negsuc n) f = ap (λ t. t && true) (le-leb n 2147483647 (omega (arith, f)))

-- ---- numbers

boolean_fits : (x : ℤ) → FitsInt x → IsFirstOf (Some Boolean) (narrowed Boolean x)
boolean_fits x p =
    let n = (narrows x p).boolean in
    let less = n.within in
    subst (λ z. is_between (pos 0) (pos 1) z ≡ true) (sym n.is) (between_0 1 n.number (omega (arith, less)))

char_fits : (x : ℤ) → FitsInt x → IsFirstOf (Some Char) (narrowed Char x)
char_fits x p =
    let n = (narrows x p).char in
    let less = n.within in
    subst (λ z. is_between (pos 0) (pos 65535) z ≡ true) (sym n.is) (between_0 65535 n.number (omega (arith, less)))

byte_fits : (x : ℤ) → FitsInt x → IsFirstOf (Some Byte) (narrowed Byte x)
byte_fits x p = between_7 (narrowed Byte x) (narrows x p).byte.fits

short_fits : (x : ℤ) → FitsInt x → IsFirstOf (Some Short) (narrowed Short x)
short_fits x p = between_15 (narrowed Short x) (narrows x p).short.fits

int_fits : (x : ℤ) → FitsInt x → IsFirstOf (Some Int) (narrowed Int x)
int_fits x p = between_31 x p

-- ---- by how an Integer is stored

-- The type's values are ints, and it is stored as its narrowing says.
pub by_int : (pool : PoolValue) (type : FieldType) (place : ℕ) (n : Narrowing) → int_narrowing type ≡ Some n
    → (narrowing_of type ≡ n) × (narrowed type (int_at pool place) ≡ number_at pool type place)
    × (FitsInt (int_at pool place) → IsFirstOf (Some type) (number_at pool type place))
by_int pool Boolean place n e = (some_is e, refl, boolean_fits (int_at pool place))
by_int pool Byte place n e = (some_is e, refl, byte_fits (int_at pool place))
by_int pool Char place n e = (some_is e, refl, char_fits (int_at pool place))
by_int pool Short place n e = (some_is e, refl, short_fits (int_at pool place))
by_int pool Int place n e = (some_is e, refl, int_fits (int_at pool place))
by_int pool type place n e = absurd (none_some e)

-- ---- by the field's descriptor and attributes

pub first_is : (pool : PoolValue) (desc : List ℕ) (attributes : List Attribute) (type : FieldType) (place : ℕ) (r : ℤ) → field_type_in desc ≡ Some type
    → constant_place pool attributes ≡ Some place → r ≡ number_at pool type place → r ≡ first_number pool desc attributes
first_is pool desc attributes type place r e f n = n ∙ sym (ap₂ (first_by pool) e f)

-- ---- one static field more

static_flag : (flags : ℕ) → bit_and flags 0x0008 ≢ 0 → is_static flags ≡ true
static_flag flags set = ap not (ne_eqb (bit_and flags 0x0008) 0 set)

pub statics_more : {B : Type 0} (now : B → Member) (pool : PoolValue) (before : List B) (b : B) (old new : List StaticField) (f : StaticField)
    → bit_and (now b).flags 0x0008 ≢ 0 → static_with pool (now b) (utf8_of pool (now b).name) (utf8_of pool (now b).desc) ≡ f ∷ []
    → old ≡ statics_among pool (map now before) → new ≡ old ++ f ∷ [] → new ≡ statics_among pool (map now (before ++ b ∷ []))
statics_more now pool before b old new f set field e put =
    let one : static_of pool (now b) ≡ f ∷ [] =
    ap (λ t. if t then static_with pool (now b) (utf8_of pool (now b).name) (utf8_of pool (now b).desc) else []) (static_flag (now b).flags set) ∙ field in
    put
    ∙ ap₂ (λ (x y : List StaticField). x ++ y) e (sym one)
    ∙ ap (λ (l : List StaticField). statics_among pool (map now before) ++ l) (sym (append-nil (static_of pool (now b))))
    ∙ ap (λ (l : List StaticField). statics_among pool (map now before) ++ l) (sym (flat_map-cons (static_of pool) (now b) []))
    ∙ sym (flat_map-append (static_of pool) (map now before) (now b ∷ []))
    ∙ ap (statics_among pool) (sym (map-append now before (b ∷ [])))
