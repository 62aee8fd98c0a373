-- The first letter of a descriptor decides what the first value of a static field is.
use Rattle.std.proofs.Common.{◌≡◌, ℕ, zero, suc, ◌<◌, ◌≤◌, length, drop, ℤ, Bool, true, false, ◌||◌, ◌&&◌, List, [], ◌∷◌, ◌++◌, Some, nat_eq, refl, sym, ap, ◌∙◌, subst, arith, pos, negsuc, if◌then◌else◌}
use Rattle.std.specs.Prelude.{slice_index_or, ◌≤ℤ◌, int_le}
use Rattle.std.specs.Int.Signed.{le_z_yes}
use Rattle.std.proofs.lemmas.Int.{ints, to_z-of_z}
use mir.Val.{SFits, of_z, to_z}
use mir.Syntax.{w64}
use Rattle.std.proofs.lemmas.Bool.{eqb-true, and_parts}
use Rattle.std.proofs.lemmas.Float.{T_from_true}
use Rattle.jc_bytes.specs.Descriptor.{FieldType, Byte, Char, Double, Float, Int, Long, Short, Boolean, Object, Array}
use Rattle.jc_methods.specs.DescriptorTypes.{before, naming, behind, base_type, in_arrays, types_from, front_of, field_type_in}
use Rattle.jc_machine_model.specs.Values.{Value, int, long, null}
use Rattle.jc_machine_model.specs.Begin.{first_of}
use Rattle.jc_machine_model.specs.Programs.{IsFirstOf}
use Rattle.jc_machine_code.specs.FirstValues.{value_by, FitsLetter}

-- ---- arrays and objects

array_null : (n : ℕ) (t : FieldType) (k : ℤ) → first_of (Some (in_arrays n (Array t))) k ≡ null
array_null zero t k = refl
array_null (suc n) t k = array_null n (Array t) k

object_null : (n : ℕ) (name : List ℕ) (k : ℤ) → first_of (Some (in_arrays n (Object name))) k ≡ null
object_null zero name k = refl
object_null (suc n) name k = array_null n (Object name) k

abbrev FirstNull : List FieldType → ℤ → Type 0
FirstNull types k = first_of (front_of types) k ≡ null

behind_null : (rest : List ℕ) (k : ℤ) → FirstNull (types_from behind rest) k
unfolding types_from
behind_null [] k = refl
behind_null (b ∷ rest) k = behind_null rest k

name_step : (n : ℕ) (name : List ℕ) (b : ℕ) (rest : List ℕ) (k : ℤ) (x : Bool) → FirstNull (types_from (naming n (name ++ b ∷ [])) rest) k
    → FirstNull ((if x then in_arrays n (Object name) ∷ [] else []) ++ types_from (if x then before 0 else naming n (name ++ b ∷ [])) rest) k
name_step n name b rest k true h = object_null n name k
name_step n name b rest k false h = h

name_null : (n : ℕ) (name rest : List ℕ) (k : ℤ) → FirstNull (types_from (naming n name) rest) k
unfolding types_from
name_null n name [] k = refl
name_null n name (b ∷ rest) k = name_step n name b rest k (nat_eq b 59) (name_null n (name ++ b ∷ []) rest k)

array_step : (n b : ℕ) (rest : List ℕ) (k : ℤ) (x y z : Bool) → FirstNull (types_from (before (suc (suc n))) rest) k
    → FirstNull ((if x || (y || z) then [] else in_arrays (suc n) (base_type b) ∷ [])
    ++ types_from (if x then before (suc (suc n)) else if y then naming (suc n) [] else if z then behind else before 0) rest) k
array_step n b rest k true y z h = h
array_step n b rest k false true z h = name_null (suc n) [] rest k
array_step n b rest k false false true h = behind_null rest k
array_step n b rest k false false false h = array_null n (base_type b) k

arrays_null : (n : ℕ) (rest : List ℕ) (k : ℤ) → FirstNull (types_from (before (suc n)) rest) k
unfolding types_from
arrays_null n [] k = refl
arrays_null n (b ∷ rest) k = array_step n b rest k (nat_eq b 91) (nat_eq b 76) (nat_eq b 41) (arrays_null (suc n) rest k)

-- ---- base types

abbrev Bounded : ℤ → Type 0
Bounded n = (negsuc 2147483647 ≤ℤ n) × (n ≤ℤ pos 2147483647)

base_int : (b66 b67 b68 b70 b73 b83 : Bool) (k : ℤ)
    → first_of (Some (if b66 then Byte else if b67 then Char else if b68 then Double else if b70 then Float else if b73 then Int else if false then Long else if b83 then Short else Boolean)) k ≡ int k
base_int true b67 b68 b70 b73 b83 k = refl
base_int false true b68 b70 b73 b83 k = refl
base_int false false true b70 b73 b83 k = refl
base_int false false false true b73 b83 k = refl
base_int false false false false true b83 k = refl
base_int false false false false false true k = refl
base_int false false false false false false k = refl

base_at : (b : ℕ) → Bool → FieldType
base_at b x =
    if nat_eq b 66 then Byte
    else if nat_eq b 67 then Char
    else if nat_eq b 68 then Double
    else if nat_eq b 70 then Float
    else if nat_eq b 73 then Int
    else if x then Long
    else if nat_eq b 83 then Short
    else Boolean

base_value : (b : ℕ) (k : ℤ) (x : Bool) → nat_eq b 74 ≡ x → first_of (Some (base_type b)) k ≡ (if x then long k else int k)
unfolding base_at
base_value b k true e = ap (λ c. first_of (Some (base_type c)) k) (eqb-true b 74 e)
base_value b k false e =
    ap (λ x. first_of (Some (base_at b x)) k) e ∙ base_int (nat_eq b 66) (nat_eq b 67) (nat_eq b 68) (nat_eq b 70) (nat_eq b 73) (nat_eq b 83) k

between : (low high n : ℤ) → negsuc 2147483647 ≤ℤ low → high ≤ℤ pos 2147483647 → (int_le low n && int_le n high) ≡ true → Bounded n
between low high n l h both =
    let p = and_parts (int_le low n) (int_le n high) both in
    let a : low ≤ℤ n = le_z_yes (T_from_true (int_le low n) p.0) in
    let b : n ≤ℤ high = le_z_yes (T_from_true (int_le n high) p.1) in
    (omega (arith, ints), omega (arith, ints))

none_bounded : (n : ℤ) → n ≡ pos 0 → Bounded n
none_bounded n e = subst Bounded (sym e) (le_z_yes tt, le_z_yes tt)

base_bounded : (b66 b67 b68 b70 b73 b83 : Bool) (n : ℤ)
    → IsFirstOf (Some (if b66 then Byte else if b67 then Char else if b68 then Double else if b70 then Float else if b73 then Int else if false
    then Long else if b83 then Short else Boolean)) n → Bounded n
base_bounded true b67 b68 b70 b73 b83 n h = between (negsuc 127) (pos 127) n (le_z_yes tt) (le_z_yes tt) h
base_bounded false true b68 b70 b73 b83 n h = between (pos 0) (pos 65535) n (le_z_yes tt) (le_z_yes tt) h
base_bounded false false true b70 b73 b83 n h = none_bounded n h
base_bounded false false false true b73 b83 n h = none_bounded n h
base_bounded false false false false true b83 n h = between (negsuc 2147483647) (pos 2147483647) n (le_z_yes tt) (le_z_yes tt) h
base_bounded false false false false false true n h = between (negsuc 32767) (pos 32767) n (le_z_yes tt) (le_z_yes tt) h
base_bounded false false false false false false n h = between (pos 0) (pos 1) n (le_z_yes tt) (le_z_yes tt) h

base_fits : (b : ℕ) (n : ℤ) → IsFirstOf (Some (base_type b)) n → nat_eq b 74 ≡ false → Bounded n
unfolding base_at
base_fits b n h e =
    base_bounded (nat_eq b 66) (nat_eq b 67) (nat_eq b 68) (nat_eq b 70) (nat_eq b 73) (nat_eq b 83) n (subst (λ x. IsFirstOf (Some (base_at b x)) n) e h)

-- ---- the first letter

value_step : (b : ℕ) (rest : List ℕ) (k : ℤ) (v : Value) (x y z : Bool) → first_of (Some (base_type b)) k ≡ v
    → first_of (front_of ((if x || (y || z) then [] else base_type b ∷ []) ++ types_from (if x then before 1 else if y then naming 0 [] else if z then behind else before 0) rest)) k
    ≡ (if y || (x || z) then null else v)
value_step b rest k v true true z h = arrays_null 0 rest k
value_step b rest k v true false z h = arrays_null 0 rest k
value_step b rest k v false true z h = name_null 0 [] rest k
value_step b rest k v false false true h = behind_null rest k
value_step b rest k v false false false h = h

pub letter_value : (b : ℕ) (rest : List ℕ) (k : ℤ) → value_by b k ≡ first_of (field_type_in (b ∷ rest)) k
unfolding types_from
letter_value b rest k = sym (value_step b rest k (if nat_eq b 74 then long k else int k) (nat_eq b 91) (nat_eq b 76) (nat_eq b 41) (base_value b k (nat_eq b 74) refl))

fits_step : (b : ℕ) (rest : List ℕ) (n : ℤ) (x y z : Bool)
    → IsFirstOf (front_of ((if x || (y || z) then [] else base_type b ∷ []) ++ types_from (if x then before 1 else if y then naming 0 [] else if z then behind else before 0) rest)) n
    → (y || (x || z)) ≡ false → IsFirstOf (Some (base_type b)) n
fits_step b rest n x true z h e = absurd (cc)
fits_step b rest n true false z h e = absurd (cc)
fits_step b rest n false false true h e = absurd (cc)
fits_step b rest n false false false h e = h

pub letter_fits : (b : ℕ) (rest : List ℕ) (n : ℤ) → IsFirstOf (field_type_in (b ∷ rest)) n → FitsLetter b n
unfolding types_from
letter_fits b rest n h e g = base_fits b n (fits_step b rest n (nat_eq b 91) (nat_eq b 76) (nat_eq b 41) h e) g

pub nothing_value : (k : ℤ) → null ≡ first_of (field_type_in []) k
unfolding types_from
nothing_value k = refl

-- ---- the descriptor

front_is : (desc : List ℕ) → 1 ≤ length desc → desc ≡ slice_index_or desc 0 0 ∷ drop 1 desc
front_is [] h = absurd (omega (arith, h))
front_is (b ∷ rest) h = refl

none_is : (desc : List ℕ) → length desc < 1 → desc ≡ []
none_is [] h = refl
none_is (b ∷ rest) h = absurd (omega (arith, h))

module _ (given desc : List ℕ) (n : ℤ) (same : given ≡ desc) (fits : SFits w64 n) where
  kept : to_z w64 (of_z w64 n) ≡ n
  kept = to_z-of_z w64 n fits

  pub given_fits : 1 ≤ length given → IsFirstOf (field_type_in desc) n → FitsLetter (slice_index_or given 0 0) (to_z w64 (of_z w64 n))
  given_fits h first =
      subst (FitsLetter (slice_index_or given 0 0)) (sym kept)
      (letter_fits (slice_index_or given 0 0) (drop 1 given) n (subst (λ (d : List ℕ). IsFirstOf (field_type_in d) n) (sym same ∙ front_is given h) first))

  pub given_value : 1 ≤ length given → value_by (slice_index_or given 0 0) (to_z w64 (of_z w64 n)) ≡ first_of (field_type_in desc) n
  given_value h =
      ap (value_by (slice_index_or given 0 0)) kept ∙ letter_value (slice_index_or given 0 0) (drop 1 given) n
      ∙ ap (λ (d : List ℕ). first_of (field_type_in d) n) (sym (front_is given h) ∙ same)

  pub given_nothing : length given < 1 → null ≡ first_of (field_type_in desc) n
  given_nothing h = nothing_value n ∙ ap (λ (d : List ℕ). first_of (field_type_in d) n) (sym (none_is given h) ∙ same)
