-- Which descriptors describe integral types.
use Rattle.std.proofs.Common.{◌≡◌, ℕ, zero, suc, Bool, true, false, not, ◌&&◌, ◌||◌, List, [], ◌∷◌, ◌++◌, nat_eq, refl, sym, Some, if◌then◌else◌, ◌<◌, ◌≤◌}
use Rattle.std.proofs.Common.{length, slice_index_or, arith}
use Rattle.std.specs.Prelude.{⊤}
use Rattle.jc_bytes.specs.Descriptor.{FieldType, Array, Object}
use Rattle.jc_methods.specs.DescriptorTypes.{Standing, before, naming, behind, base_type, in_arrays, types_from, front_of, field_type_in}
use Rattle.jc_machine.specs.IntegralFields.{is_integral_letter, is_integral}

-- reading stands behind `[` or `L`, or behind the last type
abbrev IsPast : Standing → Type 0
IsPast (before zero) = ⊥
IsPast _ = ⊤

array_no : (n : ℕ) (type : FieldType) → is_integral (Some (in_arrays n (Array type))) ≡ false
array_no zero type = refl
array_no (suc n) type = array_no n (Array type)

object_no : (n : ℕ) (name : List ℕ) → is_integral (Some (in_arrays n (Object name))) ≡ false
object_no zero name = refl
object_no (suc n) name = array_no n (Object name)

past_no : (bytes : List ℕ) (s : Standing) → IsPast s → is_integral (front_of (types_from s bytes)) ≡ false
unfolding types_from
past_no [] s p = refl
past_no (b ∷ bytes) (before zero) p = absurd p
past_no (b ∷ bytes) (before (suc n)) p =
    by (past_no bytes (before (suc (suc n))) tt) (past_no bytes (naming (suc n) []) tt) (past_no bytes behind tt) (nat_eq b 91) (nat_eq b 76) (nat_eq b 41)
  where
    by : is_integral (front_of (types_from (before (suc (suc n))) bytes)) ≡ false → is_integral (front_of (types_from (naming (suc n) []) bytes)) ≡ false
        → is_integral (front_of (types_from behind bytes)) ≡ false
        → (x y z : Bool) → is_integral
        (front_of ((if x || (y || z) then [] else in_arrays (suc n) (base_type b) ∷ []) ++ types_from
        (if x then before (suc (suc n)) else (if y then naming (suc n) [] else (if z then behind else before 0))) bytes)) ≡ false
    by deeper named over true y z = deeper
    by deeper named over false true z = named
    by deeper named over false false true = over
    by deeper named over false false false = array_no n (base_type b)
past_no (b ∷ bytes) (naming n name) p = by (past_no bytes (naming n (name ++ b ∷ [])) tt) (nat_eq b 59)
  where
    by : is_integral (front_of (types_from (naming n (name ++ b ∷ [])) bytes)) ≡ false
        → (x : Bool) → is_integral
        (front_of ((if x then in_arrays n (Object name) ∷ [] else []) ++ types_from (if x then before 0 else naming n (name ++ b ∷ [])) bytes)) ≡ false
    by named true = object_no n name
    by named false = named
past_no (b ∷ bytes) behind p = past_no bytes behind tt

-- the first letter decides
pub first_letter : (b : ℕ) (bytes : List ℕ) → is_integral_letter b ≡ is_integral (field_type_in (b ∷ bytes))
unfolding types_from
first_letter b bytes = by (past_no bytes (before 1) tt) (past_no bytes (naming 0 []) tt) (past_no bytes behind tt) (nat_eq b 91) (nat_eq b 76) (nat_eq b 41)
  where
    by : is_integral (front_of (types_from (before 1) bytes)) ≡ false → is_integral (front_of (types_from (naming 0 []) bytes)) ≡ false
        → is_integral (front_of (types_from behind bytes)) ≡ false
        → (x y z : Bool) → (not (x || (y || z)) && is_integral (Some (base_type b)))
        ≡ is_integral (front_of
        ((if x || (y || z) then [] else base_type b ∷ []) ++ types_from
        (if x then before 1 else (if y then naming 0 [] else (if z then behind else before 0))) bytes))
    by deeper named over true y z = sym deeper
    by deeper named over false true z = sym named
    by deeper named over false false true = sym over
    by deeper named over false false false = refl

pub letter_there : (desc : List ℕ) (d : ℕ) → 1 ≤ length desc → is_integral_letter (slice_index_or desc 0 d) ≡ is_integral (field_type_in desc)
letter_there [] d some = absurd (omega arith)
letter_there (b ∷ bytes) d some = first_letter b bytes

pub none_there : (desc : List ℕ) → length desc < 1 → false ≡ is_integral (field_type_in desc)
unfolding types_from
none_there [] none = refl
none_there (b ∷ bytes) none = absurd (omega arith)
