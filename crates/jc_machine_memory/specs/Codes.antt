-- A code of the types of fields, by which a proof tells lists of heap objects apart: a type as a list of numbers.
use Rattle.std.specs.Prelude.{◌≡◌, ℕ, List, [], ◌∷◌, nat_eq, if◌then◌else◌, refl}
use Rattle.std.specs.Coded.{Coded, code_by, coded_ℕ, coded_list}
use Rattle.std.proofs.Common.{ap}
use Rattle.jc_bytes.specs.Descriptor.{FieldType, Byte, Char, Double, Float, Int, Long, Short, Boolean, Object, Array}

abbrev pub type_numbers : FieldType → List ℕ
type_numbers Byte = 0 ∷ []
type_numbers Char = 1 ∷ []
type_numbers Double = 2 ∷ []
type_numbers Float = 3 ∷ []
type_numbers Int = 4 ∷ []
type_numbers Long = 5 ∷ []
type_numbers Short = 6 ∷ []
type_numbers Boolean = 7 ∷ []
type_numbers (Object name) = 8 ∷ name
type_numbers (Array component) = 9 ∷ type_numbers component

abbrev pub type_of_numbers : List ℕ → FieldType
type_of_numbers [] = Byte
type_of_numbers (n ∷ ns) =
    if nat_eq n 0 then Byte
    else if nat_eq n 1 then Char
    else if nat_eq n 2 then Double
    else if nat_eq n 3 then Float
    else if nat_eq n 4 then Int
    else if nat_eq n 5 then Long
    else if nat_eq n 6 then Short
    else if nat_eq n 7 then Boolean
    else if nat_eq n 8 then Object ns
    else Array (type_of_numbers ns)

pub type_back : (type : FieldType) → type_of_numbers (type_numbers type) ≡ type
type_back (Array component) = ap Array (type_back component)
type_back _ = refl

abbrev pub field_type_code : Coded FieldType
field_type_code = code_by (List ℕ) (coded_list coded_ℕ) type_numbers type_of_numbers type_back
