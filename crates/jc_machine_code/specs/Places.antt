-- Where classes and members stand, by their names.
use Rattle.std.specs.Prelude.{◌≡◌, ℕ, Bool, ◌&&◌, List, Option, position, bytes_eq, nat_eq}
use Rattle.std.specs.Borrow.{Bor}
use Rattle.std.specs.Map.{lookup}
use Rattle.std.specs.Option.{option_map}
use Rattle.jc_methods.specs.declared.body.Body.{Body}
use Rattle.jc_methods.specs.declared.body.Use.{Use}
use Rattle.jc_methods.specs.declared.body.What.{What}
use Rattle.jc_methods.specs.WellMade.{what_used}
use Rattle.jc_programs.specs.declared.program.Linked.{Linked}
use Rattle.jc_programs.specs.declared.program.StaticField.{StaticField}
use Rattle.jc_machine_code.specs.declared.places.Member.{Member}

-- the two have one name and one descriptor
abbrev pub same_member : Member → Member → Bool
same_member a b = bytes_eq a.name.now b.name.now && bytes_eq a.desc.now b.desc.now

abbrev pub same_name : Bor (List ℕ) → Bor (List ℕ) → Bool
same_name a b = bytes_eq a.now b.now

-- the class has the name; the method and the static field are the member
abbrev pub class_has : Bor (List ℕ) → Linked → Bool
class_has name c = bytes_eq c.name name.now

abbrev pub is_method : Member → Body → Bool
is_method m b = bytes_eq b.name m.name.now && bytes_eq b.desc m.desc.now

abbrev pub is_static_field : Member → StaticField → Bool
is_static_field m f = bytes_eq f.name m.name.now && bytes_eq f.desc m.desc.now

-- the map has for each key the place of the first item that has it
abbrev pub ArePlaces : {K X : Type 0} → (K → K → Bool) → (K → X → Bool) → List X → List (K × ℕ) → Type 0
ArePlaces {K} same has xs entries = (k : K) → lookup (same k) entries ≡ position (has k) xs

-- what the map has for a place in the constant pool
abbrev pub what_in : List (ℕ × Bor What) → ℕ → Option What
what_in entries place = option_map (λ (w : Bor What). w.now) (lookup (nat_eq place) entries)

-- that is what the body uses there
abbrev pub AreWhats : List Use → List (ℕ × Bor What) → Type 0
AreWhats uses entries = (place : ℕ) → what_in entries place ≡ what_used uses place
