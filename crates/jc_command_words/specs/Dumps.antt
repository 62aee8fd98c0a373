-- The paths of dumps in a folder: `1.exec` to `256.exec`.
use Rattle.std.specs.Prelude.{◌≡◌, ⊤, ◌-◌, ℕ, Bool, false, ◌&&◌, List, [], ◌++◌, length, take, drop, codes, Option, Some, None, is_some, All}
use Rattle.std.specs.List.{list_any}
use Rattle.std.specs.Str.{bytes_eq}
use Rattle.jc_paths.specs.Paths.{in_folder}
use Rattle.jc_command_words.specs.Words.{Word}
use Rattle.jc_command_words.specs.Numbers.{IsNumber, number_up_to}

-- the path of a dump in the folder, by its number
pub record IsDump (dir path : Word) : Type 0 where
  pub number : Word
  pub n : ℕ
  pub number_is : IsNumber 256 number n
  pub path_is : path ≡ in_folder dir (number ++ codes ".exec")

-- where there is a folder for dumps, none of the paths is that of a dump in it
abbrev pub NoneIsDump : Option Word → List Word → Type 0
NoneIsDump None paths = ⊤
NoneIsDump (Some dir) paths = All (λ path. IsDump dir path → ⊥) paths

-- ---- decided by tests

-- a number from 1 to 256, and `.exec`
abbrev pub is_dump_name : Word → Bool
is_dump_name name = bytes_eq (drop (length name - 5) name) (codes ".exec") && is_some (number_up_to 256 (take (length name - 5) name))

-- such a name behind the path of a folder that ends with `/`
abbrev pub is_dump : (folder path : Word) → Bool
is_dump folder path = bytes_eq (take (length folder) path) folder && is_dump_name (drop (length folder) path)

abbrev pub has_dump : Option Word → List Word → Bool
has_dump None paths = false
has_dump (Some dir) paths = list_any (is_dump (in_folder dir [])) paths
