-- The words behind the program's name: uses of options, perhaps `--`, and files.
pub use Rattle.jc_paths.specs.Paths.{Word, words_of}
use Rattle.std.specs.Prelude.{Bool, true, false, not, ◌==◌, ◌&&◌, List, [], ◌∷◌, ◌++◌, codes, Option, find, option_map, if◌then◌else◌}
use Rattle.std.specs.List.{flat_map}
use Rattle.std.specs.Str.{bytes_eq}

-- neither empty nor begins with `-`
abbrev pub is_plain : Word → Bool
is_plain [] = false
is_plain (x ∷ xs) = not (x == 45)

-- the name is that of a flag, an option without a value
abbrev pub is_flag : Word → Bool
is_flag name = bytes_eq name (codes "monitors")

-- One use of an option: `--name value`, or, joined, `--name=value`. That of a flag is `--name`, and the value is then empty.
pub record Use : Type 0 where
  pub name : Word
  pub value : Word
  pub joined : Bool

-- no word for a flag's value
abbrev pub value_words : Bool → Word → List Word
value_words flag value = if flag then [] else value ∷ []

abbrev pub use_words : Use → List Word
use_words u =
    if u.joined then (45 ∷ 45 ∷ (u.name ++ 61 ∷ u.value)) ∷ []
    else (45 ∷ 45 ∷ u.name) ∷ value_words (is_flag u.name) u.value

abbrev pub is_empty : Word → Bool
is_empty [] = true
is_empty (x ∷ xs) = false

-- a flag has no value, and the value of another option is neither empty nor begins with `-`
abbrev pub is_valued : Use → Bool
is_valued u = if is_flag u.name then not u.joined && is_empty u.value else is_plain u.value

-- perhaps `--`, and the files
abbrev pub tail_words : Bool → List Word → List Word
tail_words dash files = if dash then (45 ∷ 45 ∷ []) ∷ files else files

-- the words behind the command's name
abbrev pub rest_words : List Use → Bool → List Word → List Word
rest_words uses dash files = flat_map use_words uses ++ tail_words dash files

-- what an option is given
abbrev pub value_of : List Use → Word → Option Word
value_of uses name = option_map (λ u. u.value) (find (λ u. bytes_eq u.name name) uses)
