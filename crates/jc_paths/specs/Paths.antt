-- The paths of files and folders, as words name them.
use Rattle.std.specs.Prelude.{ℕ, Bool, List, ◌++◌, ◌-◌, String, codes, if◌then◌else◌, length, map, nat_eq, string_bytes, take}
use Rattle.std.specs.List.{ends_with}
use Rattle.std.specs.declared.alloc.Global.{Global}

abbrev pub Word : Type 0
Word = List ℕ

abbrev pub words_of : List (String Global) → List Word
words_of words = map string_bytes words

abbrev pub ends_with_slash : Word → Bool
ends_with_slash word = ends_with nat_eq word (codes "/")

-- a file, or, by a word that ends with `/`, a folder, which stands for files in it
pub data FileText : Type 0 where
  plain : Word → FileText
  folder : Word → FileText

-- the path of a folder is the text before the last `/`
abbrev pub file_text : Word → FileText
file_text word = if ends_with_slash word then folder (take (length word - 1) word) else plain word

abbrev pub path_of : FileText → Word
path_of (plain path) = path
path_of (folder path) = path

-- the path of a file in a folder: a `/` stands between the two, unless the folder's path ends with one
abbrev pub in_folder : (dir path : Word) → Word
in_folder dir path = if ends_with_slash dir then dir ++ path else dir ++ (codes "/" ++ path)
