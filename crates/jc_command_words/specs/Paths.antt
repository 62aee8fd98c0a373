-- Paths among the words.
use Rattle.std.specs.Prelude.{ℕ, Bool, true, false, not, ◌&&◌, ◌||◌, List, []}
use Rattle.std.specs.Prelude.{◌∷◌, ◌++◌, map, codes, nat_eq, Option, Some, None, if◌then◌else◌}
use Rattle.std.specs.List.{filter, list_all, list_any}
use Rattle.std.specs.Str.{bytes_eq}
use Rattle.jc_paths.specs.Paths.{ends_with_slash, file_text, path_of, in_folder}
use Rattle.jc_command_words.specs.declared.name.CommandName.{CommandName}
use Rattle.jc_command_words.specs.declared.name.CommandName.TheVariants.{Instrument, Run, Merge, Report, ExecInfo, ClassInfo, Cover, Refs, Lines, Check}
use Rattle.jc_command_words.specs.Words.{Word, Use, value_of}

-- the parts of a path, with a `/` between each and the next
abbrev pub with_first : ℕ → List Word → List Word
with_first b [] = (b ∷ []) ∷ []
with_first b (part ∷ parts) = (b ∷ part) ∷ parts

abbrev pub components : Word → List Word
components [] = [] ∷ []
components (b ∷ bytes) = if nat_eq b 47 then [] ∷ components bytes else with_first b (components bytes)

-- neither empty nor `.` nor `..`
abbrev pub is_component : Word → Bool
is_component [] = false
is_component (a ∷ []) = not (nat_eq a 46)
is_component (a ∷ b ∷ []) = not (nat_eq a 46 && nat_eq b 46)
is_component (a ∷ b ∷ c ∷ rest) = true

-- The path leads to no other folder: it doesn't begin with `/`, and no part is empty, `.` or `..`. The `/` at a folder's
-- end is no part of its path.
abbrev pub is_relative : Word → Bool
is_relative word = list_all is_component (components (path_of (file_text word)))

-- whether the files of a command are relative
abbrev pub wants_relative : CommandName → Bool
wants_relative Instrument = true
wants_relative Run = true
wants_relative Merge = false
wants_relative Report = false
wants_relative ExecInfo = false
wants_relative ClassInfo = true
wants_relative Cover = true
wants_relative Refs = true
wants_relative Lines = false
wants_relative Check = false

abbrev pub are_relative : CommandName → List Word → Bool
are_relative name files = not (wants_relative name) || list_all is_relative files

-- the options whose values are paths of files
abbrev pub path_options : List Word
path_options = codes "plan" ∷ codes "destfile" ∷ codes "csv" ∷ codes "exec" ∷ []

abbrev pub is_path_use : Use → Bool
is_path_use u = list_any (bytes_eq u.name) path_options

abbrev pub path_values : List Use → List Word
path_values uses = map (λ u. u.value) (filter is_path_use uses)

-- the paths in the folder `--dest` of the files that are no folders
abbrev pub targets_in : Option Word → List Word → List Word
targets_in None files = []
targets_in (Some dest) files = map (in_folder dest) (filter (λ file. not (ends_with_slash file)) files)

-- the paths that words name: the files, the values of the options that are paths, and the paths of the files in `--dest`
abbrev pub named_paths : List Use → List Word → List Word
named_paths uses files = files ++ (path_values uses ++ targets_in (value_of uses (codes "dest")) files)

-- no two of the words are equal
abbrev pub are_distinct : List Word → Bool
are_distinct [] = true
are_distinct (w ∷ words) = not (list_any (bytes_eq w) words) && are_distinct words
