-- The files that words name: a folder stands for the class files of its own.
use Rattle.std.specs.Prelude.{List, [], ◌∷◌, ◌++◌, cond}
use Rattle.std.specs.List.{list_any}
use Rattle.std.specs.Str.{bytes_eq}
use Rattle.jc_paths.specs.Paths.{FileText, plain, folder}
use Rattle.jc_command_work.specs.Step.{Word}
use Rattle.jc_command_work.specs.Part.{Part, giving, listing, ◌>>=◌}

-- the paths that aren't among those seen, each where it stands first
abbrev pub once : List Word → List Word → List Word
once seen [] = []
once seen (path ∷ paths) = cond (list_any (λ p. bytes_eq p path) seen) (once seen paths) (path ∷ once (path ∷ seen) paths)

-- the path of a file, or those of a folder's class files
abbrev pub paths_of : FileText → Part (List Word)
paths_of (plain path) = giving (path ∷ [])
paths_of (folder path) = listing path

abbrev pub all_paths : List FileText → Part (List Word)
all_paths [] = giving []
all_paths (file ∷ files) = do
  paths ← paths_of file
  more ← all_paths files
  giving (paths ++ more)

-- the files that the words name; a path that has come before is dropped
abbrev pub files_of : List FileText → Part (List Word)
files_of files = do
  paths ← all_paths files
  giving (once [] paths)
