-- The class files that words name: paths, and folders of class files.
use Rattle.std.specs.Prelude.{◌≡◌, List, [], ◌∷◌, ◌++◌, filter, Option}
use Rattle.std.specs.FinMap.{keys}
use Rattle.std.specs.List.{flat_map}
use Rattle.jc_outside.specs.Folder.{front_of, is_class_file}
use Rattle.jc_outside.specs.Outside.{FileMap, IsListing}
use Rattle.jc_paths.specs.Paths.{FileText, plain, folder}
use Rattle.jc_command_work.specs.Step.{Word}
use Rattle.jc_command_work.specs.Folders.{once}

-- ---- where contents are told

-- the path of a file, or those of a folder's class files, in the order of their bytes
abbrev pub named_by : FileMap → FileText → List Word
named_by m (plain path) = path ∷ []
named_by m (folder path) = filter (is_class_file (front_of path)) (keys m)

-- those of all; a path that has come before is dropped
abbrev pub named_paths : FileMap → List FileText → List Word
named_paths m files = once [] (flat_map (named_by m) files)

-- ---- told or not

-- The path of a file, or those that a folder lists: where contents aren't told, it may list any class files of its own.
abbrev pub IsNamedBy : Option FileMap → FileText → List Word → Type 0
IsNamedBy contents (plain path) paths = paths ≡ path ∷ []
IsNamedBy contents (folder path) paths = IsListing contents path paths

abbrev pub AreNamedBy : Option FileMap → List FileText → List Word → Type 0
AreNamedBy contents [] paths = paths ≡ []
AreNamedBy contents (file ∷ files) paths =
    (here more : List Word) × IsNamedBy contents file here × AreNamedBy contents files more × (paths ≡ here ++ more)

-- those of all; a path that has come before is dropped
abbrev pub AreNamed : Option FileMap → List FileText → List Word → Type 0
AreNamed contents files paths = (all : List Word) × AreNamedBy contents files all × (paths ≡ once [] all)
