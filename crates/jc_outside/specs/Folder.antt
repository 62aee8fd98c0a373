-- The class files of a folder's own.
use Rattle.std.specs.Prelude.{ℕ, ◌==◌, ◌&&◌, Bool, not, List, [], ◌∷◌, ◌++◌, nat_eq, length, drop, codes, if◌then◌else◌}
use Rattle.std.specs.List.{starts_with, ends_with, list_any}

-- what a path in the folder has before the name: the folder's path, and a `/` unless that path ends with one
unfoldable pub front_of : List ℕ → List ℕ
front_of folder = if ends_with nat_eq folder (47 ∷ []) then folder else folder ++ 47 ∷ []

-- a name that ends with `.class`, of a file of the folder's own: it has no `/`
unfoldable pub is_class_name : List ℕ → Bool
is_class_name name = ends_with nat_eq name (codes ".class") && not (list_any (λ byte. byte == 47) name)

-- the path of a class file: what stands before the name, and such a name
unfoldable pub is_class_file : List ℕ → List ℕ → Bool
is_class_file front path = starts_with nat_eq path front && is_class_name (drop (length front) path)
