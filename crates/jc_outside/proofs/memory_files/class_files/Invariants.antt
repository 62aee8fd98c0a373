use Rattle.std.proofs.Common.{◌≡◌, ◌++◌, map, string_bytes, filter}
use Rattle.std.specs.BTreeMap.{keys}
use Rattle.jc_outside.specs.Folder.{is_class_file}
use Rattle.jc_outside.proofs.memory_files.class_files.Given as goal

-- the class files so far, and those that are left
abbrev pub invariant-listing : goal.invariant-listing
invariant-listing l = map string_bytes l.paths.items ++ filter (is_class_file l.front) (map string_bytes l.path-iterator) ≡ filter (is_class_file l.front) (map string_bytes (keys l.files))
