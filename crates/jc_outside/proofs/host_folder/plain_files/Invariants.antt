use Rattle.std.proofs.Common.{map, string_bytes}
use Rattle.std.specs.List.{AllPass}
use Rattle.jc_outside.specs.Folder.{is_class_file}
use Rattle.jc_outside.proofs.host_folder.plain_files.Given as goal

-- the paths so far are of class files
abbrev pub invariant-listing : goal.invariant-listing
invariant-listing g l = AllPass (is_class_file l.front) (map string_bytes l.paths.items)
