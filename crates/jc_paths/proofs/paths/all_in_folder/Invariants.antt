use Rattle.std.proofs.Common.{◌≡◌, map, take}
use Rattle.jc_paths.specs.Paths.{in_folder, words_of}
use Rattle.jc_paths.proofs.paths.all_in_folder.Given as goal

-- the paths so far are those in the folder
abbrev pub invariant-joining : goal.invariant-joining
invariant-joining l = words_of l.targets.items ≡ map (in_folder l.folder) (words_of (take l.path-index l.paths))
