use Rattle.std.proofs.Common.{◌≡◌, map, take, not}
use Rattle.std.specs.List.{filter}
use Rattle.jc_command_words.specs.Words.{words_of}
use Rattle.jc_paths.specs.Paths.{ends_with_slash, in_folder}
use Rattle.jc_command_words.proofs.paths.targets_in.Given as goal

-- the paths so far are those of the files so far
abbrev pub invariant-joining : goal.invariant-joining
invariant-joining l = words_of l.targets.items ≡ map (in_folder l.dest) (filter (λ file. not (ends_with_slash file)) (words_of (take l.file-index l.files)))
