use Rattle.std.proofs.Common.{◌≡◌, ◌++◌, map, take}
use Rattle.jc_command_words.specs.Paths.{path_values}
use Rattle.jc_command_words.specs.Looks.{used_view}
use Rattle.jc_command_words.proofs.PathLaws.{texts}
use Rattle.jc_command_words.proofs.paths.put_values.Given as goal

-- the values so far that are paths stand behind the paths
abbrev pub invariant-putting : goal.invariant-putting
invariant-putting l = texts l.paths.items ≡ texts l.initial.paths.items ++ path_values (map used_view (take l.used-index l.uses))
