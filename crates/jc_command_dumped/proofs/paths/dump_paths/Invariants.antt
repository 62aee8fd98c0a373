use Rattle.std.proofs.Common.{◌≡◌, map}
use Rattle.std.specs.List.{range_with_len}
use Rattle.jc_paths.specs.Paths.{words_of}
use Rattle.jc_command_dumped.specs.DumpedAnswers.{dump_path}
use Rattle.jc_command_dumped.proofs.paths.dump_paths.Given as goal

-- the paths so far are those of the dumps so far
abbrev pub invariant-naming : goal.invariant-naming
invariant-naming l = words_of l.paths.items ≡ map (dump_path l.dir) (range_with_len 0 l.before)
