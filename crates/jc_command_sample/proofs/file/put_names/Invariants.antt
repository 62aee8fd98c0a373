use Rattle.std.proofs.Common.{◌≡◌, ◌++◌}
use Rattle.jc_command_sample.specs.SampleFile.{name_entries}
use Rattle.jc_command_sample.proofs.file.put_names.Given as goal

-- the names so far
abbrev pub invariant-naming : goal.invariant-naming
invariant-naming l = l.into.items ≡ l.fn.into.items ++ name_entries l.number
