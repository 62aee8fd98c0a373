use Rattle.std.proofs.Common.{◌≡◌, ◌++◌}
use Rattle.std.specs.List.{flat_map, range_with_len}
use Rattle.jc_command_sample.specs.SampleFile.{method_text}
use Rattle.jc_command_sample.proofs.file.put_methods.Given as goal

-- the methods so far
abbrev pub invariant-writing : goal.invariant-writing
invariant-writing l = l.into.items ≡ l.fn.into.items ++ flat_map method_text (range_with_len 0 l.number)
