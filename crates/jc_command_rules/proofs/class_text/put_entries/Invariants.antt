use Rattle.std.proofs.Common.{◌≡◌, ◌++◌, take}
use Rattle.std.specs.List.{flat_map}
use Rattle.jc_command_rules.specs.LinesAnswers.{entry_line}
use Rattle.jc_command_rules.proofs.class_text.put_entries.Given as goal

-- the lines of the entries so far stand at the end
abbrev pub invariant-putting : goal.invariant-putting
invariant-putting l = l.text.items ≡ l.fn.text.items ++ flat_map entry_line (take l.entry-index l.list)
