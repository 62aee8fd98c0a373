use Rattle.std.proofs.Common.{map, option_to_list}
use Rattle.std.specs.List.{flat_map}
use Rattle.jc_command_work.specs.Seen.{Prints}
use Rattle.jc_command_rules.specs.Printing.{text_seen}
use Rattle.jc_command_rules.proofs.lines.with_texts.Given as goal

-- the texts so far were put
abbrev pub invariant-printing : goal.invariant-printing
invariant-printing l = Prints l.fn.lines.items (flat_map option_to_list (map text_seen l.yielded)) l.writes.items
