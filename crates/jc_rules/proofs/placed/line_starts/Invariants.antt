use Rattle.std.proofs.Common.{drop, replicate, None}
use Rattle.jc_cover.specs.Lines.{with_lines}
use Rattle.jc_cover.proofs.TableLaws.{Putting}
use Rattle.jc_rules.proofs.placed.line_starts.Given as goal

-- the entries that are left give the whole
abbrev pub invariant-starting : goal.invariant-starting
invariant-starting l = Putting (with_lines (drop l.line-index l.table)) (with_lines l.table (replicate l.count None)) l.count l.starts.items
