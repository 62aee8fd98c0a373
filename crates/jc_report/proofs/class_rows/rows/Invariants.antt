use Rattle.std.proofs.Common.{◌≡◌, take}
use Rattle.jc_report.specs.Rows.{each_row}
use Rattle.jc_report.proofs.class_rows.rows.Given as goal

-- the rows of the classes so far
abbrev pub invariant-making : goal.invariant-making
invariant-making l = l.rows.items ≡ each_row l.name (take l.class-index l.classes)
