use Rattle.std.proofs.Common.{◌≡◌, drop, None}
use Rattle.jc_cover.specs.Counters.{best_line}
use Rattle.tests_rules.proofs.slow.line_of.Given as goal

-- the entries that are left give the whole
abbrev pub invariant-looking : goal.invariant-looking
invariant-looking l = best_line l.at l.best (drop l.entry-index l.table) ≡ best_line l.at None l.table
