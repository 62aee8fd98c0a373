use Rattle.std.proofs.Common.{◌≡◌, drop}
use Rattle.tests_rules.specs.Slow.{any_from, is_here}
use Rattle.tests_rules.proofs.slow.is_in_method.Given as goal

-- the instructions that are left give the answer
abbrev pub invariant-looking : goal.invariant-looking
invariant-looking l = any_from (is_here l.table l.number l.covered) l.at (drop l.at l.insns) ≡ any_from (is_here l.table l.number l.covered) 0 l.insns
