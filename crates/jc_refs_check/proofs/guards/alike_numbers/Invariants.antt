use Rattle.jc_refs_check.specs.Unguarded.{AreAlike}
use Rattle.jc_refs_check.proofs.guards.alike_numbers.Given as goal

-- those of the frames so far
abbrev pub invariant-numbering : goal.invariant-numbering
invariant-numbering l = AreAlike l.frames l.number l.numbers.items
