use Rattle.std.proofs.Common.{nat_eq, take}
use Rattle.std.specs.List.{list_any}
use Rattle.jc_kinds.specs.Marking.{MarksWhere}
use Rattle.jc_kinds.proofs.missing.mark_each.Given as goal

-- the places so far are marked
abbrev pub invariant-marking : goal.invariant-marking
invariant-marking l = MarksWhere l.fn.marks l.marks (λ j. list_any (nat_eq j) (take l.place-index l.places))
