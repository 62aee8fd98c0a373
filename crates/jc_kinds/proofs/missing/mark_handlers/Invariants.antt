use Rattle.std.proofs.Common.{nat_eq, take}
use Rattle.std.specs.List.{list_any}
use Rattle.jc_kinds.specs.Marking.{MarksWhere}
use Rattle.jc_kinds.proofs.missing.mark_handlers.Given as goal

-- the places of the handlers so far are marked
abbrev pub invariant-marking : goal.invariant-marking
invariant-marking l = MarksWhere l.fn.marks l.marks (λ j. list_any (λ h. nat_eq h.target j) (take l.handler-index l.handlers))
