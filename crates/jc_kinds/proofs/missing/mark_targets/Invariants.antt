use Rattle.std.proofs.Common.{take}
use Rattle.std.specs.List.{list_any}
use Rattle.jc_methods.specs.Flow.{targets_of}
use Rattle.jc_kinds.specs.Marking.{MarksWhere, is_among}
use Rattle.jc_kinds.proofs.missing.mark_targets.Given as goal

-- the targets of the instructions so far are marked
abbrev pub invariant-marking : goal.invariant-marking
invariant-marking l = MarksWhere l.fn.marks l.marks (λ j. list_any (λ insn. is_among (targets_of insn) j) (take l.insn-index l.code))
