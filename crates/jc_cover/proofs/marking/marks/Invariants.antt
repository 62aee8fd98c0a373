use Rattle.std.proofs.Common.{length, drop, replicate, false}
use Rattle.jc_cover.specs.Planned.{mark_insns}
use Rattle.jc_cover.proofs.TableLaws.{Putting}
use Rattle.jc_cover.proofs.marking.marks.Given as goal

-- those that are left give the whole
abbrev pub invariant-marking : goal.invariant-marking
invariant-marking l =
    Putting (mark_insns l.hits l.sources (length l.sources) l.at (drop l.at l.fn.branches))
    (mark_insns l.hits l.sources (length l.sources) 0 l.fn.branches (replicate (length l.sources) false)) (length l.sources) l.marks.items
