use Rattle.std.proofs.Common.{length, drop, replicate, None}
use Rattle.jc_cover.specs.Planned.{with_insns}
use Rattle.jc_cover.proofs.TableLaws.{Putting}
use Rattle.jc_cover.proofs.marking.sources.Given as goal

-- those that are left give the whole
abbrev pub invariant-putting : goal.invariant-putting
invariant-putting l =
    Putting (with_insns l.at (drop l.at l.fn.branches)) (with_insns 0 l.fn.branches (replicate (length l.fn.branches) None)) (length l.fn.branches) l.sources.items
