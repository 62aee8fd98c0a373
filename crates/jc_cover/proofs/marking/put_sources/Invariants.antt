use Rattle.std.proofs.Common.{length, drop}
use Rattle.jc_cover.specs.Planned.{with_branches}
use Rattle.jc_cover.proofs.TableLaws.{Putting}
use Rattle.jc_cover.proofs.marking.put_sources.Given as goal

-- those that are left give the whole
abbrev pub invariant-putting : goal.invariant-putting
invariant-putting l = Putting (with_branches l.at (drop l.branch-index l.branches)) (with_branches l.at l.branches l.fn.sources.items) (length l.fn.sources.items) l.sources.items
