use Rattle.std.proofs.Common.{length}
use Rattle.jc_exec.proofs.GatherLaws.{Progress}
use Rattle.jc_exec.proofs.gathering.take_blocks.Given as goal

-- the blocks so far
abbrev pub invariant-reading : goal.invariant-reading
invariant-reading g l = Progress l.fn.known l.fn.offset l.fn.bytes (g.T.Table.held l.fn.table) l.reader (g.T.Table.held l.table)

abbrev pub decreases-reading : goal.decreases-reading
decreases-reading g l = length l.reader.left
