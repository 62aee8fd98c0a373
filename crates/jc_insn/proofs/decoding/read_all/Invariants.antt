use Rattle.std.proofs.Common.{length}
use Rattle.jc_insn.proofs.CodeReadingLaws.{Progress}
use Rattle.jc_insn.proofs.decoding.read_all.Given as goal

-- the instructions so far
abbrev pub invariant-reading : goal.invariant-reading
invariant-reading l = Progress l.fn.bytes l.reader l.code.items l.starts.items

abbrev pub decreases-reading : goal.decreases-reading
decreases-reading l = length l.reader.left
