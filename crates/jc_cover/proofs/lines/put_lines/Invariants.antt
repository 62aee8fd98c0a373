use Rattle.jc_cover.proofs.StartsLaws.{Lining}
use Rattle.jc_cover.proofs.lines.put_lines.Given as goal

-- the instructions so far have their lines
abbrev pub invariant-lining : goal.invariant-lining
invariant-lining l = Lining l.table l.fn.insns l.at l.fn.lines.all.items l.fn.lines.covered.items l.lines.all.items l.lines.covered.items l.line
