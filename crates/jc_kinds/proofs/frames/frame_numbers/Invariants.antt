use Rattle.jc_kinds.proofs.FrameLaws.{AreListed}
use Rattle.jc_kinds.proofs.frames.frame_numbers.Given as goal

-- the frames from `number` on are listed
abbrev pub invariant-numbering : goal.invariant-numbering
invariant-numbering l = AreListed l.frames l.count l.number l.numbers.items

abbrev pub decreases-numbering : goal.decreases-numbering
decreases-numbering l = l.number
