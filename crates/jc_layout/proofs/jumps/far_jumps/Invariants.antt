use Rattle.jc_layout.proofs.JumpListsLaws.{AreFarSoFar}
use Rattle.jc_layout.proofs.jumps.far_jumps.Given as goal

-- the far ones of the jumps so far
abbrev pub invariant-seeking : goal.invariant-seeking
invariant-seeking l = AreFarSoFar l.jumps l.ends l.wide l.place l.far.items
