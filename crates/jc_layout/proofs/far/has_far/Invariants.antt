use Rattle.jc_layout.proofs.FarLaws.{AreLeft}
use Rattle.jc_layout.proofs.far.has_far.Given as goal

-- the instructions that are left decide
abbrev pub invariant-seeking : goal.invariant-seeking
invariant-seeking l = AreLeft l.starts l.code l.wide l.number
