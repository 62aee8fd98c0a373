use Rattle.jc_cover.proofs.SumsLaws.{BranchesCounted}
use Rattle.jc_cover.proofs.sums.branch_count.Given as goal

-- the branches so far are counted
abbrev pub invariant-counting : goal.invariant-counting
invariant-counting l = BranchesCounted l.values l.value-index l.count
