use Rattle.std.proofs.Common.{◌≡◌, drop}
use Rattle.jc_cover.specs.Sums.{plus, insns_sums}
use Rattle.jc_cover.proofs.sums.method_sums.Given as goal

-- what is left to add gives the whole
abbrev pub invariant-counting : goal.invariant-counting
invariant-counting l = plus l.sums (insns_sums (drop l.values-index l.insns)) ≡ insns_sums l.insns
