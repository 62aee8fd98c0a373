use Rattle.std.proofs.Common.{◌≡◌, ℕ, ◌<◌, false}
use Rattle.jc_kinds.specs.Checking.{is_missing}
use Rattle.jc_kinds.proofs.missing.first_missing.Given as goal

-- none is missing so far
abbrev pub invariant-seeking : goal.invariant-seeking
invariant-seeking l = (k : ℕ) → k < l.at → is_missing l.framed.body.now k ≡ false
