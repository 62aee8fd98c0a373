use Rattle.std.specs.Prelude.{ℕ, ◌<◌}
use Rattle.jc_instrument.specs.Bootstraps.{AsksPastAt}
use Rattle.jc_instrument.proofs.bootstraps.asks_past.Given as goal

-- none of the entries so far asks
abbrev pub invariant-asking : goal.invariant-asking
invariant-asking l = (at : ℕ) → at < l.place → AsksPastAt l.pool l.count at → ⊥
