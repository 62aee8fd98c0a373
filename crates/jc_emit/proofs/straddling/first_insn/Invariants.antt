use Rattle.std.proofs.Common.{ℕ, ◌<◌}
use Rattle.jc_emit.specs.Straddling.{InsnStraddles}
use Rattle.jc_emit.proofs.straddling.first_insn.Given as goal

-- none straddles so far
abbrev pub invariant-seeking : goal.invariant-seeking
invariant-seeking l = (k : ℕ) → k < l.at → InsnStraddles l.arg_slots l.code k → ⊥
