use Rattle.std.proofs.Common.{◌≡◌, ℕ, ◌<◌, ◌≤◌, true}
use Rattle.jc_kinds.specs.Guarded.{column_of}
use Rattle.jc_kinds.specs.KindFits.{kind_fits}
use Rattle.jc_kinds.specs.Runs.{kind_at}
use Rattle.jc_kinds.proofs.guarded.first_in_states.Given as goal

-- the types so far fit
abbrev pub invariant-looking : goal.invariant-looking
invariant-looking l = (k : ℕ) → l.start ≤ k → k < l.at → kind_fits (kind_at (column_of l.states l.slot) k) l.want ≡ true
