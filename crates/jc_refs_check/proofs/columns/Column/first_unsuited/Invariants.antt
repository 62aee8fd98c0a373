use Rattle.std.proofs.Common.{ℕ, ◌-◌, ◌<◌, ◌≤◌}
use Rattle.jc_refs_check.specs.Unguarded.{IsUnsuited, class_before}
use Rattle.jc_refs_check.proofs.columns.Column.first_unsuited.Given as goal

-- the objects so far suit
abbrev pub invariant-looking : goal.invariant-looking
invariant-looking l = record {
  from : l.start ≤ l.at;
  within : l.at ≤ l.end;
  suited : (k : ℕ) → l.start ≤ k → k < l.at → IsUnsuited l.known.names (class_before l.self.classes.items k) l.want → ⊥;
}

abbrev pub decreases-looking : goal.decreases-looking
decreases-looking l = l.end - l.at
