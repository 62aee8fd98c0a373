use Rattle.std.proofs.Common.{◌≡◌, ℕ, ◌+◌, ◌≤◌, List, ◌++◌, length}
use Rattle.jc_outside.proofs.host_files.read_on.Given as goal

-- the bytes that were taken stand behind those that were there
abbrev pub invariant-reading : goal.invariant-reading
invariant-reading g l = record {
  within : l.room ≤ l.most;
  appended : (bytes : List ℕ) × (l.into.items ≡ l.fn.into.items ++ bytes) × (length bytes + l.room ≡ l.most);
}
