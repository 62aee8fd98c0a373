use Rattle.std.proofs.Common.{◌≡◌, map, take}
use Rattle.jc_refs_check.specs.Known.{known_by}
use Rattle.jc_refs_check.proofs.classes.Classes.learn.Given as goal

-- what the names so far tell
abbrev pub invariant-learning : goal.invariant-learning
invariant-learning l = record {
  names : l.self.names ≡ l.fn.self.names;
  known : l.self.known.items ≡ map known_by (take l.number l.self.names);
}
