use Rattle.std.proofs.Common.{◌≡◌, map, take}
use Rattle.jc_refs_check.specs.Unguarded.{class_at}
use Rattle.jc_refs_check.proofs.columns.classes_of.Given as goal

-- those so far
abbrev pub invariant-taking : goal.invariant-taking
invariant-taking l = l.classes.items ≡ map (class_at l.slot) (take l.state-index l.states)
