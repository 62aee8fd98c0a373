use Rattle.std.proofs.Common.{◌≡◌, take}
use Rattle.jc_kinds.specs.Guarded.{column_of}
use Rattle.jc_kinds.proofs.guarded.column_of.Given as goal

-- the types before the instructions so far
abbrev pub invariant-taking : goal.invariant-taking
invariant-taking l = l.kinds.items ≡ column_of (take l.state-index l.states) l.slot
