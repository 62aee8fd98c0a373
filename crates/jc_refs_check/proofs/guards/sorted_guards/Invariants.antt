use Rattle.std.proofs.Common.{take}
use Rattle.jc_refs_check.specs.HeldTypes.{EachSays}
use Rattle.jc_refs_check.specs.Unguarded.{IsGuardOf}
use Rattle.jc_refs_check.proofs.guards.sorted_guards.Given as goal

-- the rows so far
abbrev pub invariant-taking : goal.invariant-taking
invariant-taking l = EachSays (IsGuardOf l.body) (take l.row-index l.body.handlers) l.guards.items
