use Rattle.std.proofs.Common.{◌≡◌, take}
use Rattle.jc_refs_check.proofs.classes.copied.Given as goal

-- the names so far
abbrev pub invariant-copying : goal.invariant-copying
invariant-copying l = l.copy ≡ take l.number l.names
