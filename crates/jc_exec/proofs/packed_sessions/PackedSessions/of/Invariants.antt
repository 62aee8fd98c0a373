use Rattle.std.proofs.Common.{◌≡◌, take}
use Rattle.jc_exec.proofs.packed_sessions.PackedSessions.of.Given as goal

-- the sessions so far
abbrev pub invariant-packing : goal.invariant-packing
invariant-packing l = l.packed ≡ take l.session-index l.sessions
