use Rattle.std.proofs.Common.{◌≡◌, ◌++◌, take}
use Rattle.std.specs.List.{flat_map}
use Rattle.jc_exec.specs.Writing.{session_text}
use Rattle.jc_exec.proofs.packed_write.put_sessions.Given as goal

-- the sessions so far
abbrev pub invariant-writing : goal.invariant-writing
invariant-writing l = l.out.items ≡ l.fn.out.items ++ flat_map session_text (take l.place l.sessions)
