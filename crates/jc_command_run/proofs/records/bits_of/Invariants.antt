use Rattle.std.proofs.Common.{◌≡◌, take, slice_index_or, []}
use Rattle.jc_command_run.proofs.records.bits_of.Given as goal

-- the first so many truth values were copied
abbrev pub invariant-copying : goal.invariant-copying
invariant-copying l = l.bits ≡ take l.id (slice_index_or l.hits l.class [])
