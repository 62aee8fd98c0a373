-- Ends that name accepted files: by their indices among these, and by their places among all files.
use Rattle.std.specs.Prelude.{ℕ, List, slice_index_or}
use Rattle.jc_command_work.specs.declared.status.Fault.{Fault}
use Rattle.jc_command_work.specs.declared.status.Fault.TheVariants as faults
use Rattle.jc_command_work.specs.Part.{End, done, unmet, refused, misused, unread, unwritten, unprinted}

-- the fault, where the place of each file stands in this list under its index
abbrev pub placed : List ℕ → Fault → Fault
placed places (faults.Exec path refusal) = faults.Exec path refusal
placed places (faults.Plan line) = faults.Plan line
placed places (faults.Class path refusal) = faults.Class (slice_index_or places path 0) refusal
placed places (faults.SameName first second) = faults.SameName (slice_index_or places first 0) (slice_index_or places second 0)
placed places (faults.SameId first second) = faults.SameId (slice_index_or places first 0) (slice_index_or places second 0)
placed places (faults.NoEntry line) = faults.NoEntry line
placed places (faults.Refs path refusal) = faults.Refs (slice_index_or places path 0) refusal

-- the end, which says the same
abbrev pub end_placed : List ℕ → End → End
end_placed places done = done
end_placed places unmet = unmet
end_placed places (refused fault line) = refused (placed places fault) line
end_placed places misused = misused
end_placed places (unread path) = unread path
end_placed places (unwritten path) = unwritten path
end_placed places unprinted = unprinted
