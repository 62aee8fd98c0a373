use Rattle.std.proofs.Common.{◌≡◌, take}
use Rattle.jc_exec.specs.Store.{entries_of}
use Rattle.jc_exec.proofs.packed_records.PackedRecords.of.Given as goal

-- the records so far
abbrev pub invariant-packing : goal.invariant-packing
invariant-packing l = l.packed ≡ entries_of (take l.hits-index l.classes)
