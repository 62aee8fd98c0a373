use Rattle.std.proofs.Common.{ap, length, arith}
use Rattle.jc_exec.proofs.PackedRecordLaws.{entries_size}
use Rattle.jc_exec.proofs.packed_records.PackedRecords.len.Goals as goal

pub returns : goal.returns
returns c = omega (arith, entries_size c.self.inside.bytes.items c.self.inside.ids c.self.inside.rows.items c.self.invariant, ap length c.self.view_is)
