use Rattle.std.proofs.Common.{ℕ, ◌+◌, ◌/◌, length, ◌∙◌, ap, arith}
use Rattle.jc_exec.proofs.PackedRecordLaws.{packed_size}
use Rattle.jc_exec.proofs.packed_records.put_bits.Goals as goal

pub slice_bounds-copy_from_slice-end : goal.slice_bounds-copy_from_slice-end
slice_bounds-copy_from_slice-end c =
    omega (arith, c.requires.room, packed_size c.args.bits.now ∙ ap (λ (n : ℕ). (n + 7) / 8) c.requires.count, ap length c.bytes-packed.ensures)
