use Rattle.std.proofs.Common.{◌+◌, ℕ, ap, refl}
use Rattle.jc_pool.specs.Index.{key_at, key_place, slot_key}
use Rattle.jc_pool.proofs.IndexLaws.{more_keys, key_there, slot_there}
use Rattle.jc_pool.proofs.index.keys_of.Goals as goal

pub reading-preserved : goal.reading-preserved
reading-preserved c =
    let pool = c.args.slots.now in
    let at = slot_there pool c.reading.slot-index c.slot-item.result c.reading-test.true c.slot-item.is in (
      ap (λ (k : ℕ). k + 1) c.reading.invariant.0,
      more_keys (key_at c.args.firsts.now pool) c.reading.slot-index (c.reading.slot-index + 1) c.reading.place (key_place c.reading.keys.entries) (key_place c.note_slot.new.keys.entries)
          (slot_key c.args.firsts.now c.slot-item.result) (key_there c.args.firsts.now pool c.reading.slot-index c.slot-item.result at)
          c.reading.invariant.0 refl c.in_ok-note_slot.ensures c.reading.invariant.1,
    )
