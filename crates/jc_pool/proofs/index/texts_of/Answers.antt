use Rattle.std.proofs.Common.{◌≡◌, ◌+◌, refl, rules}
use Rattle.jc_pool.specs.Index.{text_in, text_place}
use Rattle.jc_pool.specs.Lookup.{utf8_of}
use Rattle.jc_pool.proofs.IndexLaws.{more_texts, text_at, slot_there}
use Rattle.jc_pool.proofs.index.texts_of.Goals as goal

pub reading-preserved : goal.reading-preserved
reading-preserved c =
    let pool = c.args.slots.now in
    let at = slot_there pool c.reading.slot-index c.slot-item.result c.reading-test.true c.slot-item.is in
    let here : c.len-place.result ≡ c.reading.slot-index = search rules in
    more_texts (utf8_of pool) c.reading.slot-index (c.reading.slot-index + 1) c.len-place.result c.in_ok-first.first c.reading.firsts.items c.push.new.self.items
    (text_place c.reading.texts.entries (λ x. x.items)) (text_place c.note_slot_text.new.texts.entries (λ x. x.items)) (text_in c.slot-item.result)
    (text_at pool c.reading.slot-index c.slot-item.result at) here refl c.in_ok-push.ensures.items c.in_ok-first.ensures c.reading.invariant
