use Rattle.jc_pool.specs.Index.{text_place}
use Rattle.jc_pool.specs.Lookup.{utf8_of}
use Rattle.jc_pool.proofs.IndexLaws.{TextsRead}
use Rattle.jc_pool.proofs.index.texts_of.Given as goal

abbrev pub invariant-reading : goal.invariant-reading
invariant-reading l = TextsRead (utf8_of l.slots) l.slot-index l.firsts.items (text_place l.texts.entries (λ x. x.items))
