use Rattle.std.proofs.Common.{refl, rules}
use Rattle.jc_pool.specs.declared.entry.Entry.TheVariants as entry
use Rattle.jc_pool.specs.Adding.{IsPut}
use Rattle.jc_pool.proofs.AddingLaws.{text_indexed}
use Rattle.jc_pool.proofs.add.put_text.Goals as goal

pub returns-clause-index : goal.returns-clause-index
returns-clause-index c =
    let put : IsPut c.args.slots.now.items c.push_reserved.new.self.items (entry.Utf8 c.args.text.now) c.len-place.result = search rules in
    text_indexed c.args.slots.now.items c.push_reserved.new.self.items c.args.index.now
    (record { firsts = c.args.index.now.firsts; texts = c.note_text.new.texts; keys = c.args.index.now.keys; members = c.args.index.now.members })
    c.args.text.now c.len-place.result c.in_ok-note_text.field-0
    (record { firsts = refl; keys = refl; members = refl; within = refl }) put c.in_ok-note_text.ensures.ok c.requires.new c.requires.index
