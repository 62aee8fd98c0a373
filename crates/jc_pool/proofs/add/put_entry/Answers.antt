use Rattle.std.proofs.Common.{List, ℕ, refl, rules, subst}
use Rattle.jc_pool.specs.Adding.{IsPut}
use Rattle.jc_pool.specs.Index.{NotesEntry, key_in, key_place, member_key_at}
use Rattle.jc_pool.proofs.AddingLaws.{entry_indexed}
use Rattle.jc_pool.proofs.add.put_entry.Goals as goal

pub returns-clause-index : goal.returns-clause-index
returns-clause-index c =
    let put : IsPut c.args.slots.now.items c.put_reserved.new.slots.items c.args.entry c.len-place.result = search rules in
    let notes : NotesEntry (key_place c.args.index.now.keys.entries) (key_place c.note_entry.new.keys.entries) (key_in c.args.index.now.firsts.items c.args.entry) c.len-place.result =
    subst (λ (l : List ℕ). NotesEntry (key_place c.args.index.now.keys.entries) (key_place c.note_entry.new.keys.entries) (key_in l c.args.entry)
    c.len-place.result) c.deref.ensures.value c.note_entry.ensures in
    let member_notes : NotesEntry (key_place c.args.index.now.members.keys.entries) (key_place c.note_behind.new.members.entries)
    (member_key_at c.args.index.now.firsts.items c.put_reserved.new.slots.items c.len-place.result) c.len-place.result =
    search rules in
    entry_indexed c.args.slots.now.items c.put_reserved.new.slots.items c.args.index.now
    (record {
      firsts = c.args.index.now.firsts;
      texts = c.args.index.now.texts;
      keys = c.note_entry.new.keys;
      members = record { keys = c.note_behind.new.members; within = c.args.index.now.members.within };
    }) c.args.entry c.len-place.result refl refl c.requires.other
    c.requires.within put notes member_notes refl c.requires.index
