use Rattle.std.proofs.Common.{◌≡◌, ◌∙◌, ap, refl, not, inl, rules}
use Rattle.indexmap.specs.IndexMap.{insert_entry}
use Rattle.jc_pool.specs.Index.{same_key, key_place}
use Rattle.jc_pool.proofs.FirstPlaceMapLaws.{key_fresh, not_found, was_found}
use Rattle.jc_pool.proofs.index.note_key.Goals as goal

pub returns-then-is_none : goal.returns-then-is_none
returns-then-is_none c =
    let put : c.insert-stored.new.self.entries ≡ insert_entry same_key c.args.keys.now.entries c.args.key c.args.place = search rules in
    let none = not_found c.get.result (key_place c.args.keys.now.entries c.args.key) c.get.ensures.value (c.is_none.ensures ∙ ap not c.if-is_none.true) in
    (c.args.place, key_fresh c.args.keys.now.entries c.insert-stored.new.self.entries c.args.key c.args.place put none)

pub returns-else-is_none : goal.returns-else-is_none
returns-else-is_none c =
    let first = was_found c.get.result (key_place c.args.keys.now.entries c.args.key) c.get.ensures.value (c.is_none.ensures ∙ ap not c.if-is_none.false) in
    (first.0, inl (first.1, λ k. refl))
