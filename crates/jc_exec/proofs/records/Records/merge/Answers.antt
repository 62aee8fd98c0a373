use Rattle.std.proofs.Common.{◌≡◌, List, Some, nat_eq, sym, ◌∙◌, ap, subst}
use Rattle.std.specs.Map.{lookup, set_value}
use Rattle.jc_exec.specs.declared.hits.ClassHits.{ClassHits}
use Rattle.jc_exec.specs.Adding.{Entries}
use Rattle.jc_exec.specs.Places.{IsPlaceOf}
use Rattle.jc_exec.specs.Store.{Keyed, entries_of}
use Rattle.jc_exec.proofs.EntriesLaws.{lookup_place, place_set, front_set, merged_id, id_there}
use Rattle.jc_exec.proofs.RecordLaws.{found}
use Rattle.jc_exec.proofs.records.Records.merge.Goals as goal

pub merge_into-requires-clause-there : goal.merge_into-requires-clause-there
merge_into-requires-clause-there c =
    let cs = c.self.inside.classes.items in
    let place = subst (λ (l : List ClassHits). IsPlaceOf l c.args.hits.now.id c.in_ok-place.place) c.deref.ensures.value c.in_ok-place.ensures.place in
    let at : lookup (nat_eq c.args.hits.now.id) (entries_of cs) ≡ Some c.index_mut.result.now =
    lookup_place cs c.args.hits.now.id c.in_ok-place.place c.index_mut.result.now place ∙ ap (λ (d : ClassHits). Some d) (sym c.index_mut.ensures.value) in
    (found c.args.hits.now.id (entries_of cs) c.index_mut.result.now (subst Keyed (sym c.self.view_is) c.requires.there) at).small

pub invariant_of-self : goal.invariant_of-self
invariant_of-self c =
    let cs = c.self.inside.classes.items in
    let place = subst (λ (l : List ClassHits). IsPlaceOf l c.args.hits.now.id c.in_ok-place.place) c.deref.ensures.value c.in_ok-place.ensures.place in
    let v = c.merge_into.new.there in
    let same : v.id ≡ c.args.hits.now.id = merged_id c.merge_into.result c.index_mut.result.now v c.args.hits.now c.merge_into.ensures
    ∙ id_there cs c.args.hits.now.id c.in_ok-place.place c.index_mut.result.now place c.index_mut.ensures.value in
    front_set c.self.inside.ids cs c.args.hits.now.id c.in_ok-place.place v c.self.invariant place same

pub returns-clause-some : goal.returns-clause-some
returns-clause-some c =
    let cs = c.self.inside.classes.items in
    let place = subst (λ (l : List ClassHits). IsPlaceOf l c.args.hits.now.id c.in_ok-place.place) c.deref.ensures.value c.in_ok-place.ensures.place in
    let v = c.merge_into.new.there in
    let at : lookup (nat_eq c.args.hits.now.id) (entries_of cs) ≡ Some c.index_mut.result.now =
    lookup_place cs c.args.hits.now.id c.in_ok-place.place c.index_mut.result.now place ∙ ap (λ (d : ClassHits). Some d) (sym c.index_mut.ensures.value) in
    let same : v.id ≡ c.args.hits.now.id = merged_id c.merge_into.result c.index_mut.result.now v c.args.hits.now c.merge_into.ensures
    ∙ id_there cs c.args.hits.now.id c.in_ok-place.place c.index_mut.result.now place c.index_mut.ensures.value in (
      c.index_mut.result.now,
      v,
      ap (lookup (nat_eq c.args.hits.now.id)) (sym c.self.view_is) ∙ at,
      c.merge_into.ensures,
      place_set cs c.args.hits.now.id c.in_ok-place.place v place same ∙ ap (λ (es : Entries). set_value (nat_eq c.args.hits.now.id) es v) c.self.view_is,
    )
