use Rattle.std.proofs.Common.{List, Some, nat_eq, sym, ◌∙◌, ap, subst}
use Rattle.std.specs.Map.{lookup}
use Rattle.jc_exec.specs.declared.hits.ClassHits.{ClassHits}
use Rattle.jc_exec.specs.Places.{IsPlaceOf}
use Rattle.jc_exec.proofs.EntriesLaws.{lookup_place}
use Rattle.jc_exec.proofs.records.Records.get.Goals as goal

pub returns : goal.returns
returns c =
    let cs = c.self.inside.classes.items in
    let place = subst (λ (l : List ClassHits). IsPlaceOf l c.args.id c.in_ok-place.place) c.deref.ensures.value c.in_ok-place.ensures.place in
    ap (λ (d : ClassHits). Some d) c.index.ensures
    ∙ sym (lookup_place cs c.args.id c.in_ok-place.place c.index.result.now place)
    ∙ ap (lookup (nat_eq c.args.id)) c.self.view_is
