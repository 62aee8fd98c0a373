use Rattle.std.proofs.Common.{◌≡◌, None, List, ◌∷◌, [], nat_eq, ◌∙◌, ap, subst, refl}
use Rattle.std.specs.Map.{lookup}
use Rattle.jc_exec.specs.declared.hits.ClassHits.{ClassHits}
use Rattle.jc_exec.specs.Places.{IsPlaceOf}
use Rattle.jc_exec.specs.Store.{entries_of}
use Rattle.jc_exec.proofs.EntriesLaws.{place_insert, push_entry}
use Rattle.jc_exec.proofs.GatherLaws.{put_behind}
use Rattle.jc_exec.proofs.records.put_over.Goals as goal

pub returns-in-Some-clause-all : goal.returns-in-Some-clause-all
returns-in-Some-clause-all c =
    place_insert c.args.classes.now.items c.args.hits.id c.in-Some.place c.args.hits
    (subst (λ (cs : List ClassHits). IsPlaceOf cs c.args.hits.id c.in-Some.place) c.deref.ensures.value c.in-Some.ensures.place) refl

pub returns-in-None-clause-all : goal.returns-in-None-clause-all
returns-in-None-clause-all c =
    let old = c.args.classes.now.items in
    let none : lookup (nat_eq c.args.hits.id) (entries_of old) ≡ None =
    subst (λ (cs : List ClassHits). lookup (nat_eq c.args.hits.id) (entries_of cs) ≡ None) c.deref.ensures.value c.in-None.ensures.none in
    ap entries_of (put_behind c.push.result _ c.push.new.self.items old (c.args.hits ∷ []) c.push.ensures.items c.unwrap.ensures) ∙ push_entry old c.args.hits none
