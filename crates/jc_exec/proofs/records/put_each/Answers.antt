use Rattle.std.proofs.Common.{◌≡◌, ◌∷◌, ℕ, List, length, map, nat_eq, sym, ◌∙◌, ap, arith}
use Rattle.std.specs.Vec.Iter.{into_iter_items}
use Rattle.indexmap.specs.IndexMap.{insert_all}
use Rattle.jc_exec.specs.declared.hits.ClassHits.{ClassHits}
use Rattle.jc_exec.specs.Adding.{Entries}
use Rattle.jc_exec.specs.Places.{ids_with}
use Rattle.jc_exec.specs.Store.{entries_of}
use Rattle.jc_exec.proofs.EntriesLaws.{front_now, ids_put}
use Rattle.jc_exec.proofs.records.put_each.Goals as goal

pub put_over-requires-clause-front : goal.put_over-requires-clause-front
put_over-requires-clause-front c = front_now c.args.ids.now c.putting.classes.items (into_iter_items c.putting.hits-iterator) c.putting.invariant.ids

pub putting-preserved : goal.putting-preserved
putting-preserved c =
    let now = c.putting.classes.items in
    let later = c.put_over.new.classes.items in
    let rest = into_iter_items c.next.new.self in
    let items : into_iter_items c.putting.hits-iterator ≡ c.in-Some.hits ∷ rest = c.in-Some.ensures.steps.0 in
    record {
      all = ap (λ (es : Entries). insert_all nat_eq es (entries_of rest)) c.put_over.ensures.all
          ∙ ap (λ (l : List ClassHits). insert_all nat_eq (entries_of now) (entries_of l)) (sym items) ∙ c.putting.invariant.all;
      ids = ap (λ (l : List ℕ). ids_with l rest) (ids_put now later c.in-Some.hits c.put_over.ensures.all)
          ∙ ap (λ (l : List ClassHits). ids_with (map (λ (d : ClassHits). d.id) now) l) (sym items) ∙ c.putting.invariant.ids;
      room = omega (arith, c.put_over.ensures.room, c.put_over.ensures.more, c.putting.invariant.room, ap length items);
    }
