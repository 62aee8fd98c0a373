use Rattle.std.proofs.Common.{rules, ℕ, List, [], ◌∷◌, length, sym, ◌∙◌, ap, subst, arith}
use Rattle.std.proofs.lemmas.Iterator.Adapters.{YieldsList-from_vec}
use Rattle.std.proofs.lemmas.Iterator.Consumers.{YieldsList-from_enumerate, YieldsList-turn, YieldsList-end}
use Rattle.std.proofs.lemmas.List.{length_push}
use Rattle.std.proofs.lemmas.List.FromFn.{length-enumerate_from}
use Rattle.jc_bytes.proofs.DecidingLaws.{head_is}
use Rattle.jc_command_cover.proofs.AcceptedItemLaws.{KeptFirst, keeping_start, item_kept, item_dropped, all_kept, others_dropped}
use Rattle.jc_command_classes.proofs.EachLaws.{at_place}
use Rattle.jc_command_cover.proofs.accepted_items.accepted_of.Goals.{in-None, in-Some+in_default}
use Rattle.jc_command_cover.proofs.accepted_items.accepted_of.Goals as goal

pub keeping-init : goal.keeping-init
keeping-init g c = λ shown of_file looked beside places_are.
    rw c.in_ok-kept.ensures.items (subst (λ (ps : List ℕ). KeptFirst shown of_file looked 0 ps []) (sym places_are) (keeping_start shown of_file looked))

pub keeping-preserved-then-place-index : goal.keeping-preserved-then-place-index
keeping-preserved-then-place-index g c = λ shown of_file looked beside places_are.
    let items = c.args.items.items in
    let n = length c.keeping.yielded in
    let item : ℕ × g.row.T.Denot = (c.in-Some.index, c.in-Some.item) in
    let turn = YieldsList-turn (YieldsList-from_enumerate (YieldsList-from_vec items (cc) (search rules)) (cc))
    c.keeping.yielded c.keeping.index-iterator c.keeping.yielded_by c.next.result c.next.new.self item c.in-Some.is c.next.ensures.steps in
    let place = at_place items n c.in-Some.index c.in-Some.item turn.0 turn.1 in
    let first = c.in-Some-split_first.ensures.cases.0 ∙ ap (λ (k : ℕ). k ∷ c.in-Some-split_first.others.now) (c.if-place-index.true ∙ place.index_is) in
    rw (length_push c.keeping.yielded item)
    (item_kept shown of_file looked items beside n c.keeping.left.now c.keeping.kept.items (c.keeping.invariant shown of_file looked beside places_are) c.in-Some.item
    place.within place.at c.in-Some-split_first.others.now _ first c.in_ok-push.ensures.items)

pub keeping-preserved : goal.keeping-preserved
keeping-preserved g c = λ shown of_file looked beside places_are.
    let items = c.args.items.items in
    let n = length c.keeping.yielded in
    let item : ℕ × g.row.T.Denot = (c.in-Some.index, c.in-Some.item) in
    let turn = YieldsList-turn (YieldsList-from_enumerate (YieldsList-from_vec items (cc) (search rules)) (cc))
    c.keeping.yielded c.keeping.index-iterator c.keeping.yielded_by c.next.result c.next.new.self item c.in-Some.is c.next.ensures.steps in
    let place = at_place items n c.in-Some.index c.in-Some.item turn.0 turn.1 in
    let first = c.in-Some-split_first in
    rw (length_push c.keeping.yielded item)
    (item_dropped shown of_file looked items beside n c.keeping.left.now c.keeping.kept.items (c.keeping.invariant shown of_file looked beside places_are) c.in-Some.item
    place.within place.at (λ others is. c.if-place-index.false (head_is first.place.now n first.others.now others (sym first.ensures.cases.0 ∙ is) ∙ sym place.index_is)))

pub returns : goal.returns
returns g c = λ shown of_file looked beside places_are.
    let items = c.args.items.items in
    let n = length c.keeping.yielded in
    let kept = c.keeping.kept.items in
    let so = c.keeping.invariant shown of_file looked beside places_are in
    elim c.match-next.branch [
      | in-None w ↦ (
          let end = YieldsList-end (YieldsList-from_enumerate (YieldsList-from_vec items (cc) (search rules)) (cc))
          c.keeping.yielded c.keeping.index-iterator c.keeping.yielded_by c.next.result c.next.new.self w.in-None.is c.next.ensures.steps in
          all_kept shown of_file looked items beside n c.keeping.left.now kept (omega (arith, end.1, length-enumerate_from 0 items)) so)
      | in-Some+in_default w ↦ others_dropped shown of_file looked n c.keeping.left.now kept w.in_default.ensures.cases so
    ]
