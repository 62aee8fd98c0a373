use Rattle.std.proofs.Common.{refl, nat_eq, get_or, true, set}
use Rattle.std.proofs.lemmas.List.Elements.{All-get_or}
use Rattle.std.proofs.Common.{◌<◌, length, arith}
use Rattle.jc_kinds.proofs.MarkLaws.{marks_none, marks_one, marks_next, marks_all}
use Rattle.jc_kinds.proofs.missing.mark_each.Goals as goal

pub marking-init : goal.marking-init
marking-init c = marks_none _ _ (λ j. refl)

pub marking-preserved : goal.marking-preserved
marking-preserved c =
    let place = get_or c.args.places.now c.marking.place-index 0 in
    let inside : place < length c.marking.marks =
    let lt = All-get_or (λ p. p < length c.args.marks.now) c.args.places.now c.marking.place-index 0 c.marking-test.true c.requires in let s = c.marking.auto.marks in omega (arith, lt, s) in
    marks_next (λ j p. nat_eq j p) c.args.places.now c.marking.place-index place 0 c.args.marks.now c.marking.marks (set c.marking.marks place true) c.marking-test.true refl
    c.marking.invariant (marks_one c.marking.marks (set c.marking.marks place true) place (λ j. nat_eq j place) inside refl (λ j. refl))

pub returns : goal.returns
returns c = marks_all (λ j p. nat_eq j p) c.args.places.now c.marking.place-index c.args.marks.now c.marking.marks c.marking-test.false c.marking.invariant
