use Rattle.std.proofs.Common.{refl, nat_eq, get_or, true, set, ◌<◌, length, arith}
use Rattle.std.specs.Cmp.{nat_eq_equiv}
use Rattle.std.proofs.lemmas.List.Elements.{All-get_or}
use Rattle.jc_methods.specs.declared.body.Handler.{Handler}
use Rattle.jc_kinds.proofs.MarkLaws.{marks_none, marks_one, marks_next, marks_all}
use Rattle.jc_kinds.proofs.missing.mark_handlers.Goals as goal

pub marking-init : goal.marking-init
marking-init c = marks_none _ _ (λ j. refl)

pub marking-preserved : goal.marking-preserved
marking-preserved c =
    let d : Handler = record { start = 0; end = 0; target = 0; class = 0 } in
    let h = get_or c.args.handlers.now c.marking.handler-index d in
    let inside : h.target < length c.marking.marks =
    let lt = All-get_or (λ g. g.target < length c.args.marks.now) c.args.handlers.now c.marking.handler-index d c.marking-test.true c.requires in
    let s = c.marking.auto.marks in omega (arith, lt, s) in
    marks_next (λ j g. nat_eq g.target j) c.args.handlers.now c.marking.handler-index h d c.args.marks.now c.marking.marks (set c.marking.marks h.target true) c.marking-test.true refl
    c.marking.invariant (marks_one c.marking.marks (set c.marking.marks h.target true) h.target (λ j. nat_eq h.target j) inside refl (λ j. nat_eq_equiv.symm h.target j))

pub returns : goal.returns
returns c = marks_all (λ j h. nat_eq h.target j) c.args.handlers.now c.marking.handler-index c.args.marks.now c.marking.marks c.marking-test.false c.marking.invariant
