use Rattle.std.proofs.Common.{sym, ◌∙◌, arith}
use Rattle.examples_methods.proofs.SlowLaws.{made_new, made_known, made_union}
use Rattle.examples_methods.proofs.slow_union.union.Goals as goal
use Rattle.examples_methods.proofs.slow_union.union.Goals.{then-not-has_id+in_ok-merged+in_ok-push, else-not-has_id}

pub merging-preserved : goal.merging-preserved
merging-preserved c = elim c.if-not-has_id.branch [
  | then-not-has_id+in_ok-merged+in_ok-push w ↦
      rw w.out-is (made_new c.args.records.now c.merging.out.items w.push.new.self.items c.merging.i c.index-records-i.result w.in_ok-merged.field-0
      c.merging.invariant (omega (arith, c.merging-test.true)) (sym c.index-records-i.is) (sym c.has_id.ensures ∙ w.if-not-has_id.true)
      w.in_ok-merged.ensures w.in_ok-push.ensures.items)
  | else-not-has_id w ↦
      rw w.out-is (made_known c.args.records.now c.merging.out.items c.merging.i c.index-records-i.result c.merging.invariant
      (omega (arith, c.merging-test.true)) (sym c.index-records-i.is) (sym c.has_id.ensures ∙ w.if-not-has_id.false))
]

pub returns : goal.returns
returns c = made_union c.args.records.now c.merging.out.items c.merging.i c.merging.invariant (omega (arith, c.merging-test.false))
