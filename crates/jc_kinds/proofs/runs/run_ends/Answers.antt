use Rattle.std.proofs.Common.{◌≡◌, ◌+◌, ◌-◌, arith, refl, ℕ, subst}
use Rattle.jc_kinds.specs.Runs.{AreEnds}
use Rattle.jc_kinds.proofs.RunLaws.{one_more}
use Rattle.jc_kinds.proofs.runs.run_ends.Goals as goal

pub ending-preserved : goal.ending-preserved
ending-preserved c = record {
  ends = let i = c.ending.i in let P : ℕ → Type 0 = λ j. AreEnds c.args.loose c.args.column.now j c.ending.ends.items in let q : i ≡ i - 1 + 1 = omega arith in
      one_more c.args.loose c.args.column.now (i - 1) c.end_at.result c.ending.ends.items _ (let s = c.ending.invariant.small in omega arith) (subst P q c.ending.invariant.ends) c.end_at.ensures refl;
  small = let s = c.ending.invariant.small in omega arith;
}
