use Rattle.std.proofs.Common.{◌≡◌, ◌+◌, ◌-◌, length, refl, arith, rules}
use Rattle.jc_refs_check.proofs.ColumnLaws.{next_end, next_back, next_put}
use Rattle.jc_refs_check.proofs.columns.next_of.Goals as goal

pub seeking-init : goal.seeking-init
seeking-init c = let count = length c.args.classes.now in record {
  within = omega arith;
  here = next_end c.args.classes.now count count refl refl;
  behind = record { size = search rules; each = λ i lo hi. absurd (omega (arith, lo, hi)) };
}

pub seeking-preserved : goal.seeking-preserved
seeking-preserved c =
    let column = c.args.classes.now in let i = c.seeking.at - 1 in
    let step : c.seeking.at ≡ i + 1 = omega arith in
    let here = next_back column i c.seeking.at c.seeking.object c.next_at-object.result step (let w = c.seeking.invariant.within in omega arith) c.seeking.invariant.here c.next_at-object.ensures in
    record {
      within = let w = c.seeking.invariant.within in omega arith;
      here = here;
      behind = next_put column i c.seeking.at c.next_at-object.result c.seeking.next.items _ step (let w = c.seeking.invariant.within in omega arith) c.seeking.invariant.behind here refl;
    }
