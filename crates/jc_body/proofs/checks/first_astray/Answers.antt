use Rattle.std.proofs.Common.{rules, tests, IsTrue, false}
use Rattle.jc_body.proofs.FirstLaws.{astray_by_leading, astray_by_falling, not_astray}
use Rattle.jc_body.proofs.checks.first_astray.Goals as goal

pub returns-in-Some : goal.returns-in-Some
returns-in-Some c = astray_by_leading c.args.insns.now c.in-Some.number c.in-Some.ensures

pub returns-in-len1-up : goal.returns-in-len1-up
returns-in-len1-up c = astray_by_falling c.args.insns.now c.last-item.result c.in_default.ensures c.in-len1-up.len_at_least c.last-item.is (c.if-falls_through.ensures.0 cc)

pub returns-in_default-insns-2 : goal.returns-in_default-insns-2
returns-in_default-insns-2 c = not_astray c.args.insns.now c.last-item.result c.in_default.ensures c.in-len1-up.len_at_least c.last-item.is (λ falls. no_truth (c.if-falls_through.ensures.1 falls))
  where
    no_truth : IsTrue false → ⊥
    no_truth t = search (rules, tests)
