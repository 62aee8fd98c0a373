use Rattle.std.proofs.Common.{rules}
use Rattle.std.proofs.lemmas.List.{take_rest}
use Rattle.jc_run_plans.proofs.PlanWordsLaws.{behind_last_dot, in_front_of_last_dot, at_last_dot, no_dot}
use Rattle.jc_run_plans.proofs.plan_lines.cut_at_last_dot.Goals as goal

pub returns-in-Some : goal.returns-in-Some
returns-in-Some c =
    let e = behind_last_dot c.args.name.now c.in-Some.place (search rules) (search rules) (search rules) in
    rw take_rest (in_front_of_last_dot c.args.name.now c.in-Some.place (search rules) e, at_last_dot c.args.name.now c.in-Some.place (search rules) e)

pub returns-in-None : goal.returns-in-None
returns-in-None c = no_dot c.args.name.now (search rules)
