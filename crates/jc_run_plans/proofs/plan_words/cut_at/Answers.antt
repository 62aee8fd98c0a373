use Rattle.std.proofs.Common.{rules}
use Rattle.std.proofs.lemmas.List.{take_rest}
use Rattle.jc_run_plans.proofs.PlanWordsLaws.{cut_here, cut_nowhere}
use Rattle.jc_run_plans.proofs.plan_words.cut_at.Goals as goal

pub returns-in-Some-clause-parts : goal.returns-in-Some-clause-parts
returns-in-Some-clause-parts c =
    let found = cut_here c.args.mark c.args.text.now c.in-Some.place (search rules) (search rules) (search rules) in
    rw take_rest found

pub returns-in-None-clause-parts : goal.returns-in-None-clause-parts
returns-in-None-clause-parts c = cut_nowhere c.args.mark c.args.text.now (search rules)
