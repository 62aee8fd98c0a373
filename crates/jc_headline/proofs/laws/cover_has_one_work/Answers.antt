use Rattle.jc_command_work.proofs.Prefix.{some_work, one_work}
use Rattle.jc_headline.specs.CoverWork.{cover_work}
use Rattle.jc_headline.proofs.OneCoverLaws.{PlansAreOne, has_cover}
use Rattle.jc_headline.proofs.laws.cover_has_one_work.Goals as goal

pub returns-clause-some : goal.returns-clause-some
returns-clause-some c landed cover w told =
    let laws = c.each_text_is_a_plan_or_has_a_first_unfit_line.ensures in
    let plans : PlansAreOne = record { each = laws.each; apart = laws.apart; one_plan = laws.one_plan; one_line = laws.one_line } in
    some_work landed (cover_work cover) w (has_cover plans landed cover w told)

pub returns-clause-one : goal.returns-clause-one
returns-clause-one c landed cover w a b told p q =
    let laws = c.each_text_is_a_plan_or_has_a_first_unfit_line.ensures in
    let plans : PlansAreOne = record { each = laws.each; apart = laws.apart; one_plan = laws.one_plan; one_line = laws.one_line } in
    one_work landed (cover_work cover) w (has_cover plans landed cover w told) a b p q
