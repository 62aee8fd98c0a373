use Rattle.jc_command_work.proofs.NoFault.{does_work}
use Rattle.jc_command_work.proofs.Prefix.{ends_front}
use Rattle.jc_headline.specs.CoverWork.{cover_work}
use Rattle.jc_headline.proofs.OneCoverLaws.{PlansAreOne, has_cover}
use Rattle.jc_headline.proofs.laws.each_cover_ends_as_its_work.Goals as goal

pub returns-clause-makes : goal.returns-clause-makes
returns-clause-makes c landed cover run none not =
    let laws = c.each_text_is_a_plan_or_has_a_first_unfit_line.ensures in
    let plans : PlansAreOne = record { each = laws.each; apart = laws.apart; one_plan = laws.one_plan; one_line = laws.one_line } in
    does_work landed (cover_work cover) run.old run.new run.old_counts run.new_counts run.ended (has_cover plans landed cover run.old run.told) run.work run.is_work run.ends none not

pub returns-clause-leaves : goal.returns-clause-leaves
returns-clause-leaves c landed cover run =
    let laws = c.each_text_is_a_plan_or_has_a_first_unfit_line.ensures in
    let plans : PlansAreOne = record { each = laws.each; apart = laws.apart; one_plan = laws.one_plan; one_line = laws.one_line } in
    ends_front landed (cover_work cover) run.old run.new run.old_counts run.new_counts run.ended run.told (has_cover plans landed cover run.old run.told) run.work run.is_work run.ends
