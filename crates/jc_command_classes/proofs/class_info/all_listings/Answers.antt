use Rattle.std.proofs.Common.{rules, List, ℕ, subst}
use Rattle.jc_command_classes.specs.ClassInfo.{IsListing}
use Rattle.jc_command_classes.proofs.RunLaws.{answers_read}
use Rattle.jc_command_classes.proofs.class_info.all_listings.Goals as goal

pub returns-clause-each : goal.returns-clause-each
returns-clause-each g c = answers_read IsListing c.args.texts.now c.each_answer.result c.each_answer.ensures.each
    (λ t u a. let said : IsListing a.shown.now u = search (rules, a.says.met) in subst (λ (l : List ℕ). IsListing l u) a.shows said)
