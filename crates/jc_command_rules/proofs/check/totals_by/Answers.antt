use Rattle.std.proofs.Common.{◌∙◌, ap}
use Rattle.jc_rules.specs.Totals.{totals_of}
use Rattle.jc_command_rules.specs.CheckAnswers.{totalled}
use Rattle.jc_command_rules.proofs.PrintingLaws.{taken_more, all_taken}
use Rattle.jc_command_rules.proofs.check.totals_by.Goals as goal

pub taking-preserved : goal.taking-preserved
taking-preserved c =
    taken_more totalled c.args.classes.now c.taking.class-index c.class-item.result c.taking.totalled.items c.push.new.self.items c.taking-test.true
    c.class-item.is c.taking.invariant c.in_ok-push.ensures.items

pub returns : goal.returns
returns c =
    let all = all_taken totalled c.args.classes.now c.taking.class-index c.taking.totalled.items c.taking-test.false c.taking.invariant in
    c.totals.ensures ∙ ap totals_of (c.deref.ensures.value ∙ all)
