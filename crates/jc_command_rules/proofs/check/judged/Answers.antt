use Rattle.std.proofs.Common.{true, map, refl}
use Rattle.jc_command_work.specs.Seen.{write_seen}
use Rattle.jc_command_rules.specs.declared.check.Checked.{Checked}
use Rattle.jc_rules.specs.declared.rule.CounterKind.TheVariants.{Instruction}
use Rattle.jc_rules.specs.declared.rule.Rule.{Rule}
use Rattle.jc_command_rules.proofs.JudgingLaws.{none_judged, judged_more, all_judged}
use Rattle.jc_command_rules.proofs.check.judged.Goals as goal

abbrev none : Rule
none = record { counter = Instruction; least = 0; of = 0 }

pub judging-init : goal.judging-init
judging-init c =
    let nothing : Checked = record { writes = c.args.lines; holds = true } in
    none_judged (map write_seen c.args.lines.items) c.args.totals.now nothing refl refl

pub judging-preserved : goal.judging-preserved
judging-preserved c =
    judged_more (map write_seen c.args.lines.items) c.args.totals.now c.args.rules.now c.judging.rule-index none c.judging.checked
    c.put_rule.new.checked c.judging-test.true c.judging.invariant c.in_ok-put_rule.ensures

pub returns : goal.returns
returns c =
    all_judged (map write_seen c.args.lines.items) c.args.totals.now c.args.rules.now c.judging.rule-index c.judging.checked c.judging-test.false
    c.judging.invariant
