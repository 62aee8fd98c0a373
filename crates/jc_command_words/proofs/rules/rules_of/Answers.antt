use Rattle.std.proofs.Common.{Some, None, rules}
use Rattle.jc_command_words.proofs.RulesLaws.{reads_on, reads_none, reads_last, cut_some, cut_none, was_put, wasn't_put}
use Rattle.jc_command_words.proofs.rules.rules_of.Goals as goal

pub returns-then-not-branch : goal.returns-then-not-branch
returns-then-not-branch c =
    reads_none c.args.text.now c.reading.rest.now c.reading.rules.items c.reading.invariant.1 c.in-Some.first.now c.in-Some.behind.now
    (cut_some c.cut_at.result 44 c.reading.rest.now c.in-Some.first c.in-Some.behind c.cut_at.ensures c.in-Some.is)
    (wasn't_put c.in_ok-put_rule.field-0 c.reading.rules.items c.put_rule.new.rules.items c.in-Some.first.now c.if-not-branch.true c.in_ok-put_rule.ensures)

pub reading-preserved : goal.reading-preserved
reading-preserved c = (
  search rules,
  reads_on c.args.text.now c.reading.rest.now c.reading.rules.items c.reading.invariant.1 c.in-Some.first.now c.in-Some.behind.now c.put_rule.new.rules.items
      (cut_some c.cut_at.result 44 c.reading.rest.now c.in-Some.first c.in-Some.behind c.cut_at.ensures c.in-Some.is)
      (was_put c.in_ok-put_rule.field-0 c.reading.rules.items c.put_rule.new.rules.items c.in-Some.first.now c.if-not-branch.false c.in_ok-put_rule.ensures),
)

pub returns-then-branch : goal.returns-then-branch
returns-then-branch c =
    reads_last c.args.text.now c.reading.rest.now c.reading.rules.items c.reading.invariant.1 (Some c.put_rule-2.new.rules.items)
    (cut_none c.cut_at.result 44 c.reading.rest.now c.cut_at.ensures c.in_default.is)
    (was_put c.in_ok-put_rule-2.field-0 c.reading.rules.items c.put_rule-2.new.rules.items c.reading.rest.now c.if-branch.true c.in_ok-put_rule-2.ensures)

pub returns-else-branch : goal.returns-else-branch
returns-else-branch c =
    reads_last c.args.text.now c.reading.rest.now c.reading.rules.items c.reading.invariant.1 None
    (cut_none c.cut_at.result 44 c.reading.rest.now c.cut_at.ensures c.in_default.is)
    (wasn't_put c.in_ok-put_rule-2.field-0 c.reading.rules.items c.put_rule-2.new.rules.items c.reading.rest.now c.if-branch.false c.in_ok-put_rule-2.ensures)
