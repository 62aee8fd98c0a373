use Rattle.std.proofs.Common.{map, take}
use Rattle.jc_command_work.specs.Seen.{write_seen}
use Rattle.jc_command_rules.specs.CheckAnswers.{IsJudged}
use Rattle.jc_command_rules.specs.Printing.{verdict_seen}
use Rattle.jc_command_rules.proofs.check.judged.Given as goal

-- the rules so far were judged
abbrev pub invariant-judging : goal.invariant-judging
invariant-judging l = IsJudged (map write_seen l.fn.lines.items) l.totals (take l.rule-index l.rules) (verdict_seen l.checked)
