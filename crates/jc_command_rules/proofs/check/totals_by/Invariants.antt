use Rattle.std.proofs.Common.{◌≡◌, map, take}
use Rattle.jc_command_rules.specs.CheckAnswers.{totalled}
use Rattle.jc_command_rules.proofs.check.totals_by.Given as goal

-- the classes so far were taken
abbrev pub invariant-taking : goal.invariant-taking
invariant-taking l = l.totalled.items ≡ map totalled (take l.class-index l.classes)
