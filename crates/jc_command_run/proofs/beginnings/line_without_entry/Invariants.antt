use Rattle.std.proofs.Common.{drop}
use Rattle.jc_command_run.proofs.BeginningLaws.{Left, threads_in}
use Rattle.jc_command_run.proofs.beginnings.line_without_entry.Given as goal

-- the cases so far have methods to begin with
abbrev pub invariant-seeking : goal.invariant-seeking
invariant-seeking l = Left l.program (threads_in l.plan.cases) (threads_in (drop l.case-index l.plan.cases))
