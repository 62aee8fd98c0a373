use Rattle.std.proofs.Common.{drop}
use Rattle.jc_command_run.proofs.BeginningLaws.{Left}
use Rattle.jc_command_run.proofs.beginnings.line_in.Given as goal

-- the threads so far have methods to begin with
abbrev pub invariant-seeking : goal.invariant-seeking
invariant-seeking l = Left l.program l.threads (drop l.thread-index l.threads)
