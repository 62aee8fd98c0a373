-- Runs of a command, and its work.
use Rattle.std.specs.Prelude.{◌≡◌}
use Rattle.jc_command_work.specs.declared.status.Status.{Status}
use Rattle.jc_command_work.specs.Step.{Outside, Counts, Landed, after}
use Rattle.jc_command_work.specs.Part.{status_of, message_of, Command}
use Rattle.jc_command_work.specs.Ending.{SaysLast, Ends}
use Rattle.jc_command_work.specs.OneWay.{IsTold, Work, IsWork}

-- A run of a command, from the old outside to the new one, where contents are told: how it ended, and what the work of the command is
-- there.
pub record ToldRun (landed : Landed) (command : Command) : Type 0 where
  pub old : Outside
  pub new : Outside
  pub old_counts : Counts
  pub new_counts : Counts
  pub ended : Status
  pub work : Work
  pub told : IsTold old
  pub is_work : IsWork landed command old work
  pub ends : Ends landed command old new old_counts new_counts ended

-- all steps of the work were made, the status is that of its end, and the message of the end was said
abbrev pub MakesItsWork : {landed : Landed} {command : Command} → ToldRun landed command → Type 0
MakesItsWork {landed} run =
    (run.ended ≡ status_of run.work.end)
    × SaysLast (message_of run.work.end) (after landed run.old run.work.steps) run.new run.old_counts run.new_counts
