-- How inputs that aren't taken stop a command.
use Rattle.std.specs.Prelude.{ℕ, List, Option, None, Some}
use Rattle.std.specs.Borrow.{Bor}
use Rattle.jc_bytes.specs.declared.fail.Fail.{Fail}
use Rattle.jc_bytes.specs.declared.fail.Fail.TheVariants as fails
use Rattle.jc_bytes.specs.declared.refusal.Refusal.{Refusal}
use Rattle.jc_exec.specs.declared.refusal.ExecRefusal.{ExecRefusal}
use Rattle.jc_command_work.specs.declared.status.Fault.TheVariants as faults
use Rattle.jc_command_work.specs.declared.stop.Stop.{Stop}
use Rattle.jc_command_work.specs.declared.status.Status.{Status}
use Rattle.jc_command_work.specs.declared.status.Status.TheVariants as status
use Rattle.jc_command_work.specs.declared.stop.Stop.TheVariants as stops
use Rattle.jc_command_work.specs.Texts.{cannot_read, cannot_write, cannot_write_output, fault_text}

-- how execution data that isn't taken stops a command
abbrev pub exec_stop : Fail ExecRefusal → ℕ → Bor (List ℕ) → Stop
exec_stop fails.Memory path file = stops.Memory
exec_stop (fails.Said refusal) path file = stops.Refused file (faults.Exec path refusal)

-- how a class file that is refused stops a command
abbrev pub class_stop : Fail Refusal → ℕ → Bor (List ℕ) → Stop
class_stop fails.Memory path file = stops.Memory
class_stop (fails.Said why) path file = stops.Refused file (faults.Class path why)

-- ---- what is said of it

-- the last message of a command that was stopped so
abbrev pub message_seen : Stop → Option (List ℕ)
message_seen stops.Memory = None
message_seen (stops.Read path) = Some (cannot_read path.now)
message_seen (stops.Write path) = Some (cannot_write path.now)
message_seen stops.Output = Some cannot_write_output
message_seen (stops.Refused file fault) = Some (fault_text file.now fault)
message_seen (stops.Clash fault line) = Some line.items

abbrev pub status_seen : Stop → Status
status_seen stops.Memory = status.Memory
status_seen (stops.Read path) = status.ReadFault
status_seen (stops.Write path) = status.WriteFault
status_seen stops.Output = status.WriteFault
status_seen (stops.Refused file fault) = status.Refused fault
status_seen (stops.Clash fault line) = status.Refused fault
