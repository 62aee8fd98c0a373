-- The exit status of the program.
use Rattle.std.specs.Prelude.{ℕ}
use Rattle.jc_top.specs.declared.Status.{Status}
use Rattle.jc_top.specs.declared.Status.TheVariants.{Done, Refused, Usage, ReadFault, WriteFault, Memory, Broken}

-- 0 where all was written, and else the number of what ended the run; 6 where all was written, and a rule doesn't hold
abbrev pub exit_status : Status → ℕ
exit_status Done = 0
exit_status (Refused fault) = 1
exit_status Usage = 2
exit_status ReadFault = 3
exit_status WriteFault = 4
exit_status Memory = 5
exit_status Broken = 6
