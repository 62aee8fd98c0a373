-- How a command goes on from what it prepared.
use Rattle.std.specs.Prelude.{ℕ, List, map, Result, Ok, Err, Vec}
use Rattle.std.specs.declared.alloc.Global.{Global}
use Rattle.jc_command_work.specs.declared.output.Write.{Write as Written}
use Rattle.jc_command_work.specs.declared.status.Status.{Status}
use Rattle.jc_command_work.specs.declared.stop.Stop.{Stop}
use Rattle.jc_command_work.specs.Step.{Outside, Counts, Landed, to_out}
use Rattle.jc_command_work.specs.Ending.{Reports, Ends}
use Rattle.jc_command_work.specs.Answered.{making_all}
use Rattle.jc_command_work.specs.Closing.{closing}
use Rattle.jc_command_work.specs.Seen.{write_seen, stop_seen}
use Rattle.jc_command_rules.specs.declared.check.Checked.{Checked}
use Rattle.jc_command_rules.specs.Printing.{verdict_seen}

-- the writes that were prepared were made, or it was reported what had stopped the command
abbrev pub Completes : Landed → Result (Vec Written Global) Stop → (old new : Outside) → (f f' : Counts) → Status → Type 0
Completes landed (Ok writes) old new f f' s = Ends landed (making_all (map write_seen writes.items)) old new f f' s
Completes landed (Err stop) old new f f' s = Reports (stop_seen stop) old new f f' s

-- the lines that were prepared were printed, or it was reported what had stopped the command
abbrev pub CompletesListing : Landed → Result (List (List ℕ)) Stop → (old new : Outside) → (f f' : Counts) → Status → Type 0
CompletesListing landed (Ok lines) old new f f' s = Ends landed (making_all (map to_out lines)) old new f f' s
CompletesListing landed (Err stop) old new f f' s = Reports (stop_seen stop) old new f f' s

-- the writes that were prepared were made, and the run ended by whether the rules hold, or it was reported what had stopped the command
abbrev pub CompletesCheck : Landed → Result Checked Stop → (old new : Outside) → (f f' : Counts) → Status → Type 0
CompletesCheck landed (Ok checked) old new f f' s = Ends landed (closing (verdict_seen checked).writes checked.holds) old new f f' s
CompletesCheck landed (Err stop) old new f f' s = Reports (stop_seen stop) old new f f' s
