use Rattle.std.proofs.Common.{length, slice_index}
use Rattle.jc_emit.proofs.SwitchLaws.{AreSet}
use Rattle.jc_emit.proofs.switches.set_arms.Given as goal

-- the targets from `number` on have their places in the table
abbrev pub invariant-setting : goal.invariant-setting
invariant-setting l = AreSet (slice_index l.lands) l.fn.here l.targets l.ids (length l.lands) l.number l.place l.table

abbrev pub decreases-setting : goal.decreases-setting
decreases-setting l = l.number
