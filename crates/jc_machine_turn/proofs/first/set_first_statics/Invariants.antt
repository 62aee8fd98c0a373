use Rattle.std.proofs.Common.{◌≡◌}
use Rattle.jc_machine_turn.specs.Contents.{memories_of}
use Rattle.jc_machine_turn.proofs.FirstLaws.{Begun}
use Rattle.jc_machine_turn.proofs.first.set_first_statics.Given as goal

abbrev pub invariant-loop-i : goal.invariant-loop-i
invariant-loop-i l = Begun l.statics l.classes l.i × (memories_of l.statics ≡ memories_of l.initial.statics)
