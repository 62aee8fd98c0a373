use Rattle.std.proofs.Common.{◌≡◌, take}
use Rattle.jc_machine_turn.specs.Contents.{statics_of, first_statics_of}
use Rattle.jc_machine_turn.proofs.first.first_statics.Given as goal

abbrev pub invariant-loop-class : goal.invariant-loop-class
invariant-loop-class l = statics_of l.statics.items ≡ first_statics_of (take l.class-index l.classes)
