use Rattle.std.proofs.Common.{List}
use Rattle.jc_methods.specs.VerificationTypes.{Names, TypeStateAt, type_state}
use Rattle.jc_frames.specs.Running.{IsRunning, before}
use Rattle.jc_frames.proofs.WalkLaws.{Walking}
use Rattle.jc_frames.proofs.fault.found_fault.Given as goal

abbrev pub invariant-checking : goal.invariant-checking
invariant-checking l = record {
  running : IsRunning l.running;
  walking : (names : Names) → (done : List TypeStateAt) × Walking l.method (type_state names l.entry) l.table l.count l.number done
      (before l.method.pool names l.running) l.reader.left;
}
