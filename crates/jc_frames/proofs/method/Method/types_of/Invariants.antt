use Rattle.std.proofs.Common.{◌≡◌, length, drop, All}
use Rattle.jc_methods.specs.VerificationTypes.{Names}
use Rattle.jc_frames.specs.Frames.{types_of}
use Rattle.jc_frames.specs.Running.{held_values, IsUnnumbered}
use Rattle.jc_frames.proofs.MethodLaws.{behind}
use Rattle.jc_frames.proofs.method.Method.types_of.Given as goal

abbrev pub invariant-typing : goal.invariant-typing
invariant-typing l = record {
  says : (names : Names) → types_of l.self l.items ≡ behind (held_values l.self.pool names l.values.items) (types_of l.self (drop l.item-index l.items));
  unnumbered : All IsUnnumbered l.values.items;
  as_many : length l.values.items ≡ l.item-index;
}
