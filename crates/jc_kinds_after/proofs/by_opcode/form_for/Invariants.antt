use Rattle.std.proofs.Common.{◌≡◌, ℕ, drop, map}
use Rattle.std.specs.List.{flat_map}
use Rattle.jc_methods.specs.VerificationTypes.{Names, verification_type}
use Rattle.jc_kinds_after.specs.Step.{moved_by}
use Rattle.jc_kinds_after.specs.Shapes.{forms_of}
use Rattle.jc_kinds_after.specs.Table.{forms_at}
use Rattle.jc_kinds_after.proofs.by_opcode.form_for.Given as goal

abbrev pub invariant-trying : goal.invariant-trying
invariant-trying l = (names : Names) (most : ℕ)
    → moved_by most (forms_at l.op) (map (verification_type names) l.stack)
    ≡ moved_by most (flat_map forms_of (drop l.shape-index l.shape-items)) (map (verification_type names) l.stack)
