use Rattle.std.proofs.Common.{◌≡◌, map, drop}
use Rattle.jc_methods.specs.VerificationTypes.{Names, verification_type}
use Rattle.jc_kinds_after.specs.Wants.{accepts_all}
use Rattle.jc_kinds_after.proofs.want.are_accepted.Given as goal

abbrev pub invariant-testing : goal.invariant-testing
invariant-testing l = (names : Names)
    → accepts_all l.wants (map (verification_type names) l.operands) ≡ accepts_all (drop l.i l.wants) (map (verification_type names) (drop l.i l.operands))
