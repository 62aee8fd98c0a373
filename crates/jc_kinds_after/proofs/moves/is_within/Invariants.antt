use Rattle.std.proofs.Common.{◌≡◌, ◌+◌, map, drop}
use Rattle.jc_methods.specs.VerificationTypes.{Names, verification_type, slots}
use Rattle.jc_kinds_after.proofs.moves.is_within.Given as goal

abbrev pub invariant-counting : goal.invariant-counting
invariant-counting l = (names : Names)
    → slots (map (verification_type names) l.stack) + l.free ≡ l.most + slots (map (verification_type names) (drop l.kind-index l.stack))
