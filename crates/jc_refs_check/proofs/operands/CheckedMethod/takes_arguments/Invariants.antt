use Rattle.std.proofs.Common.{◌≡◌, map, drop}
use Rattle.jc_methods.specs.VerificationTypes.{verification_type, type_state}
use Rattle.jc_refs_check.specs.KindNeeds.{all_held}
use Rattle.jc_refs_check.proofs.operands.CheckedMethod.takes_arguments.Given as goal

-- those so far suit, so that the others decide
abbrev pub invariant-passing : goal.invariant-passing
invariant-passing l =
    all_held l.self.body.now (type_state l.classes.names l.state) (map (verification_type l.classes.names) l.parameters)
    ≡ all_held l.self.body.now (type_state l.classes.names l.state) (map (verification_type l.classes.names) (drop l.i l.parameters))
