use Rattle.std.proofs.Common.{◌≡◌, map, take, ◌++◌}
use Rattle.jc_methods.specs.VerificationTypes.{Names, verification_type}
use Rattle.jc_kinds_after.specs.Step.{given_of}
use Rattle.jc_kinds_after.specs.Shapes.{gives_of}
use Rattle.jc_kinds_after.proofs.moves.move_stack.Given as goal

abbrev pub invariant-giving : goal.invariant-giving
invariant-giving l = (names : Names)
    → map (verification_type names) l.after.items
    ≡ map (verification_type names) (take l.base l.fn.stack) ++ map (given_of (map (verification_type names) l.operands.items))
    (map (gives_of names) (take l.give-index l.gives))
