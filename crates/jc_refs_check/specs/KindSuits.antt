-- Whether references suit, on types as they are kept.
use Rattle.std.specs.Prelude.{Bool, true, false, not, ◌||◌, ◌&&◌, List, [], ◌∷◌}
use Rattle.jc_methods.specs.declared.kind.Kind.{Kind}
use Rattle.jc_methods.specs.declared.kind.State.{State}
use Rattle.jc_methods.specs.VerificationTypes.{Names, VerificationType, verification_type}
use Rattle.jc_kinds_after.specs.Wants.{is_anything}
use Rattle.jc_refs_check.specs.Suits.{suits}

-- the one suits the other where it is a type of references
abbrev pub reference_suits : VerificationType → VerificationType → Bool
reference_suits a b = not (is_anything a) || suits a b

abbrev pub kind_suits : Names → Kind → Kind → Bool
kind_suits names kind want = reference_suits (verification_type names kind) (verification_type names want)

abbrev pub kinds_suit : Names → List Kind → List Kind → Bool
kinds_suit names [] [] = true
kinds_suit names (k ∷ ks) (w ∷ ws) = kind_suits names k w && kinds_suit names ks ws
kinds_suit names _ _ = false

abbrev pub state_suits : Names → State → State → Bool
state_suits names s t = kinds_suit names s.locals t.locals && kinds_suit names s.stack t.stack
