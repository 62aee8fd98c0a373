-- Whether types fit, on types as they are kept: numbers of class names play no part in it.
use Rattle.std.specs.Prelude.{Bool, false, true, ◌&&◌, List, [], ◌∷◌}
use Rattle.jc_methods.specs.declared.kind.Kind.{Kind}
use Rattle.jc_methods.specs.declared.kind.State.{State}
use Rattle.jc_methods.specs.VerificationTypes.{verification_type}
use Rattle.jc_kinds.specs.Fits.{fits}

-- classes aren't compared, so any list of names will do
abbrev pub kind_fits : Kind → Kind → Bool
kind_fits kind want = fits (verification_type [] kind) (verification_type [] want)

abbrev pub kinds_fit : List Kind → List Kind → Bool
kinds_fit [] [] = true
kinds_fit (k ∷ ks) (w ∷ ws) = kind_fits k w && kinds_fit ks ws
kinds_fit _ _ = false

abbrev pub state_fits : State → State → Bool
state_fits s t = kinds_fit s.locals t.locals && kinds_fit s.stack t.stack
