-- Verification types have a slot each at least.
use Rattle.std.proofs.Common.{◌≤◌, List, [], ◌∷◌, length, arith}
use Rattle.jc_methods.specs.VerificationTypes.{VerificationType, width, slots}
use Rattle.jc_methods.specs.VerificationTypes as verification

pub some_width : (h : VerificationType) → 1 ≤ width h
some_width verification.double = omega arith
some_width verification.long = omega arith
some_width h = omega arith

pub as_many : (hs : List VerificationType) → length hs ≤ slots hs
as_many [] = omega arith
as_many (h ∷ hs) = let e = some_width h in let r = as_many hs in omega (arith, e, r)
