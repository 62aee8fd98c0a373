-- States by their instructions and frames, and their sizes: what jc_kinds_after and jc_kinds prove for themselves alone.
use Rattle.std.proofs.Common.{◌≡◌, ℕ, List, [], ◌∷◌, map, refl, arith}
use Rattle.jc_methods.specs.VerificationTypes.{VerificationType, top, width, slots}
use Rattle.jc_kinds_after.specs.Shift.{renamed}

-- ---- sizes

width-renamed : (image : ℕ → ℕ) (h : VerificationType) → width (renamed image h) ≡ width h
width-renamed image top = refl
width-renamed image h = refl

-- a shifted state takes as many slots of the stack
pub slots-renamed : (image : ℕ → ℕ) (hs : List VerificationType) → slots (map (renamed image) hs) ≡ slots hs
slots-renamed image [] = refl
slots-renamed image (h ∷ hs) = omega (arith, width-renamed image h, slots-renamed image hs)
