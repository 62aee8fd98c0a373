-- Tests that are true together.
use Rattle.std.proofs.Common.{◌≡◌, refl, Bool, true, false, ◌&&◌, ◌||◌}

pub both_true : (a b : Bool) → a ≡ true → b ≡ true → (a && b) ≡ true
both_true a b p q = rw (p, q) refl

pub either-false : (a b : Bool) → (a || b) ≡ false → (a ≡ false) × (b ≡ false)
either-false true b h = cc
either-false false b h = (refl, h)
