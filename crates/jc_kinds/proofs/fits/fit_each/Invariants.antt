use Rattle.std.proofs.Common.{◌≡◌, drop}
use Rattle.jc_kinds.specs.KindFits.{kinds_fit}
use Rattle.jc_kinds.proofs.fits.fit_each.Given as goal

-- those so far fit, so that the others decide
abbrev pub invariant-fitting : goal.invariant-fitting
invariant-fitting l = kinds_fit l.kinds l.wants ≡ kinds_fit (drop l.i l.kinds) (drop l.i l.wants)
