use Rattle.std.proofs.Common.{◌≡◌, take, All}
use Rattle.jc_methods.specs.WellMade.{HasShortTexts}
use Rattle.jc_body.specs.Used.{uses_of}
use Rattle.jc_body.proofs.uses.listed_uses.Given as goal

-- what stands at the places so far
abbrev pub invariant-listing : goal.invariant-listing
invariant-listing l = (l.uses.items ≡ uses_of l.pool (take l.place-index l.places)) × All (λ u. HasShortTexts u.what) l.uses.items
