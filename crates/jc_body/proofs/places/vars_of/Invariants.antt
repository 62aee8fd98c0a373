use Rattle.std.proofs.Common.{◌≡◌, take}
use Rattle.jc_body.specs.Numbering.{numbering}
use Rattle.jc_body.specs.BodyOf.{vars_of}
use Rattle.jc_body.proofs.places.vars_of.Given as goal

-- the entries so far
abbrev pub invariant-keeping : goal.invariant-keeping
invariant-keeping l = l.vars.items ≡ vars_of (numbering l.offsets) l.offsets.count l.offsets.size l.max_locals (take l.entry-index l.entries)
