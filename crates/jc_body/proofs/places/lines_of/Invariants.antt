use Rattle.std.proofs.Common.{◌≡◌, take}
use Rattle.jc_body.specs.Numbering.{numbering}
use Rattle.jc_body.specs.BodyOf.{lines_of}
use Rattle.jc_body.proofs.places.lines_of.Given as goal

-- the entries so far
abbrev pub invariant-keeping : goal.invariant-keeping
invariant-keeping l = l.lines.items ≡ lines_of (numbering l.offsets) l.offsets.count (take l.entry-index l.entries)
