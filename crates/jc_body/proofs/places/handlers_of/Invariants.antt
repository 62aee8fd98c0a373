use Rattle.std.proofs.Common.{◌≡◌, map, take}
use Rattle.jc_body.specs.Numbering.{numbering}
use Rattle.jc_body.specs.BodyOf.{handler_of}
use Rattle.jc_body.proofs.places.handlers_of.Given as goal

-- the rows so far
abbrev pub invariant-numbering : goal.invariant-numbering
invariant-numbering l = l.handlers.items ≡ map (handler_of (numbering l.offsets)) (take l.row-index l.rows)
