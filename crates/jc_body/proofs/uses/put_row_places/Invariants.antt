use Rattle.std.proofs.Common.{◌≡◌, ◌++◌, take}
use Rattle.jc_body.specs.BodyOf.{row_places}
use Rattle.jc_body.proofs.uses.put_row_places.Given as goal

-- the places of the rows so far
abbrev pub invariant-putting : goal.invariant-putting
invariant-putting l = l.places.items ≡ l.initial.places.items ++ row_places (take l.row-index l.rows)
