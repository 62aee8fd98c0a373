use Rattle.std.proofs.Common.{◌≡◌, take}
use Rattle.jc_exec.specs.Places.{ids_with}
use Rattle.jc_exec.proofs.records.put_ids.Given as goal

-- the ids with those of the records so far
abbrev pub invariant-putting : goal.invariant-putting
invariant-putting l = l.ids ≡ ids_with l.fn.ids (take l.hits-index l.gathered)
