use Rattle.std.proofs.Common.{◌≡◌, Some, map, take}
use Rattle.jc_pool.specs.Lookup.{class_name_of}
use Rattle.jc_instrument.proofs.described.class_names_at.Given as goal

-- the names so far
abbrev pub invariant-naming : goal.invariant-naming
invariant-naming l = map Some l.names ≡ map (class_name_of l.pool) (take l.place-index l.places)
