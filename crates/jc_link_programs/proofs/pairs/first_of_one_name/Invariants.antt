use Rattle.std.proofs.Common.{◌≡◌, length}
use Rattle.jc_link_programs.specs.Pairs.{name_of}
use Rattle.jc_link_programs.proofs.PairsLaws.{Knows, StandsAt}
use Rattle.jc_link_programs.proofs.pairs.first_of_one_name.Given as goal

-- the names of the classes so far are known, each at its class
abbrev pub invariant-naming : goal.invariant-naming
invariant-naming l = Knows name_of l.classes (StandsAt l.names) l.second × (length l.names ≡ l.second)
