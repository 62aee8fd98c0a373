use Rattle.std.proofs.Common.{◌≡◌, ◌++◌, length}
use Rattle.std.specs.Option.{option_copied, option_to_list}
use Rattle.jc_bootstraps.specs.Bootstraps.{bootstrap_bodies}
use Rattle.jc_bootstraps.proofs.bootstraps.class_bootstraps.Given as goal

-- what was found, and what the attributes that are left hold, is what all of them hold
abbrev pub invariant-naming : goal.invariant-naming
invariant-naming l = option_to_list (option_copied l.found) ++ bootstrap_bodies l.class.pool l.rest ≡ bootstrap_bodies l.class.pool l.class.attributes

abbrev pub decreases-naming : goal.decreases-naming
decreases-naming l = length l.rest
