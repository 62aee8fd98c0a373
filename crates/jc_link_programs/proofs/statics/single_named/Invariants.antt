use Rattle.std.proofs.Common.{◌≡◌, length}
use Rattle.std.specs.Option.{option_copied}
use Rattle.jc_body.specs.Attributes.{bodies_of}
use Rattle.jc_link_programs.specs.Statics.{single}
use Rattle.jc_link_programs.proofs.SingleLaws.{single_behind}
use Rattle.jc_link_programs.proofs.statics.single_named.Given as goal

-- it is the only one, where what was found stands in front of what is left
abbrev pub invariant-naming : goal.invariant-naming
invariant-naming l = single (bodies_of l.pool l.name l.fn.attributes) ≡ single_behind (option_copied l.found) (bodies_of l.pool l.name l.rest)

abbrev pub decreases-naming : goal.decreases-naming
decreases-naming l = length l.rest
