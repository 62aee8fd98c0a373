use Rattle.std.proofs.Common.{◌≡◌, length}
use Rattle.jc_methods.specs.WellMade.{what_used}
use Rattle.jc_link_programs.proofs.probe_inits.what_used.Given as goal

-- it stands in what is left
abbrev pub invariant-uses : goal.invariant-uses
invariant-uses l = what_used l.fn.uses l.place ≡ what_used l.rest l.place

abbrev pub decreases-uses : goal.decreases-uses
decreases-uses l = length l.rest
