use Rattle.std.proofs.Common.{◌≡◌, length}
use Rattle.jc_link_programs.specs.ProbeInits.{added_of}
use Rattle.jc_link_programs.proofs.probe_inits.added_of.Given as goal

-- it is the first of what is left
abbrev pub invariant-bodies : goal.invariant-bodies
invariant-bodies l = added_of l.fetch l.fn.bodies ≡ added_of l.fetch l.rest

abbrev pub decreases-bodies : goal.decreases-bodies
decreases-bodies l = length l.rest
