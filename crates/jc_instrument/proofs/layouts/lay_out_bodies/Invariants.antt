use Rattle.std.proofs.Common.{length}
use Rattle.jc_instrument.proofs.LayoutsLaws.{IsLaying}
use Rattle.jc_instrument.proofs.layouts.lay_out_bodies.Given as goal

-- the bodies so far have their layouts
abbrev pub invariant-laying : goal.invariant-laying
invariant-laying l = IsLaying l.fn.names l.class l.constants l.fn.bodies l.names (length l.yielded) l.planned
