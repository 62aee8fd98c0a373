use Rattle.std.proofs.Common.{[], arith}
use Rattle.tests_bodies.proofs.tables.fault.Goals as goal

pub frame_fault-requires-clause-locals : goal.frame_fault-requires-clause-locals
frame_fault-requires-clause-locals c = let locals = (c.in_ok-state.ensures.made [] 0).locals in omega (arith, locals, c.ranges.ground)
