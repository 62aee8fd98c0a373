use Rattle.std.proofs.Common.{length}
use Rattle.jc_instrument.proofs.PuttingLaws.{IsPutting}
use Rattle.jc_instrument.proofs.members.put_codes.Given as goal

-- the methods of the bodies so far have their code
abbrev pub invariant-putting : goal.invariant-putting
invariant-putting l = IsPutting l.fn.names l.fn.all.constants.now l.fn.all.source.now l.fn.pool l.places l.fn.all.bodies l.fn.methods (length l.yielded) l.names l.pool l.methods.items
