use Rattle.jc_methods.specs.VerificationTypes.{Grows}
use Rattle.jc_instrument.specs.Steps.{IsReading}
use Rattle.jc_instrument.proofs.bodies.read_bodies.Given as goal

-- the methods so far are read
abbrev pub invariant-reading : goal.invariant-reading
invariant-reading l = record { read : IsReading l.names l.class l.number l.so_far; grows : Grows l.fn.names l.names }
