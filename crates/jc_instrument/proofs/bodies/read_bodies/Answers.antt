use Rattle.std.proofs.Common.{◌≡◌, ℕ, length, subst, arith}
use Rattle.jc_instrument.specs.Steps.{IsReading}
use Rattle.jc_instrument.proofs.ReadingLaws.{bad_code_refused}
use Rattle.jc_instrument.proofs.bodies.read_bodies.Goals as goal

pub returns-in-Some-clause-refused : goal.returns-in-Some-clause-refused
returns-in-Some-clause-refused c =
    let class = c.args.class.now in
    let end : c.reading.number ≡ length class.methods = omega (arith, c.len-number-end.ensures) in
    bad_code_refused c.reading.names class c.reading.so_far c.in-Some.refusal c.in-Some.is (subst (λ (n : ℕ). IsReading c.reading.names class n c.reading.so_far) end c.reading.invariant.read)
