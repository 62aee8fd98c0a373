use Rattle.std.proofs.Common.{inr, arith}
use Rattle.jc_bytes.proofs.OneTextLaws.{are_bytes}
use Rattle.jc_instrument.proofs.ClassWalkLaws.{begun, front_first}
use Rattle.jc_instrument.proofs.class_walk.ClassWalk.of.Goals as goal

pub returns-in-Some-clause-refused : goal.returns-in-Some-clause-refused
returns-in-Some-clause-refused c =
    inr (c.in_ok-class.class, c.in_ok-class.ensures.read, front_first c.in_ok-class.class c.in-Some.refusal c.in-Some.ensures)

pub returns-clause-walk : goal.returns-clause-walk
returns-clause-walk c =
    let known = c.nothing_known.ensures in
    begun c.args.bytes.now _ c.requires (are_bytes c.args.bytes.now (λ i. omega (arith, c.type_inv.bytes i))) c.in_ok-class.ensures.read
    c.in_ok-class.ensures.whole c.in_ok-class.ensures.sizes.methods c.in_default.ensures known.bad known.frames known.probes
