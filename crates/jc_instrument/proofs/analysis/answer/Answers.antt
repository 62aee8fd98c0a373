use Rattle.std.proofs.Common.{arith}
use Rattle.jc_bytes.proofs.OneTextLaws.{are_bytes}
use Rattle.jc_instrument.proofs.SmallBodiesLaws.{few_of_class}
use Rattle.jc_instrument.proofs.analysis.answer.Goals as goal

pub described-requires-clause-few : goal.described-requires-clause-few
described-requires-clause-few c =
    let bytes = c.args.bytes.now in
    few_of_class c.in_ok-class.class c.in_ok-bodies.bodies
    (record { bytes = bytes; are = are_bytes bytes (λ i. omega (arith, c.type_inv.bytes i)); few = c.requires; text = c.in_ok-class.ensures.read })
    c.in_ok-bodies.ensures.bodies
