use Rattle.std.proofs.Common.{rules, tests}
use Rattle.std.specs.Prelude.{IsTrue}
use Rattle.std.proofs.lemmas.Iterator.{YieldsList-from_slice}
use Rattle.jc_body.proofs.FirstLaws.{first_by_position}
use Rattle.jc_instrument.specs.LeftAlone.{has_code}
use Rattle.jc_instrument.proofs.alone.first_with_code.Goals as goal

pub returns : goal.returns
returns c =
    first_by_position (λ method. IsTrue (has_code c.args.pool.now method)) _ _ _ c.position.ensures.ran
    (YieldsList-from_slice c.args.methods.now c.iter.ensures.rest) (λ y q k. search (rules, tests)) (λ y q k. search (rules, tests))
