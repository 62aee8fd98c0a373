use Rattle.std.proofs.Common.{arith}
use Rattle.jc_instrument_code.proofs.FirstPlaceLaws.{text_within}
use Rattle.jc_instrument_code.proofs.texts.first_text.Goals as goal

pub returns-clause-none : goal.returns-clause-none
returns-clause-none c place there =
    let within = text_within c.args.pool.now place c.args.text.now there in
    let count = c.count-place-end.ensures in
    let done = c.searching-test.false in
    c.searching.invariant place (omega (arith, within, count, done)) there
