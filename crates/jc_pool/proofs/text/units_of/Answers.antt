use Rattle.std.proofs.Common.{rules, ◌<◌, ◌^◌, length, arith}
use Rattle.std.proofs.lemmas.Bool.Decides.{nat_tests}
use Rattle.jc_pool.proofs.TextLaws.{one_more, none_spelled}
use Rattle.jc_pool.proofs.text.units_of.Goals as goal

pub reading-preserved : goal.reading-preserved
reading-preserved c =
    let small : c.in-Some.unit < 2 ^ 16 = search rules in
    one_more c.args.modified.now c.reading.units.items c.push.new.self.items c.reading.rest.now c.in-Some.after.now c.in-Some.unit
    c.in_ok-push.ensures.items small c.in-Some.ensures.unit c.reading.invariant

pub returns-else-is_empty : goal.returns-else-is_empty
returns-else-is_empty c =
    let some : 0 < length c.reading.rest.now = search (arith, nat_tests, rules) in
    none_spelled c.args.modified.now c.reading.units.items c.reading.rest.now some c.in_default.ensures.none c.reading.invariant
