use Rattle.std.proofs.Common.{◌*◌, arith}
use Rattle.jc_cover.specs.declared.coverage.Count.{Count}
use Rattle.jc_rules.specs.declared.total.Totalled.{Totalled}
use Rattle.jc_rules.proofs.AddingLaws.{adds_none, adds_more, added_all, at_most_more}
use Rattle.jc_rules.proofs.adding.totals.Goals as goal

abbrev none : Totalled
none =
    let count : Count = record { missed = 0; covered = 0 } in
    record { counters = record { instruction = count; branch = count; line = count; complexity = count; method = count } }

pub adding-init : goal.adding-init
adding-init c = adds_none c.args.classes.now c.no_totals-totals.result c.no_totals-totals.ensures

pub plus_class-totals-requires : goal.plus_class-totals-requires
plus_class-totals-requires c =
    let k = c.adding.class-index in
    let lt = c.adding-test.true in
    let few = c.requires in
    at_most_more (k * 4294967295) 18446744069414584320 (omega (arith, lt, few)) c.adding.totals c.adding.invariant.small

pub adding-preserved : goal.adding-preserved
adding-preserved c =
    let put = c.plus_class-totals.ensures in
    adds_more c.args.classes.now c.adding.class-index none c.adding.totals c.plus_class-totals.result c.adding-test.true put.sum put.small c.adding.invariant

pub returns : goal.returns
returns c = added_all c.args.classes.now c.adding.class-index c.adding.totals c.adding-test.false c.adding.invariant
