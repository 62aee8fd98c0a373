use Rattle.jc_instrument.proofs.ConstantsLaws.{integers_planned, no_integers}
use Rattle.jc_instrument.proofs.constants.planned_integers.Goals as goal

pub returns-then-many-eq0 : goal.returns-then-many-eq0
returns-then-many-eq0 c =
    no_integers c.args.pool.now c.args.start c.args.count c.long_count-many.result c.new.result c.long_count-many.ensures.many c.if-many-eq0.true c.new.ensures

pub returns : goal.returns
returns c =
    integers_planned c.args.pool.now c.args.start c.args.count c.long_count-many.result c.in_ok-planned.planned.count c.in_ok-planned.planned.places
    c.long_count-many.ensures.many c.in_ok-planned.ensures
