use Rattle.jc_instrument.proofs.ConstantsLaws.{giver_planned}
use Rattle.jc_instrument.proofs.constants.planned_giver.Goals as goal

pub returns-in-Constant-clause-place : goal.returns-in-Constant-clause-place
returns-in-Constant-clause-place c =
    giver_planned c.args.pool.now c.args.fetch c.args.bootstrap c.in-Constant.is c.place_of_dynamic.result c.place_of_dynamic.ensures.place
