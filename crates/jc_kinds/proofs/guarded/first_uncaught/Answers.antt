use Rattle.jc_kinds.proofs.GuardLaws.{next_uncaught, no_rows_uncaught}
use Rattle.jc_kinds.proofs.guarded.first_uncaught.Goals as goal

pub catching-init : goal.catching-init
catching-init c = no_rows_uncaught c.args.framed.now.body.now.frames c.args.bound

pub catching-preserved : goal.catching-preserved
catching-preserved c =
    next_uncaught c.args.framed.now.body.now.frames c.args.handlers.now c.catching.handler-index c.args.bound c.catching.first c.first_in_range-first.result c.catching-test.true
    c.catching.invariant c.first_in_range-first.ensures
