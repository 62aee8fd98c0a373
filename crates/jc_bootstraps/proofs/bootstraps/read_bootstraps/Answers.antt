use Rattle.std.proofs.Common.{sym}
use Rattle.jc_bootstraps.proofs.BootstrapLaws.{counted_front, nothing_front}
use Rattle.jc_bootstraps.proofs.bootstraps.read_bootstraps.Goals as goal

pub returns-in_err-count-clause-none : goal.returns-in_err-count-clause-none
returns-in_err-count-clause-none c = rw c.from_residual.ensures (λ entries e. nothing_front c.args.body.now (sym c.in_err-count.ensures) entries e)

pub returns-clause-some : goal.returns-clause-some
returns-clause-some c =
    rw (counted_front c.args.body.now c.in_ok-count.count c.in_ok-count.start.now (sym c.in_ok-count.ensures)) c.read_counted.ensures.some

pub returns-clause-none : goal.returns-clause-none
returns-clause-none c =
    rw (counted_front c.args.body.now c.in_ok-count.count c.in_ok-count.start.now (sym c.in_ok-count.ensures)) c.read_counted.ensures.none
