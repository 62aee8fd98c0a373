use Rattle.std.proofs.Common.{arith}
use Rattle.std.proofs.lemmas.Bool.{false≢true}
use Rattle.jc_instrument.proofs.BootstrapsDecidedLaws.{asks_within}
use Rattle.jc_instrument.proofs.bootstraps.asks_past.Goals as goal

pub returns : goal.returns
returns c = (
  λ t. absurd (false≢true t),
  λ asks.
      let within = asks_within c.args.pool.now c.args.count asks.0 asks.1 in
      absurd (c.asking.invariant asks.0 (omega (arith, within, c.count-place-end.ensures, c.asking-test.false)) asks.1),
)
