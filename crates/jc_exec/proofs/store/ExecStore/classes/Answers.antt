use Rattle.std.proofs.Common.{All, sym, subst}
use Rattle.jc_exec.specs.Store.{IsWritableClass}
use Rattle.jc_exec.proofs.StoreLaws.{all_fit}
use Rattle.jc_exec.proofs.store.ExecStore.classes.Goals as goal

pub returns-clause-fits : goal.returns-clause-fits
returns-clause-fits c = subst (All IsWritableClass) (sym c.classes.ensures) (all_fit c.self.inside.records c.self.invariant.1)
