use Rattle.std.proofs.Common.{length, sym, ap, subst, arith}
use Rattle.jc_exec.specs.Store.{IsWritableClass}
use Rattle.jc_exec.proofs.StoreLaws.{all_fit}
use Rattle.jc_exec.proofs.packed_store.PackedStore.class.Goals as goal

pub returns-clause-fits : goal.returns-clause-fits
returns-clause-fits c = subst IsWritableClass (sym c.in_ok-at.ensures)
    (all_fit c.self.inside.records c.self.invariant.1 c.args.place c.in_ok-at.field-0 (omega (arith, c.requires, ap (λ s. length s.classes) c.self.view_is)))
