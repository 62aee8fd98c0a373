use Rattle.std.specs.Prelude.{drop}
use Rattle.jc_bootstraps.specs.BootstrapsReading.{bootstrap_at}
use Rattle.jc_instrument.specs.Bootstraps.{SomeNamesPast}
use Rattle.jc_instrument.proofs.BootstrapsLaws.{Walked}
use Rattle.jc_instrument.proofs.bootstraps.some_names_past.Given as goal

-- none of the bootstrap methods so far names a place past the limit
abbrev pub invariant-passing : goal.invariant-passing
invariant-passing l = Walked bootstrap_at l.count (drop 2 l.body) l._entry l.rest (λ done. SomeNamesPast l.limit done → ⊥)
