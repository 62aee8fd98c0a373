use Rattle.jc_bootstraps.proofs.BootstrapLaws.{Walked}
use Rattle.jc_bootstraps.proofs.bootstraps.read_counted.Given as goal

abbrev pub invariant-reading : goal.invariant-reading
invariant-reading l = Walked l.count l.fn.start l._entry l.rest l.last
