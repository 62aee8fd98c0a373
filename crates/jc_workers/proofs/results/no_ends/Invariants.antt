use Rattle.std.proofs.Common.{◌≡◌}
use Rattle.std.specs.Prelude.{replicate, None}
use Rattle.jc_workers.proofs.results.no_ends.Given as goal

abbrev pub invariant-making : goal.invariant-making
invariant-making g l = l.ends.items ≡ replicate l.counter None
