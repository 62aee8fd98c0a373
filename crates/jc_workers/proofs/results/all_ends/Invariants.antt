use Rattle.std.proofs.Common.{◌≡◌}
use Rattle.std.specs.List.{filter_map}
use Rattle.jc_workers.proofs.results.all_ends.Given as goal

abbrev pub invariant-taking : goal.invariant-taking
invariant-taking g l = l.all.items ≡ filter_map (λ end. end) l.yielded
