use Rattle.std.proofs.Common.{◌≡◌}
use Rattle.std.specs.List.{flat_map}
use Rattle.jc_command_classes.proofs.each.joined.Given as goal

-- the answers of the runs so far are there
abbrev pub invariant-joining : goal.invariant-joining
invariant-joining g l = l.answers.items ≡ flat_map (λ run. run.items) l.yielded
