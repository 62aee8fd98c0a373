use Rattle.std.proofs.Common.{◌≡◌, map, Ok}
use Rattle.jc_command_classes.proofs.each.all_made.Given as goal

-- what the results so far hold is there
abbrev pub invariant-taking : goal.invariant-taking
invariant-taking g l = l.yielded ≡ map Ok l.made.items
