use Rattle.std.proofs.Common.{◌≡◌, length}
use Rattle.std.specs.List.{list_all}
use Rattle.jc_command_words.specs.Paths.{components, is_component}
use Rattle.jc_command_words.proofs.paths.are_components.Given as goal

-- the parts that are left decide
abbrev pub invariant-parts : goal.invariant-parts
invariant-parts l = list_all is_component (components l.bytes) ≡ list_all is_component (components l.rest)

abbrev pub decreases-parts : goal.decreases-parts
decreases-parts l = length l.rest
