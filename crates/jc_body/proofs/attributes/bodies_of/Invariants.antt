use Rattle.std.proofs.Common.{◌≡◌, map, take}
use Rattle.jc_body.specs.Attributes.{bodies_of}
use Rattle.jc_body.proofs.attributes.bodies_of.Given as goal

abbrev pub invariant-naming : goal.invariant-naming
invariant-naming l = map (λ body. body.now) l.bodies.items ≡ bodies_of l.pool l.name (take l.attribute-index l.attributes)
