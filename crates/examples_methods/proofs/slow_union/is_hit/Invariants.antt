use Rattle.std.proofs.Common.{◌≡◌, false, take}
use Rattle.std.specs.List.{list_any}
use Rattle.examples_methods.proofs.slow_union.is_hit.Given as goal

-- none of the bits so far is set
abbrev pub invariant-looking : goal.invariant-looking
invariant-looking l = list_any (λ b. b) (take l.index l.bits) ≡ false
