use Rattle.std.proofs.Common.{◌≡◌, ◌∷◌, map, take}
use Rattle.jc_methods.specs.ValueTypes.{held_by}
use Rattle.jc_kinds_after.specs.After.{want_for}
use Rattle.jc_kinds_after.specs.declared.want.Want.TheVariants as wants
use Rattle.jc_kinds_after.proofs.effect.wants_of.Given as goal

abbrev pub invariant-parameters : goal.invariant-parameters
invariant-parameters l = l.wants.items ≡ wants.Reference ∷ map (λ value. want_for (held_by value)) (take l.value-index l.parameters)
