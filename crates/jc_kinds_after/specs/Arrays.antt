-- New arrays of primitive types.
use Rattle.std.specs.Prelude.{ℕ, List, [], ◌∷◌}
use Rattle.jc_methods.specs.VerificationTypes.{object}
use Rattle.jc_kinds_after.specs.declared.want.Want.TheVariants as wants
use Rattle.jc_kinds_after.specs.Step.{StackEffect}
use Rattle.jc_kinds_after.specs.Table.{turns}
use Rattle.jc_kinds_after.specs.After.{element_letter}

-- a length becomes an array, by the code of newarray
abbrev pub array_forms : ℕ → List StackEffect
array_forms elem = turns (wants.Int ∷ []) (object (91 ∷ element_letter elem ∷ []))
