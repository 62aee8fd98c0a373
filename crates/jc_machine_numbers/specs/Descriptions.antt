-- What the code says of an effect or of a test, as the machine's definitions have it.
use Rattle.std.specs.Prelude.{List, [], ◌∷◌, Option, Some, None, drop}
use Rattle.jc_machine_model.specs.Values.{Value, int, long, null}
use Rattle.jc_machine_model.specs.Effects as effects
use Rattle.jc_machine_model.specs.Jumps.{Tested}
use Rattle.jc_machine_numbers.specs.declared.description.Effect.{Effect}
use Rattle.jc_machine_numbers.specs.declared.description.Effect.TheVariants as described
use Rattle.jc_machine_numbers.specs.declared.description.Test.{Test}
use Rattle.jc_machine_numbers.specs.declared.description.Test.TheVariants as tests

-- the effect on a stack
abbrev pub effect_on : Effect → List Value → effects.Effect
effect_on (described.Int taken value) stack = effects.gives taken (int value ∷ [])
effect_on (described.Long taken value) stack = effects.gives taken (long value ∷ [])
effect_on described.Null stack = effects.gives 0 (null ∷ [])
effect_on (described.Moves taken places) stack = effects.gives taken (effects.results_at places.now stack)
effect_on (described.Raises c) stack = effects.raises c
effect_on described.Unfit stack = effects.unfit

-- the test of a conditional jump on a stack
abbrev pub test_on : Test → List Value → Option Tested
test_on (tests.Takes taken jumps) stack = Some (record { jumps = jumps; stack = drop taken stack })
test_on tests.Unfit stack = None
