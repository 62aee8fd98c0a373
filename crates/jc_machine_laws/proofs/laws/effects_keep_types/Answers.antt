use Rattle.jc_machine_laws.proofs.EffectLaws.{effects_fit_any}
use Rattle.jc_machine_laws.proofs.laws.effects_keep_types.Goals as goal

pub returns : goal.returns
returns c = effects_fit_any
