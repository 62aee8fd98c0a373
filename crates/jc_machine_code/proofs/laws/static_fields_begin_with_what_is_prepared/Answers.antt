use Rattle.jc_machine_code.proofs.PrepareLaws.{statics_are}
use Rattle.jc_machine_code.proofs.laws.static_fields_begin_with_what_is_prepared.Goals as goal

pub returns : goal.returns
returns c = λ program prepared is. statics_are program prepared is
