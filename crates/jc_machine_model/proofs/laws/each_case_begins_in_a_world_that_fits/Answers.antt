use Rattle.jc_machine_model.proofs.BeginLaws.{begin_fits}
use Rattle.jc_machine_model.proofs.laws.each_case_begins_in_a_world_that_fits.Goals as goal

pub returns : goal.returns
returns c = begin_fits
