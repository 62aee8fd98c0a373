use Rattle.jc_command_sample.proofs.OwnEndLaws.{wrote_nothing}
use Rattle.jc_command_sample.proofs.laws.a_sample_that_is_not_done_wrote_nothing.Goals as goal

pub returns : goal.returns
returns c = wrote_nothing
