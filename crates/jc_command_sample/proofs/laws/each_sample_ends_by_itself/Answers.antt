use Rattle.jc_command_sample.proofs.OwnEndLaws.{own_sample}
use Rattle.jc_command_sample.proofs.laws.each_sample_ends_by_itself.Goals as goal

pub returns : goal.returns
returns c = own_sample
