use Rattle.jc_command_sample_laws.proofs.DoneLaws.{sample_ends}
use Rattle.jc_command_sample_laws.proofs.laws.each_sample_is_done.Goals as goal

pub returns : goal.returns
returns c n steps end some within = sample_ends n some within steps end
