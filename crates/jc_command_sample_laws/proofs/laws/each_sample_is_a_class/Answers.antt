use Rattle.jc_command_sample_laws.proofs.SampleTextLaws.{sample_is_text}
use Rattle.jc_command_sample_laws.proofs.laws.each_sample_is_a_class.Goals as goal

pub returns : goal.returns
returns c = sample_is_text
