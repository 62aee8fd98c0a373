use Rattle.jc_command_work.proofs.Prefix.{some_work, one_work}
use Rattle.jc_command_sample.specs.SampleWork.{sample_work}
use Rattle.jc_command_sample.proofs.OneSampleLaws.{has_sample}
use Rattle.jc_command_sample.proofs.laws.each_sample_has_one_work.Goals as goal

pub returns-clause-some : goal.returns-clause-some
returns-clause-some c landed n w within told = some_work landed (sample_work n) w (has_sample landed n within w told)

pub returns-clause-one : goal.returns-clause-one
returns-clause-one c landed n w a b within told p q = one_work landed (sample_work n) w (has_sample landed n within w told) a b p q
