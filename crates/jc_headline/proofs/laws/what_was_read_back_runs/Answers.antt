use Rattle.jc_command_work.proofs.Prefix.{done_means}
use Rattle.jc_headline.specs.CoverWork.{cover_work}
use Rattle.jc_headline.proofs.CoverRunLaws.{cover_ran}
use Rattle.jc_headline.proofs.laws.what_was_read_back_runs.Goals as goal

pub returns : goal.returns
returns c = λ landed cover old new f f' ends. cover_ran landed cover old new (done_means landed (cover_work cover) old new f f' ends).1
