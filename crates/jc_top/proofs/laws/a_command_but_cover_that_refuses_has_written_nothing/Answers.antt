use Rattle.jc_command_dumped.specs.DumpedAnswers.{DumpedAnswers}
use Rattle.jc_top.proofs.WorkLaws.{all_or_nothing}
use Rattle.jc_top.proofs.laws.a_command_but_cover_that_refuses_has_written_nothing.Goals as goal

pub returns : goal.returns
returns c taken words steps end first comes = all_or_nothing (DumpedAnswers taken) words first steps end comes
