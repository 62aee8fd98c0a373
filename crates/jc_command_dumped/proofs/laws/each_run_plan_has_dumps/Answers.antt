use Rattle.jc_command_dumped.proofs.SomeDumps.{some_dumps}
use Rattle.jc_command_dumped.proofs.laws.each_run_plan_has_dumps.Goals as goal

pub returns : goal.returns
returns c program plan every workers is have some = some_dumps program plan every some is have workers
