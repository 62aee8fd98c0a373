use Rattle.jc_twin_programs.proofs.SeenProgramLaws.{program_owned}
use Rattle.jc_twin_programs.proofs.programs.each_body_is_owned.Goals as goal

pub returns : goal.returns
returns c = program_owned
