-- Each body of the twin of a program passes the kind check.
use Rattle.jc_twin_programs.proofs.ProgramLaws.{program_verified}
use Rattle.jc_twin_programs.proofs.checks.each_twin_program_is_verified.Goals as goal

pub returns : goal.returns
returns c = program_verified
