use Rattle.jc_twin_simulation.proofs.ProgramRunLaws.{have_marks, have_one}
use Rattle.jc_twin_simulation.proofs.each_twin_program_has_marks.Goals as goal

pub returns : goal.returns
returns c = record { there = have_marks; one = have_one }
