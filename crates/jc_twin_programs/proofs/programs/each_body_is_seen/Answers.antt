use Rattle.jc_twin_programs.proofs.SeenProgramLaws.{body_seen, marks_one, ids_seen}
use Rattle.jc_twin_programs.proofs.programs.each_body_is_seen.Goals as goal

pub returns : goal.returns
returns c = record { seen = body_seen; marks = marks_one; ids = ids_seen }
