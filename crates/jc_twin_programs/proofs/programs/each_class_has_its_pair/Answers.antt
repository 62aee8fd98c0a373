use Rattle.jc_twin_programs.proofs.SeenProgramLaws.{classes_alike, class_pair, added_last}
use Rattle.jc_twin_programs.proofs.programs.each_class_has_its_pair.Goals as goal

pub returns : goal.returns
returns c = record { count = classes_alike; pair = class_pair; added = added_last }
