use Rattle.jc_outside.proofs.PartLaws.{part_taken}
use Rattle.jc_outside.proofs.memory_files.part_of.Goals as goal

pub returns : goal.returns
returns c = part_taken c.args.file.now c.args.from c.min.result c.min-2.result c.min.ensures c.min-2.ensures
