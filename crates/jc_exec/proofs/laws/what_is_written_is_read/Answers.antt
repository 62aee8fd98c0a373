use Rattle.jc_exec.proofs.WritingLaws.{written_blocks, written_union}
use Rattle.jc_exec.proofs.laws.what_is_written_is_read.Goals as goal

pub returns : goal.returns
returns c = record { blocks = written_blocks; union = written_union }
