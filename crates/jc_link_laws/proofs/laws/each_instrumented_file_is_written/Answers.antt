use Rattle.jc_link_laws.proofs.WrittenFileLaws.{written_of}
use Rattle.jc_link_laws.proofs.laws.each_instrumented_file_is_written.Goals as goal

pub returns : goal.returns
returns c = written_of
