-- A method whose instrumented code was written is read as a twin, and passes the kind check.
use Rattle.jc_instrument_reread.proofs.AgainLaws.{read_at_as_twin, written_at_passes}
use Rattle.jc_instrument_reread.proofs.laws.each_written_method_is_read_back.Goals as goal

pub returns : goal.returns
returns c = record { twin = read_at_as_twin; passes = written_at_passes }
