use Rattle.jc_instrument_laws.proofs.EachFileLaws.{each_file}
use Rattle.jc_instrument.proofs.OneTwinLaws.{file_or_reason, one_file}
use Rattle.jc_instrument_laws.proofs.laws.each_class_file_becomes_one.Goals as goal

pub returns : goal.returns
returns c = record { each = each_file; one = one_file; apart = file_or_reason }
