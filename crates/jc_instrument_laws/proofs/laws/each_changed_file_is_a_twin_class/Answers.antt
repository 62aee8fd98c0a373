-- Where bytes become a changed class file, it is the text of a twin of their class.
use Rattle.jc_instrument_laws.proofs.TwinClassLaws.{changed_file}
use Rattle.jc_instrument_laws.proofs.laws.each_changed_file_is_a_twin_class.Goals as goal

pub returns : goal.returns
returns c = changed_file
