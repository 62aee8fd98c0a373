use Rattle.jc_link_programs.proofs.OneRefusalLaws.{one_link_reason}
use Rattle.jc_link_programs.proofs.laws.each_file_has_one_link_reason.Goals as goal

pub returns : goal.returns
returns c = one_link_reason
