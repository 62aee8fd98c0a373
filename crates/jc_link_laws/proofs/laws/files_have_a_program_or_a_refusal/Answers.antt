use Rattle.jc_link_laws.proofs.SomeProgramLaws.{program_or_reason}
use Rattle.jc_link_laws.proofs.laws.files_have_a_program_or_a_refusal.Goals as goal

pub returns : goal.returns
returns c = program_or_reason
