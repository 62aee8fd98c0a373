use Rattle.jc_link_programs.proofs.OneRefusalLaws.{one_refusal, program_or_refusal, same_program}
use Rattle.jc_link_programs.proofs.laws.files_have_a_program_or_one_refusal.Goals as goal

pub returns : goal.returns
returns c = record { apart = program_or_refusal; one_refusal = one_refusal; same = same_program }
