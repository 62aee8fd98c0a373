use Rattle.jc_exec.proofs.AnsweringLaws.{answered}
use Rattle.jc_exec.proofs.RefusingLaws as refusing
use Rattle.jc_exec.proofs.laws.one_answer_to_each_text.Goals as goal

pub returns : goal.returns
returns c = record { each = answered; apart = refusing.not_both; one_reason = refusing.one_reason }
