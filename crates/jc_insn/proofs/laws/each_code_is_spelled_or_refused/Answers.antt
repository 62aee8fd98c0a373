use Rattle.jc_insn.proofs.OneReadingLaws.{not_spelled, same_refusal}
use Rattle.jc_insn.proofs.SpelledOrRefusedLaws.{spelled_or_refused}
use Rattle.jc_insn.proofs.laws.each_code_is_spelled_or_refused.Goals as goal

pub returns-clause-each : goal.returns-clause-each
returns-clause-each c = spelled_or_refused

pub returns-clause-apart : goal.returns-clause-apart
returns-clause-apart c = not_spelled

pub returns-clause-one_fault : goal.returns-clause-one_fault
returns-clause-one_fault c = same_refusal
