use Rattle.jc_bytes.proofs.FirstSeenLaws.{first_seen_distinct}
use Rattle.jc_plan.proofs.laws.each_target_is_once.Goals as goal

pub returns : goal.returns
returns c = first_seen_distinct
