use Rattle.std.proofs.Common.{sym, ◌∙◌}
use Rattle.jc_plan.proofs.OneWayLaws.{one_body}
use Rattle.jc_plan.proofs.class_laws.each_id_is_of_one_body.Goals as goal

pub returns : goal.returns
returns c bodies m n id b d here there p q =
    one_body bodies m n b d p.branch q.branch here there p.listed q.listed p.probed q.probed (p.has_id ∙ sym q.has_id)
