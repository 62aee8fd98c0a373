use Rattle.jc_pool.specs.Index.{handle}
use Rattle.jc_pool.specs.Lookup.{member}
use Rattle.jc_pool.proofs.LinkedLaws.{handle_lacks_one, handle_lacks}
use Rattle.jc_pool.proofs.add_linked.missing_handle.Goals as goal

pub returns-in-Some-clause-lacks : goal.returns-in-Some-clause-lacks
returns-in-Some-clause-lacks c = λ kind. handle_lacks_one c.args.slots.now (handle kind (member c.args.m.now)) _ c.in-Some.ensures.first

pub returns-in-None-clause-lacks : goal.returns-in-None-clause-lacks
returns-in-None-clause-lacks c =
    λ kind. handle_lacks c.args.slots.now (handle kind (member c.args.m.now)) c.missing_member.result c.in-None.ensures.none c.missing_member.ensures.lacks
