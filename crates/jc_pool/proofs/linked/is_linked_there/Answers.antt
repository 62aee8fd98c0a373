use Rattle.std.proofs.Common.{sym, ◌∙◌}
use Rattle.jc_pool.specs.Index.{linked_key_at}
use Rattle.jc_pool.proofs.MemberKeyLaws.{key_told}
use Rattle.jc_pool.proofs.linked.is_linked_there.Goals as goal

pub returns-in-Some : goal.returns-in-Some
returns-in-Some c =
    key_told c.eq.result (linked_key_at c.args.firsts.now c.args.slots.now c.args.place) c.in-Some.found c.args.key (sym c.linked_key_at.ensures ∙ c.in-Some.is) c.eq.ensures
