use Rattle.std.proofs.Common.{rules}
use Rattle.jc_workers.proofs.ClaimLaws.{join_keeps}
use Rattle.jc_workers.proofs.claims.Drawer.join.Goals as goal

pub join_seat-requires : goal.join_seat-requires
join_seat-requires c = (search rules, search rules, search rules, search rules, λ s k there apart yonder. join_keeps _ _ _ _ _ _ _ k there yonder)
