use Rattle.std.proofs.Common.{ℕ, ◌+◌, ap}
use Rattle.jc_pool.specs.Index.{computed}
use Rattle.jc_pool.proofs.LinkedLaws.{computed_lacks}
use Rattle.jc_pool.proofs.add_linked.missing_computed.Goals as goal

pub returns-clause-lacks : goal.returns-clause-lacks
returns-clause-lacks c =
    computed_lacks c.args.slots.now c.args.index.now (computed c.args.c.now) (c.missing_signature.result + 1) c.text_place-name.result c.text_place-desc.result c.signature_place-found.result
    c.eq.result c.requires c.text_place-name.ensures c.text_place-desc.ensures c.signature_place-found.ensures c.eq.ensures
    (ap (λ (n : ℕ). n + 1) c.missing_signature.ensures.count)
